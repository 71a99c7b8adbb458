use Rattle.std.proofs.Common.{Some}
use Rattle.host_timeline.specs.Booking.{conflicting, conflicting_after, keys_of}
use Rattle.replay_check.proofs.ApartLemmas.{none_found}
use Rattle.replay_check.proofs.clash.has_conflict.Goals as goal

pub returns : goal.returns
returns c =
    let b = c.args.booking.now in
    let list = c.args.timeline.now.list in
    none_found c.is_some.result c.next_conflict.result (λ key. keys_of (conflicting_after b.class b.interval (Some key) list)) (conflicting b.class b.interval list) c.is_some.ensures c.next_conflict.ensures.walk

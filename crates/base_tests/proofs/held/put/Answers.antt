use Rattle.std.proofs.Common.{◌∙◌, ap}
use Rattle.std.specs.Ordering.{is_eq}
use Rattle.ps_time.specs.Key.{key_cmp}
use Rattle.host_timeline.specs.Booking.{conflicts_with, conflicting, without_conflicts}
use Rattle.host_timeline.specs.Timeline.{find_booking, without_booking}
use Rattle.host_timeline.proofs.PutLemmas.{find_fewer, find_without, filter_without}
use Rattle.base_tests.proofs.held.put.Goals as goal

pub book-requires-clause-new_key : goal.book-requires-clause-new_key
book-requires-clause-new_key c =
    let same = c.in_ok-reserve.ensures.same ∙ c.release_conflicts.ensures.list ∙ ap (without_conflicts c.args.booking.class c.args.booking.interval) c.release.ensures.list in
    ap (λ list. find_booking list c.args.booking.key) same ∙ find_fewer (λ b. is_eq (key_cmp b.key c.args.booking.key)) _ (without_booking c.args.timeline.now.list c.args.booking.key) (find_without (λ b. is_eq (key_cmp b.key c.args.booking.key)) c.args.timeline.now.list)

pub book-requires-clause-no_conflict : goal.book-requires-clause-no_conflict
book-requires-clause-no_conflict c =
    let same = c.in_ok-reserve.ensures.same ∙ c.release_conflicts.ensures.list in
    ap (conflicting c.args.booking.class c.args.booking.interval) same ∙ filter_without (conflicts_with c.args.booking.class c.args.booking.interval) c.release.new.self.list

use Rattle.std.proofs.Common.{◌∙◌, ap, set, sym}
use Rattle.host_timeline.specs.Lane.{starts_of}
use Rattle.host_timeline.specs.Timeline.{started_booking}
use Rattle.host_timeline.proofs.StartLemmas.{starts_kept}
use Rattle.host_timeline.proofs.booking_list.BookingList.mark_started.Goals as goal

-- it starts when it did
pub invariant_of-self : goal.invariant_of-self
invariant_of-self c =
    let bs = c.self.inside.bookings.list in
    let written = ap (set bs c.args.at) (c.started.ensures ∙ ap started_booking c.index.ensures) in
    c.self.invariant ∙ sym (ap starts_of written ∙ starts_kept bs c.args.at c.index.result.now)

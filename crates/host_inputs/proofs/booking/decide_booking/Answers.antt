use Rattle.std.proofs.Common.{◌≡◌, ◌∙◌, Some, sym, ap}
use Rattle.part_core.specs.Seen.{place_in}
use Rattle.host_model.specs.Booking.{booking_outcome}
use Rattle.host_model.specs.Fits.{denial_of, place_of}
use Rattle.host_model.specs.Propose.{decide}
use Rattle.host_model.specs.declared.part.Decision.TheVariants.{Denied}
use Rattle.host_inputs.specs.Kept.{book_of}
use Rattle.host_inputs.proofs.BookingLemmas.{denied_for}
use Rattle.host_inputs.proofs.booking.decide_booking.Goals as goal

pub returns-in-Denied : goal.returns-in-Denied
returns-in-Denied g c =
    let config = c.args.config.now in
    let limits = g.R.Reading.in_force c.args.book.now in
    let rows = g.R.Reading.seen c.args.book.now in
    let m = g.R.Reading.at c.args.book.now in
    let b = book_of m rows (g.R.Hosting.kept c.args.book.now) in
    let decided : decide (place_in config config.name limits rows) rows m c.args.proposal ≡ Denied c.in-Denied.denial =
    ap (λ name. decide (place_in config name limits rows) rows m c.args.proposal) (sym c.as_str.ensures) ∙ (sym c.in_ok-decide.ensures.value ∙ c.in-Denied.is) in
    let denied = denied_for (place_in config config.name limits rows) rows m c.args.proposal c.requires.new c.in-Denied.denial decided in
    let is : denial_of (place_of config b config.name) rows m c.args.proposal ≡ Some c.in-Denied.denial =
    ap (λ l. denial_of (place_in config config.name l rows) rows m c.args.proposal) c.requires.limits ∙ denied in
    c.answered.ensures ∙ sym (ap (booking_outcome config b c.args.proposal) is)

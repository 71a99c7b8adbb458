use Rattle.std.proofs.Common.{◌∙◌, ◌+◌, sym, ap, subst}
use Rattle.plugin_core.specs.Bounds.{IsTest}
use Rattle.run_states.specs.Rows.{find_row}
use Rattle.run_states.specs.declared.proposal.Proposal.{Proposal}
use Rattle.host_model.specs.Booking.{booking_key}
use Rattle.host_model.proofs.BookBrings.{booked_test}
use Rattle.host_inputs.proofs.BookingLemmas.{next_new}
use Rattle.host_inputs.proofs.booking.book_run.Goals as goal

-- its test is within bounds
pub decide_booking-requires-clause-test : goal.decide_booking-requires-clause-test
decide_booking-requires-clause-test g c =
    subst (λ (p : Proposal). IsTest p.test) (sym c.in_ok-proposal.ensures) (booked_test c.args.config.now.name c.args.class c.args.duration c.requires.name c.requires.some c.requires.short)

-- its number is the next one
pub decide_booking-requires-clause-new : goal.decide_booking-requires-clause-new
decide_booking-requires-clause-new g c =
    let rows = g.R.Reading.seen c.args.book.now in
    let host = c.args.config.now.number in
    ap (λ (p : Proposal). find_row rows p.key) c.in_ok-proposal.ensures
    ∙ (ap (λ n. find_row rows (booking_key host (n + 1))) c.greatest_number-last.ensures.number ∙ next_new host rows)

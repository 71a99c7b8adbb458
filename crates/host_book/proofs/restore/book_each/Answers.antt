use Rattle.std.proofs.Common.{ℕ, take, add-one, ap, ap₂, sym, subst, ◌∙◌, arith}
use Rattle.run_states.specs.declared.row.RunRow.{RunRow}
use Rattle.part_core.specs.Reservations.{booking_of, bookings_of}
use Rattle.host_book.specs.Restore.{with_found, IsFree}
use Rattle.host_book.proofs.RestoreLemmas.{book_next, free_next}
use Rattle.host_book.proofs.restore.book_each.Goals as goal

-- the next row has no conflict with those before it
pub book-requires-clause-free : goal.book-requires-clause-free
book-requires-clause-free c =
    let rows = c.args.rows.now in
    let i : ℕ = c.loop-row.row-index in
    let row : RunRow = c.row-item.result in
    subst (λ o. IsFree o c.loop-row.timeline.list) (sym c.booking_of.ensures)
    (subst (IsFree (booking_of row)) (sym c.loop-row.invariant.list) (free_next rows i row (omega arith) c.row-item.is c.requires.ascending c.requires.apart))

pub loop-row-preserved : goal.loop-row-preserved
loop-row-preserved c =
    let rows = c.args.rows.now in
    let i : ℕ = c.loop-row.row-index in
    let row : RunRow = c.row-item.result in
    let room = c.book.ensures.room in
    let before = c.loop-row.invariant.room in
    record {
      list = c.book.ensures.list ∙ (ap₂ with_found c.booking_of.ensures c.loop-row.invariant.list ∙ (book_next rows i row (omega arith) c.row-item.is c.requires.ascending ∙ ap (λ n. bookings_of (take n rows)) (sym (add-one i))));
      room = omega (arith, room, before);
    }

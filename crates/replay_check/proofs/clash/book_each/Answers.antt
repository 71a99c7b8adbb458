use Rattle.std.proofs.Common.{ℕ, take, add-one, ap, ap₂, refl, sym, subst, ◌∙◌, arith}
use Rattle.run_states.specs.declared.row.RunRow.{RunRow}
use Rattle.part_core.specs.Reservations.{booking_of, bookings_of}
use Rattle.host_book.specs.Restore.{with_found, IsFree}
use Rattle.host_book.proofs.RestoreLemmas.{book_next, free_next}
use Rattle.replay_check.specs.NewKey.{HasNewKey}
use Rattle.replay_check.proofs.ApartLemmas.{all_apart, new_next}
use Rattle.replay_check.proofs.clash.book_each.Goals as goal

pub book-requires-clause-new_key : goal.book-requires-clause-new_key
book-requires-clause-new_key c =
    let i : ℕ = c.loop-row.row-index in
    let row : RunRow = c.row-item.result in
    subst (λ o. HasNewKey o c.loop-row.timeline.list) (sym c.booking_of.ensures)
    (subst (HasNewKey (booking_of row)) (sym c.loop-row.invariant.list) (new_next c.args.rows.now i row (omega arith) c.row-item.is c.requires.ascending))

-- where no rows clash, the next one has no conflict with those before it
pub returns-then-not-book : goal.returns-then-not-book
returns-then-not-book c =
    let i : ℕ = c.loop-row.row-index in
    let row : RunRow = c.row-item.result in (
      λ yes. cc,
      λ apart.
          let free : IsFree c.booking_of.result c.loop-row.timeline.list = subst (λ o. IsFree o c.loop-row.timeline.list) (sym c.booking_of.ensures)
          (subst (IsFree (booking_of row)) (sym c.loop-row.invariant.list) (free_next c.args.rows.now i row (omega arith) c.row-item.is c.requires.ascending apart)) in
          let booked = c.book.ensures.free.1 free in
          let refused = c.if-not-book.true in
          cc,
    )

pub loop-row-preserved : goal.loop-row-preserved
loop-row-preserved c =
    let rows = c.args.rows.now in
    let i : ℕ = c.loop-row.row-index in
    let row : RunRow = c.row-item.result in
    let room = c.book.ensures.room in
    let before = c.loop-row.invariant.room in
    record {
      list = c.book.ensures.list c.if-not-book.false ∙ (ap₂ with_found c.booking_of.ensures c.loop-row.invariant.list ∙ (book_next rows i row (omega arith) c.row-item.is c.requires.ascending ∙ ap (λ n. bookings_of (take n rows)) (sym (add-one i))));
      room = omega (arith, room, before);
    }

pub returns : goal.returns
returns c = (
  λ yes. all_apart c.args.rows.now c.loop-row.row-index c.loop-row.timeline.list (omega (arith, c.loop-row-test.false)) c.loop-row.invariant.list c.bookings-known.ensures.conflict_free,
  λ apart. refl,
)

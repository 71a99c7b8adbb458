use Rattle.std.proofs.Common.{◌≡◌, ◌+◌, ◌∷◌, ◌∙◌, [], drop, ap, sym, arith}
use Rattle.host_rows.specs.Deadlines.{due_keys, key_then}
use Rattle.host_rows.proofs.DeadlineLemmas.{due_end}
use Rattle.host_book.specs.Reservations.{released}
use Rattle.host_book.proofs.indexed.release_lapsed.Goals as goal

-- the next key goes, where its row lapses
pub loop-place-preserved : goal.loop-place-preserved
loop-place-preserved c =
    let m = c.args.moment in
    let rows = c.args.rows.now.list in
    let ds = c.args.deadlines.now.list in
    let rest = due_keys m (drop (c.loop-place.place + 1) ds) in
    let next : due_keys m (drop c.loop-place.place ds) ≡ c.in-Some.key ∷ rest = c.due.ensures.walk ∙ ap (λ o. key_then o rest) c.in-Some.is in
    record {
      left = c.loop-place.invariant.left ∙ (ap (λ ks. released m rows ks c.loop-place.timeline.list) next ∙ ap (released m rows rest) (sym c.release_if_lapsed.ensures.list));
      room = let before = c.loop-place.invariant.room in let here = c.release_if_lapsed.ensures.room in omega (arith, before, here);
    }

-- no other has come
pub returns-in_default-clause-list : goal.returns-in_default-clause-list
returns-in_default-clause-list c =
    let m = c.args.moment in
    let ds = c.args.deadlines.now.list in
    let none : due_keys m (drop c.loop-place.place ds) ≡ [] = c.due.ensures.walk ∙ ap (λ o. key_then o (due_keys m (drop (c.loop-place.place + 1) ds))) c.in_default.is in
    sym (c.loop-place.invariant.left ∙ ap (λ ks. released m c.args.rows.now.list ks c.loop-place.timeline.list) none)

pub returns-clause-list : goal.returns-clause-list
returns-clause-list c =
    let m = c.args.moment in
    let ds = c.args.deadlines.now.list in
    let none : due_keys m (drop c.loop-place.place ds) ≡ [] = due_end m ds c.loop-place.place (omega (arith, c.len-place-end.ensures.value)) in
    sym (c.loop-place.invariant.left ∙ ap (λ ks. released m c.args.rows.now.list ks c.loop-place.timeline.list) none)

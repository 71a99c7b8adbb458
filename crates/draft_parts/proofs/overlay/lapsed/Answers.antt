use Rattle.std.proofs.Common.{◌≡◌, ◌+◌, ◌∷◌, ◌∙◌, [], drop, ap, sym, arith}
use Rattle.host_rows.specs.Deadlines.{due_keys, key_then}
use Rattle.host_rows.proofs.DeadlineLemmas.{due_end}
use Rattle.draft_parts.specs.Overlay.{lapsed_over}
use Rattle.draft_parts.proofs.overlay.lapsed.Goals as goal

-- the next key's row is copied, where it lapses
pub loop-place-preserved : goal.loop-place-preserved
loop-place-preserved c =
    let m = c.args.moment in
    let rows = c.args.book.now.list in
    let ds = c.args.deadlines.now.list in
    let rest = due_keys m (drop (c.loop-place.place + 1) ds) in
    let next : due_keys m (drop c.loop-place.place ds) ≡ c.in-Some.key ∷ rest = c.due.ensures.walk ∙ ap (λ o. key_then o rest) c.in-Some.is in
    c.loop-place.invariant ∙ (ap (λ ks. lapsed_over m rows ks c.loop-place.made.list) next ∙ ap (lapsed_over m rows rest) (sym c.in_ok-put_lapsed.ensures))

-- no other has come
pub returns-in_default : goal.returns-in_default
returns-in_default c =
    let m = c.args.moment in
    let ds = c.args.deadlines.now.list in
    let none : due_keys m (drop c.loop-place.place ds) ≡ [] = c.due.ensures.walk ∙ ap (λ o. key_then o (due_keys m (drop (c.loop-place.place + 1) ds))) c.in_default.is in
    sym (c.loop-place.invariant ∙ ap (λ ks. lapsed_over m c.args.book.now.list ks c.loop-place.made.list) none)

pub returns : goal.returns
returns c =
    let m = c.args.moment in
    let ds = c.args.deadlines.now.list in
    let none : due_keys m (drop c.loop-place.place ds) ≡ [] = due_end m ds c.loop-place.place (omega (arith, c.len-place-end.ensures.value)) in
    sym (c.loop-place.invariant ∙ ap (λ ks. lapsed_over m c.args.book.now.list ks c.loop-place.made.list) none)

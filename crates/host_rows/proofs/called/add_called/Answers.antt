use Rattle.std.proofs.Common.{◌≡◌, ◌+◌, ◌∷◌, ◌∙◌, ℕ, List, [], drop, ap, sym, arith}
use Rattle.ps_time.specs.declared.key.RunKey.{RunKey}
use Rattle.host_rows.specs.Called.{last_deadline, with_called}
use Rattle.host_rows.specs.Deadlines.{due_keys, key_then}
use Rattle.host_rows.proofs.DeadlineLemmas.{due_end}
use Rattle.host_rows.proofs.called.add_called.Goals as goal

-- the next key comes, where its row is called
pub loop-place-preserved : goal.loop-place-preserved
loop-place-preserved c =
    let m = c.args.moment in
    let rows = c.args.rows.now.list in
    let ds = c.args.deadlines.now.list in
    let rest : ℕ → List RunKey = λ n. due_keys n (drop (c.loop-place.place + 1) ds) in
    let last : c.saturating_add-last.result ≡ last_deadline m = c.saturating_add-last.ensures in
    let walk : due_keys c.saturating_add-last.result (drop c.loop-place.place ds) ≡ c.in-Some.key ∷ rest c.saturating_add-last.result = c.due.ensures.walk ∙ ap (λ o. key_then o (rest c.saturating_add-last.result)) c.in-Some.is in
    let next : due_keys (last_deadline m) (drop c.loop-place.place ds) ≡ c.in-Some.key ∷ rest (last_deadline m) = ap (λ n. due_keys n (drop c.loop-place.place ds)) (sym last) ∙ (walk ∙ ap (λ n. c.in-Some.key ∷ rest n) last) in
    c.loop-place.invariant ∙ (ap (λ ks. with_called m rows ks c.loop-place.keys.list) next ∙ ap (with_called m rows (rest (last_deadline m))) (sym c.in_ok-add_if_called.ensures))

-- no other has come
pub returns-in_default : goal.returns-in_default
returns-in_default c =
    let m = c.args.moment in
    let ds = c.args.deadlines.now.list in
    let last : c.saturating_add-last.result ≡ last_deadline m = c.saturating_add-last.ensures in
    let none : due_keys (last_deadline m) (drop c.loop-place.place ds) ≡ [] =
    ap (λ n. due_keys n (drop c.loop-place.place ds)) (sym last) ∙ (c.due.ensures.walk ∙ ap (λ o. key_then o (due_keys c.saturating_add-last.result (drop (c.loop-place.place + 1) ds))) c.in_default.is) in
    sym (c.loop-place.invariant ∙ ap (λ ks. with_called m c.args.rows.now.list ks c.loop-place.keys.list) none)

pub returns : goal.returns
returns c =
    let m = c.args.moment in
    let ds = c.args.deadlines.now.list in
    let none : due_keys (last_deadline m) (drop c.loop-place.place ds) ≡ [] = due_end (last_deadline m) ds c.loop-place.place (omega (arith, c.len-place-end.ensures.value)) in
    sym (c.loop-place.invariant ∙ ap (λ ks. with_called m c.args.rows.now.list ks c.loop-place.keys.list) none)

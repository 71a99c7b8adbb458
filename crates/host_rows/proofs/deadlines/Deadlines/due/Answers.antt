use Rattle.std.proofs.Common.{◌≡◌, ◌+◌, ◌-◌, ◌<◌, ◌∷◌, ◌∙◌, [], cond, drop, get_or, length, nat_le, reverse, true, false, ap, subst, arith}
use Rattle.std.proofs.lemmas.Bool.Decides.{nat_tests}
use Rattle.host_rows.specs.Deadlines.{due_keys, Deadlines}
use Rattle.host_rows.proofs.ReverseLemmas.{due_kept}
use Rattle.host_rows.proofs.deadlines.Deadlines.due.Goals as goal

-- it has come
pub returns-then-deadline-moment-clause-walk : goal.returns-then-deadline-moment-clause-walk
returns-then-deadline-moment-clause-walk c =
    let ds = c.self.inside.entries.list in
    let m = c.args.moment in
    let i = c.args.place in
    let x = c.index-deadline.result.now in
    let within : i < length ds = omega (arith, c.if-count-place.false, c.len-count.ensures.value) in
    let at : x ≡ get_or ds (length ds - 1 - i) x = c.index-deadline.ensures ∙ ap (λ n. get_or ds (n - 1 - i) x) c.len-count.ensures.value in
    let come : nat_le x.moment m ≡ true = grind (arith, nat_tests, c.if-deadline-moment.true) in
    let rest = due_keys m (drop (i + 1) (reverse ds)) in
    let here : due_keys m (drop i (reverse ds)) ≡ x.key ∷ rest = due_kept m ds i x within at ∙ ap (λ b. cond b (x.key ∷ rest) []) come in
    subst (λ l. due_keys m (drop i l) ≡ x.key ∷ due_keys m (drop (i + 1) l)) (ap (λ (t : Deadlines). t.list) c.self.view_is) here

-- it hasn't, nor have those behind it
pub returns-else-deadline-moment-clause-walk : goal.returns-else-deadline-moment-clause-walk
returns-else-deadline-moment-clause-walk c =
    let ds = c.self.inside.entries.list in
    let m = c.args.moment in
    let i = c.args.place in
    let x = c.index-deadline.result.now in
    let within : i < length ds = omega (arith, c.if-count-place.false, c.len-count.ensures.value) in
    let at : x ≡ get_or ds (length ds - 1 - i) x = c.index-deadline.ensures ∙ ap (λ n. get_or ds (n - 1 - i) x) c.len-count.ensures.value in
    let late : nat_le x.moment m ≡ false = grind (arith, nat_tests, c.if-deadline-moment.false) in
    let none : due_keys m (drop i (reverse ds)) ≡ [] = due_kept m ds i x within at ∙ ap (λ b. cond b (x.key ∷ due_keys m (drop (i + 1) (reverse ds))) []) late in
    subst (λ l. due_keys m (drop i l) ≡ []) (ap (λ (t : Deadlines). t.list) c.self.view_is) none

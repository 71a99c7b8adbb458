use Rattle.std.proofs.Common.{◌≡◌, ◌∙◌, ◌++◌, ◌∷◌, [], length, None, Some, refl, ap, subst}
use Rattle.std.specs.Prelude.{slice_get}
use Rattle.live_law.specs.Waking.{wake_in}
use Rattle.host_book.proofs.WakeLemmas.{extended_at, extended_past, none_at, some_at}
use Rattle.host_book.proofs.waking.extend.Goals as goal

pub returns-in-Some-clause-list : goal.returns-in-Some-clause-list
returns-in-Some-clause-list c =
    let b = c.args.book.now.book in
    let ws = c.args.wakes.now.items in
    let many : length c.as_slice.result.now ≡ length ws = ap length c.as_slice.ensures.value in
    let at : slice_get b.tasks (length ws) ≡ Some c.in-Some.task.now = subst (λ n. slice_get b.tasks n ≡ Some c.in-Some.task.now) many (some_at c.tasks.result.now b.tasks (length c.as_slice.result.now) c.in-Some.task.now c.tasks.ensures c.in-Some.ensures.lookup.0 c.in-Some.ensures.lookup.1) in
    let pushed : c.push.new.self.items ≡ ws ++ c.wake_in.result ∷ [] = rw (c.push.ensures.items, c.unwrap.ensures) refl in
    pushed ∙ (ap (λ w. ws ++ w ∷ []) c.wake_in.ensures ∙ extended_at (wake_in c.args.book.now.number b.rows) b.tasks c.in-Some.task.now ws at)

pub returns-in-None-clause-list : goal.returns-in-None-clause-list
returns-in-None-clause-list c =
    let b = c.args.book.now.book in
    let ws = c.args.wakes.now.items in
    let many : length c.as_slice.result.now ≡ length ws = ap length c.as_slice.ensures.value in
    let none : slice_get b.tasks (length ws) ≡ None = subst (λ n. slice_get b.tasks n ≡ None) many (none_at c.tasks.result.now b.tasks (length c.as_slice.result.now) c.tasks.ensures c.in-None.ensures.lookup.0) in
    extended_past (wake_in c.args.book.now.number b.rows) b.tasks ws none

use Rattle.std.proofs.Common.{◌≡◌, ◌∙◌, ◌+◌, ℕ, Bool, true, false, length, nat_lt, get_or, Some, ap, subst, arith}
use Rattle.host_model.specs.Book.{find_task}
use Rattle.host_model.specs.declared.task_row.TaskRow.{TaskRow}
use Rattle.live_law.specs.Waking.{has_come, is_awake}
use Rattle.host_book.specs.Host.{Host}
use Rattle.host_book.proofs.WakeLemmas.{none_told, wake_told, zero_told}
use Rattle.host_book.proofs.book.HostBook.is_awake.Goals as goal

-- the answer for each task of the serial
abbrev Tells : ℕ → ℕ → Bool → Host → Type 0
Tells serial m answer h = (t : TaskRow) → find_task h.book.tasks serial ≡ Some t → answer ≡ is_awake h.number h.book.rows m t

-- no task has the serial 0
pub returns-in_default : goal.returns-in_default
returns-in_default c =
    let h = c.self.inside.indexed in
    let zero : c.args.serial ≡ 0 = omega (arith, c.in_default.ensures) in
    subst (Tells c.args.serial c.args.moment false) c.self.view_is
    (λ t found. absurd (zero_told h.number h.book c.rows-known.ensures.lawful c.self.inside.wakes.items c.self.invariant t (subst (λ n. find_task h.book.tasks n ≡ Some t) zero found)))

pub returns-in-Some-get : goal.returns-in-Some-get
returns-in-Some-get c =
    let h = c.self.inside.indexed in
    let ws = c.self.inside.wakes.items in
    let place = c.in-Some.place in
    let wake = c.in-Some-get.wake.now in
    let serial : c.args.serial ≡ place + 1 = omega (arith, c.in-Some.ensures) in
    let within : true ≡ nat_lt place (length ws) = subst (λ l. true ≡ nat_lt place (length l)) c.deref.ensures.value c.in-Some-get.ensures.lookup.0 in
    let is : wake ≡ get_or ws place wake = subst (λ l. wake ≡ get_or l place wake) c.deref.ensures.value c.in-Some-get.ensures.lookup.1 in
    subst (Tells c.args.serial c.args.moment c.has_come.result) c.self.view_is
    (λ t found. c.has_come.ensures ∙ ap (has_come c.args.moment) (wake_told h.number h.book c.rows-known.ensures.lawful ws c.self.invariant t place wake (subst (λ n. find_task h.book.tasks n ≡ Some t) serial found) within is))

pub returns-in-None : goal.returns-in-None
returns-in-None c =
    let h = c.self.inside.indexed in
    let ws = c.self.inside.wakes.items in
    let place = c.in-Some.place in
    let serial : c.args.serial ≡ place + 1 = omega (arith, c.in-Some.ensures) in
    let past : false ≡ nat_lt place (length ws) = subst (λ l. false ≡ nat_lt place (length l)) c.deref.ensures.value c.in-None.ensures.lookup.0 in
    subst (Tells c.args.serial c.args.moment false) c.self.view_is
    (λ t found. absurd (none_told h.number h.book c.rows-known.ensures.lawful ws c.self.invariant t place (subst (λ n. find_task h.book.tasks n ≡ Some t) serial found) past))

use Rattle.std.proofs.Common.{◌≡◌, ◌∙◌, length, None, Some, ap, sym, arith}
use Rattle.live_law.specs.Waking.{wake_in}
use Rattle.host_book.specs.Waking.{renewed}
use Rattle.host_book.proofs.WakeLemmas.{renewed_none, renewed_zero}
use Rattle.host_book.proofs.waking.renew.Goals as goal

pub returns-in_default : goal.returns-in_default
returns-in_default c =
    let b = c.args.book.now.book in
    let none : c.args.serial ≡ None = cc in
    sym (ap (λ o. renewed (wake_in c.args.book.now.number b.rows) o b.tasks c.args.wakes.now) none ∙ renewed_none (wake_in c.args.book.now.number b.rows) b.tasks c.args.wakes.now)

-- no task has the serial 0
pub returns-in-None : goal.returns-in-None
returns-in-None c =
    let b = c.args.book.now.book in
    let zero : c.args.serial ≡ Some 0 = c.in-Some.is ∙ ap (λ n. Some n) (omega (arith, c.in-None.ensures)) in
    sym (ap (λ o. renewed (wake_in c.args.book.now.number b.rows) o b.tasks c.args.wakes.now) zero ∙ renewed_zero (wake_in c.args.book.now.number b.rows) 0 (length b.tasks) b.tasks c.rows-known.ensures.lawful.serials c.args.wakes.now)

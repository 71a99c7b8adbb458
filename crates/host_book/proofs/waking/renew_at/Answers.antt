use Rattle.std.proofs.Common.{◌≡◌, ◌∙◌, length, ap, Some, None, arith}
use Rattle.std.specs.Prelude.{slice_get, slice_set}
use Rattle.live_law.specs.Waking.{wake_in}
use Rattle.host_book.proofs.WakeLemmas.{none_at, renewed_at, renewed_past, renewed_short, some_at}
use Rattle.host_book.proofs.waking.renew_at.Goals as goal

pub returns-in_default : goal.returns-in_default
returns-in_default c =
    let b = c.args.book.now.book in
    let none : slice_get b.tasks c.args.place ≡ None = none_at c.tasks.result.now b.tasks c.args.place c.tasks.ensures (c.in_default.ensures).lookup.0 in
    renewed_past (wake_in c.args.book.now.number b.rows) c.args.place 1 (length b.tasks) b.tasks c.args.wakes.now c.rows-known.ensures.lawful.serials none

pub returns-then-place-wakes : goal.returns-then-place-wakes
returns-then-place-wakes c =
    let b = c.args.book.now.book in
    let at : slice_get b.tasks c.args.place ≡ Some c.in-Some.task.now = some_at c.tasks.result.now b.tasks c.args.place c.in-Some.task.now c.tasks.ensures (c.in-Some.ensures).lookup.0 (c.in-Some.ensures).lookup.1 in
    ap (slice_set c.args.wakes.now c.args.place) c.wake_in.ensures ∙ renewed_at (wake_in c.args.book.now.number b.rows) c.args.place 1 (length b.tasks) b.tasks c.in-Some.task.now c.args.wakes.now c.rows-known.ensures.lawful.serials at c.if-place-wakes.true

pub returns-else-place-wakes : goal.returns-else-place-wakes
returns-else-place-wakes c =
    let b = c.args.book.now.book in
    renewed_short (wake_in c.args.book.now.number b.rows) c.args.place 1 (length b.tasks) b.tasks c.args.wakes.now c.rows-known.ensures.lawful.serials (omega (arith, c.if-place-wakes.false))

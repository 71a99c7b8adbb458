use Rattle.std.proofs.Common.{◌≡◌, Some, subst}
use Rattle.std.proofs.lemmas.Result.{on_ok_weaker}
use Rattle.host_model.specs.Book.{find_task}
use Rattle.host_turns.proofs.AwakeLemmas.{asked_awake, asleep_left}
use Rattle.host_turns.proofs.GroupLemmas.{ask_by_serial}
use Rattle.host_turns.proofs.groups.ask_awake.Goals as goal

pub returns-then-is_awake-clause-made : goal.returns-then-is_awake-clause-made
returns-then-is_awake-clause-made c =
    let host = c.args.book.now in
    let task = c.args.task.now in
    let before = c.args.draft.now in
    let found : find_task host.book.tasks task.serial ≡ Some task = subst (λ ts. find_task ts task.serial ≡ Some task) c.requires.tasks c.requires.known in
    on_ok_weaker c.make_ask.result
    (λ made. asked_awake c.args.config.now host.number host.book.rows task before c.make_ask.new.draft c.moment.result c.is_awake.result c.moment.ensures.value (c.is_awake.ensures task found) c.if-is_awake.true (ask_by_serial c.args.config.now c.args.tasks.now before c.make_ask.new.draft c.requires.turn task c.requires.known made))
    c.make_ask.ensures.made

pub returns-else-is_awake-clause-made : goal.returns-else-is_awake-clause-made
returns-else-is_awake-clause-made c =
    let host = c.args.book.now in
    let task = c.args.task.now in
    let found : find_task host.book.tasks task.serial ≡ Some task = subst (λ ts. find_task ts task.serial ≡ Some task) c.requires.tasks c.requires.known in
    asleep_left c.args.config.now host.number host.book.rows task c.args.draft.now c.moment.result c.is_awake.result c.moment.ensures.value (c.is_awake.ensures task found) c.if-is_awake.false

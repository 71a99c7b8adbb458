use Rattle.std.proofs.Common.{◌+◌, ◌<◌, ◌∷◌, ◌∙◌, [], ap, arith, drop, length, option_and_then}
use Rattle.host_model.specs.Book.{find_task}
use Rattle.host_model.specs.NextAttempt.{ask}
use Rattle.host_draft.specs.Draft.{Seen}
use Rattle.host_turns.specs.Awake.{awake_among}
use Rattle.host_turns.proofs.AwakeLemmas.{awake_step}
use Rattle.host_turns.proofs.GroupLemmas.{behind, known_task, moment_each}
use Rattle.host_turns.proofs.groups.make_asks.Goals as goal

pub ask_awake-requires-clause-known : goal.ask_awake-requires-clause-known
ask_awake-requires-clause-known c =
    let lt : c.loop-task.task-index < length c.args.tasks.now = omega arith in
    known_task c.args.config.now c.args.tasks.now c.loop-task.draft c.loop-task.invariant.turn c.loop-task.task-index c.task-item.result lt c.task-item.is

pub loop-task-preserved : goal.loop-task-preserved
loop-task-preserved c =
    let config = c.args.config.now in
    let host = c.args.book.now in
    let m = c.args.draft.now.draft.book.moment in
    let tasks = c.args.tasks.now in
    let i = c.loop-task.task-index in
    let task = c.task-item.result in
    let before = c.loop-task.draft in
    let made = c.in_ok-ask_awake.ensures.made in
    let n = before.draft.book.moment in
    let lt : i < length tasks = omega arith in
    record {
      left = c.loop-task.invariant.left ∙ awake_step config host.number m host.book.rows (drop i tasks) (drop (i + 1) tasks) task before c.ask_awake.new.draft (behind tasks i task lt c.task-item.is) c.loop-task.invariant.at made;
      turn = c.in_ok-ask_awake.ensures.turn;
      at = ap (λ (s : Seen). s.draft.book.moment) made ∙ (moment_each (λ b serial. option_and_then (ask config n b) (find_task b.tasks serial)) n (awake_among host.number host.book.rows n (task ∷ [])) before.draft ∙ c.loop-task.invariant.at);
    }

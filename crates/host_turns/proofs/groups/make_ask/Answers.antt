use Rattle.std.proofs.Common.{subst, sym}
use Rattle.std.proofs.lemmas.Result.{on_ok_weaker}
use Rattle.host_turns.specs.Turns.{IsTurn}
use Rattle.host_turns.proofs.GroupLemmas.{ask_may, ask_turn}
use Rattle.host_turns.proofs.groups.make_ask.Goals as goal

pub grant-requires : goal.grant-requires
grant-requires c = ask_may c.args.config.now c.args.tasks.now c.args.draft.now c.requires.turn c.requires.name c.args.task.now c.requires.known c.in_ok-wish.wish c.in_ok-wish.ensures

pub returns-clause-turn : goal.returns-clause-turn
returns-clause-turn c =
    on_ok_weaker c.grant.result
    (λ is. subst (IsTurn c.args.config.now c.args.tasks.now) (sym is) (ask_turn c.args.config.now c.args.tasks.now c.args.draft.now c.requires.turn c.requires.name c.args.task.now c.requires.known c.in_ok-wish.wish c.in_ok-wish.ensures)) c.grant.ensures

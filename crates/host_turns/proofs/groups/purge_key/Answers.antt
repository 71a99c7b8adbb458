use Rattle.std.proofs.Common.{subst, sym}
use Rattle.std.proofs.lemmas.Result.{on_ok_weaker}
use Rattle.host_turns.specs.Turns.{IsTurn}
use Rattle.host_turns.proofs.GroupLemmas.{purge_may, purge_turn}
use Rattle.host_turns.proofs.groups.purge_key.Goals as goal

pub grant-requires : goal.grant-requires
grant-requires c = purge_may c.args.config.now c.args.tasks.now c.args.draft.now c.requires c.args.key c.purge_at-wish.result c.purge_at-wish.ensures

pub returns-clause-turn : goal.returns-clause-turn
returns-clause-turn c =
    on_ok_weaker c.grant.result
    (λ is. subst (IsTurn c.args.config.now c.args.tasks.now) (sym is) (purge_turn c.args.config.now c.args.tasks.now c.args.draft.now c.requires c.args.key c.purge_at-wish.result c.purge_at-wish.ensures)) c.grant.ensures

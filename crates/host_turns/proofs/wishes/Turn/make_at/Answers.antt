use Rattle.std.proofs.Common.{subst, sym}
use Rattle.std.proofs.lemmas.Result.{on_ok_weaker}
use Rattle.host_turns.specs.Turns.{IsLiveTurn}
use Rattle.host_turns.proofs.GroupLemmas.{due_may, live_turn}
use Rattle.host_turns.proofs.wishes.Turn.make_at.Goals as goal

pub grant-requires : goal.grant-requires
grant-requires c = due_may c.args.self.now.config.now c.args.self.now.tasks.now c.args.draft.now c.requires.turn.turn c.args.due c.args.key c.in_ok-wish.wish c.in_ok-wish.ensures

pub returns-clause-turn : goal.returns-clause-turn
returns-clause-turn c =
    let config = c.args.self.now.config.now in
    let tasks = c.args.self.now.tasks.now in
    let live = c.args.self.now.live.now in
    let exclusive = c.args.self.now.exclusive.now in
    on_ok_weaker c.grant.result (λ is. subst (IsLiveTurn config tasks live exclusive) (sym is) (live_turn config tasks live exclusive c.args.draft.now c.requires.turn c.args.due c.args.key c.requires.live c.in_ok-wish.wish c.in_ok-wish.ensures)) c.grant.ensures

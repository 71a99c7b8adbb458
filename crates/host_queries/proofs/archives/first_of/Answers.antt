use Rattle.std.proofs.Common.{◌∙◌, sym, arith}
use Rattle.host_queries.proofs.DueLemmas.{first_here, first_later, none_due}
use Rattle.host_queries.proofs.archives.first_of.Goals as goal

pub returns-then-due : goal.returns-then-due
returns-then-due c =
    sym (c.loop-state.invariant.left ∙ first_here c.args.key c.args.moment c.loop-state.index c.args.states.now c.loop-state.state-index _ (omega arith) (sym c.due.ensures ∙ c.if-due.true))

pub loop-state-preserved : goal.loop-state-preserved
loop-state-preserved c = record {
  left = c.loop-state.invariant.left ∙ first_later c.args.key c.args.moment c.loop-state.index c.args.states.now c.loop-state.state-index _ (omega arith) (sym c.due.ensures ∙ c.if-due.false);
  index = omega arith;
}

pub returns : goal.returns
returns c = sym (c.loop-state.invariant.left ∙ none_due c.args.key c.args.moment c.loop-state.index c.args.states.now c.loop-state.state-index (omega arith))

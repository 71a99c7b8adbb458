use Rattle.std.proofs.Common.{◌∙◌, sym, arith}
use Rattle.host_queries.proofs.DueLemmas.{last_archive, next_archive}
use Rattle.host_queries.proofs.archives.add_each.Goals as goal

pub loop-state-preserved : goal.loop-state-preserved
loop-state-preserved c = record {
  left = c.loop-state.invariant.left ∙ next_archive c.args.key c.args.moment c.loop-state.index c.args.states.now c.loop-state.state-index _ (omega arith) c.loop-state.due c.add_one.new.due c.in_ok-add_one.ensures;
  index = omega arith;
}

pub returns : goal.returns
returns c = sym (c.loop-state.invariant.left ∙ last_archive c.args.key c.args.moment c.loop-state.index c.args.states.now c.loop-state.state-index c.loop-state.due (omega arith))

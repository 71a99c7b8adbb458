use Rattle.std.proofs.Common.{◌<◌, add-one, length, refl, rules, arith}
use Rattle.ps_lists.proofs.JoinLemmas.{all_cleared, more_cleared, none_cleared}
use Rattle.ps_lists.proofs.tiered_moves.empty.Goals as goal

pub loop-at-init : goal.loop-at-init
loop-at-init g c = record { cleared = none_cleared c.args.blocks.now.items c.requires; blocks = refl }

pub loop-at-preserved : goal.loop-at-preserved
loop-at-preserved g c =
    let within : c.loop-at.at < length c.loop-at.blocks.items = omega (arith, c.loop-at-test.true, c.len-at-end.ensures, c.args.blocks.now.ok.0, c.loop-at.invariant.blocks) in
    record {
      cleared = rw add-one (more_cleared c.loop-at.at c.loop-at.blocks.items c.index_mut.result.now c.clear.new.self c.loop-at.invariant.cleared within c.index_mut.ensures.value c.clear.ensures.list c.clear.ensures.places);
      blocks = search rules;
    }

pub returns-clause-filled : goal.returns-clause-filled
returns-clause-filled g c =
    let all = all_cleared c.loop-at.at c.loop-at.blocks.items c.loop-at.invariant.cleared (omega (arith, c.loop-at-test.false, c.len-at-end.ensures, c.args.blocks.now.ok.0, c.loop-at.invariant.blocks)) in
    all.0

pub returns-clause-items : goal.returns-clause-items
returns-clause-items g c =
    let all = all_cleared c.loop-at.at c.loop-at.blocks.items c.loop-at.invariant.cleared (omega (arith, c.loop-at-test.false, c.len-at-end.ensures, c.args.blocks.now.ok.0, c.loop-at.invariant.blocks)) in
    all.1

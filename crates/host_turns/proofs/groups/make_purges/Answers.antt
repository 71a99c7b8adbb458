use Rattle.std.proofs.Common.{◌∷◌, ◌∙◌, [], List, ap}
use Rattle.run_states.specs.declared.row.RunRow.{RunRow}
use Rattle.host_draft.specs.Draft.{Seen}
use Rattle.host_turns.proofs.GroupLemmas.{moment_purged, purge_step}
use Rattle.host_turns.proofs.groups.make_purges.Goals as goal

pub loop-row-preserved : goal.loop-row-preserved
loop-row-preserved c =
    let all : List RunRow = c.loop-row.row-iterator in
    let row : RunRow = c.in-Some.row.now in
    let rest : List RunRow = c.next.new.self in
    let before = c.loop-row.draft in
    let made = c.in_ok-make_purge.ensures.made in
    record {
      left = c.loop-row.invariant.left ∙ purge_step c.args.config.now c.args.draft.now.draft.book.moment all rest row before c.make_purge.new.draft c.in-Some.ensures.steps c.loop-row.invariant.at made;
      turn = c.in_ok-make_purge.ensures.turn;
      at = ap (λ (s : Seen). s.draft.book.moment) made ∙ (moment_purged c.args.config.now before.draft.book.moment (row ∷ []) before.draft ∙ c.loop-row.invariant.at);
    }

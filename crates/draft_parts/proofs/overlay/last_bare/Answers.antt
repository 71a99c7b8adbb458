use Rattle.std.proofs.Common.{◌≡◌, ◌∙◌, Bool, true, not, ap, sym}
use Rattle.run_states.specs.declared.row.RunRow.{RunRow}
use Rattle.draft_parts.specs.Overlay.{hides}
use Rattle.draft_parts.proofs.PickLemmas.{last_here}
use Rattle.draft_parts.proofs.overlay.last_bare.Goals as goal

-- the last of those that are left
pub returns-then-not-is_hidden : goal.returns-then-not-is_hidden
returns-then-not-is_hidden c =
    let g : RunRow → Bool = λ r. not (hides c.args.touched.now.list c.args.gone.now r.key) in
    let bare : g c.at-row.result.now ≡ true = ap not (sym c.is_hidden.ensures ∙ c.if-not-is_hidden.true) in
    sym (c.loop-end.invariant.left ∙ last_here g c.args.rows c.loop-end.end c.at-row.result.now c.loop-end-test.true c.loop-end.invariant.within c.at-row.ensures.value bare)

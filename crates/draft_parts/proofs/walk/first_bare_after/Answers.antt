use Rattle.std.specs.Prelude.{find}
use Rattle.std.proofs.Common.{◌∙◌, Bool, not, option_map, ap}
use Rattle.run_states.specs.declared.row.RunRow.{RunRow}
use Rattle.draft_parts.specs.Overlay.{hides}
use Rattle.draft_parts.proofs.WalkLemmas.{find_above}
use Rattle.draft_parts.proofs.walk.first_bare_after.Goals as goal

-- the first of those above the key
pub returns : goal.returns
returns c =
    let bare : RunRow → Bool = λ r. not (hides c.args.touched.now.list c.args.gone.now r.key) in
    c.first_bare.ensures
    ∙ (ap (λ l. option_map (λ (r : RunRow). r.key) (find bare l)) c.above.ensures
    ∙ ap (option_map (λ r. r.key)) (find_above c.args.after bare c.args.rows))

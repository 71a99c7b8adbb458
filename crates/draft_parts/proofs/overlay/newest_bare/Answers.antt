use Rattle.std.specs.Option.{option_copied}
use Rattle.std.proofs.Common.{◌∙◌, Bool, List, ap, not, sym}
use Rattle.run_states.specs.TaskRows.{rows_of_task}
use Rattle.run_states.specs.declared.row.RunRow.{RunRow}
use Rattle.draft_parts.specs.Overlay.{hides}
use Rattle.draft_parts.proofs.FilterLemmas.{last_left, none_left}
use Rattle.draft_parts.proofs.overlay.newest_bare.Goals as goal

-- the task has no row
pub returns-in_err-row : goal.returns-in_err-row
returns-in_err-row c =
    let rows : List RunRow = rows_of_task c.args.lead c.args.serial c.args.book.now.list in
    let bare : RunRow → Bool = λ r. not (hides c.args.touched.now.list c.args.gone.now r.key) in
    ap option_copied c.from_residual.ensures ∙ sym (none_left bare rows (sym c.in_err-row.ensures))

-- its newest row is as it was
pub returns : goal.returns
returns c =
    let rows : List RunRow = rows_of_task c.args.lead c.args.serial c.args.book.now.list in
    let bare : RunRow → Bool = λ r. not (hides c.args.touched.now.list c.args.gone.now r.key) in
    sym (last_left bare c.in_ok-row.row.now rows (sym c.in_ok-row.ensures) (sym (ap not c.if-is_hidden.ensures)))

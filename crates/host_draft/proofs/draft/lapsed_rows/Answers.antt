use Rattle.std.specs.Prelude.{IfOk}
use Rattle.std.proofs.Common.{◌≡◌, ◌≤◌, List, [], subst, arith}
use Rattle.run_states.specs.declared.row.RunRow.{RunRow}
use Rattle.host_rows.specs.Deadlines.{due_keys, latest}
use Rattle.host_rows.proofs.FiledLemmas.{all_due}
use Rattle.host_draft.proofs.DueLemmas.{opened_ok}
use Rattle.draft_parts.specs.Overlay.{lapsed_over}
use Rattle.host_draft.proofs.draft.lapsed_rows.Goals as goal

pub returns : goal.returns
returns c =
    let rows = c.args.book.now.book.rows in
    let ds = c.deadlines.result.now.list in
    let within : c.args.moment ≤ latest = omega (arith, c.ranges.moment) in
    opened_ok c.args.moment rows (due_keys c.args.moment ds) (all_due c.args.moment ds within c.deadlines.ensures.ascending rows c.deadlines.ensures.waits) c.lapsed.result
    (subst (λ (l : List RunRow). IfOk c.lapsed.result (λ made. made.list ≡ lapsed_over c.args.moment l (due_keys c.args.moment ds) [])) c.rows.ensures.list c.lapsed.ensures)

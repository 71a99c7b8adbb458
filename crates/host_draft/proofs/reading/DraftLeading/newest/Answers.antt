use Rattle.std.specs.List.{last_or}
use Rattle.std.proofs.Common.{◌∙◌, None, ap, ap₂, filter, not}
use Rattle.run_states.specs.TaskRows.{newest_row, rows_of_task}
use Rattle.run_states.specs.declared.row.RunRow.{RunRow}
use Rattle.host_draft.specs.Draft.{Seen, book_now}
use Rattle.draft_parts.specs.Overlay.{hides, later}
use Rattle.host_draft.proofs.ReadLemmas.{read_newest}
use Rattle.host_draft.proofs.reading.DraftLeading.newest.Goals as goal

-- the later of the newest that lies over the book and the newest that is as it was
pub returns : goal.returns
returns c =
    let d = c.self.inside in
    let began = d.book.now.book in
    let below = c.newest_bare-below.ensures
    ∙ (ap₂ (λ g l. last_or None (filter (λ (r : RunRow). not (hides d.touched.list g r.key)) l)) c.as_slice.ensures.value (ap (rows_of_task c.args.lead c.args.serial) c.rows.ensures.list)) in
    c.later.ensures
    ∙ (ap₂ later c.newest_of_task-over.ensures below
    ∙ (read_newest d.book.now.number d.moment began (book_now d.moment d.log.changes began) d.touched.list d.gone.items d.epoch d.count d.bytes d.log.left c.self.invariant c.in_order-known.ensures.ascending c.rows.ensures.lawful c.args.lead c.args.serial
    ∙ ap (λ (x : Seen). newest_row c.args.lead c.args.serial x.draft.book.rows) c.self.view_is))

use Rattle.std.specs.Prelude.{find}
use Rattle.std.proofs.Common.{◌∙◌, ◌&&◌, not, option_map, ap, ap₂, subst, sym}
use Rattle.run_states.specs.Rows.{IsAscendingRows}
use Rattle.run_states.specs.TaskRows.{rows_of_task}
use Rattle.run_states.specs.declared.row.RunRow.{RunRow}
use Rattle.host_timeline.specs.Booking.{is_after, lesser_of}
use Rattle.host_inputs.specs.Runs.{next_run}
use Rattle.host_draft.specs.Draft.{Seen, book_now}
use Rattle.draft_parts.specs.Overlay.{hides}
use Rattle.host_draft.proofs.HostingLemmas.{read_next_of, task_up}
use Rattle.host_draft.proofs.hosting.DraftHosting.next_of_task.Goals as goal

-- the rows of a task ascend
pub first_after-over-requires : goal.first_after-over-requires
first_after-over-requires c = subst IsAscendingRows (sym c.task_rows.ensures) (task_up c.args.lead c.args.serial c.self.inside.touched.list c.in_order-known.ensures.ascending)

pub first_bare_after-requires : goal.first_bare_after-requires
first_bare_after-requires c =
    let began = c.self.inside.book.now.book in
    subst IsAscendingRows (sym (c.task_rows-rows.ensures ∙ ap (rows_of_task c.args.lead c.args.serial) c.rows.ensures.list)) (task_up c.args.lead c.args.serial began.rows c.rows.ensures.lawful.ascending)

-- the lesser of the next that lies over the book and the next that is as it was
pub returns-clause-key : goal.returns-clause-key
returns-clause-key c =
    let d = c.self.inside in
    let began = d.book.now.book in
    let over = c.first_after-over.ensures ∙ ap (λ l. option_map (λ (r : RunRow). r.key) (find (λ r. is_after c.args.after r.key) l)) c.task_rows.ensures in
    let below = c.first_bare_after.ensures
    ∙ ap₂ (λ g l. option_map (λ (r : RunRow). r.key) (find (λ r. is_after c.args.after r.key && not (hides d.touched.list g r.key)) l)) c.as_slice-gone.ensures.value (c.task_rows-rows.ensures ∙ ap (rows_of_task c.args.lead c.args.serial) c.rows.ensures.list) in
    c.lesser_of.ensures
    ∙ (ap₂ lesser_of over below
    ∙ (read_next_of d.book.now.number d.moment began (book_now d.moment d.log.changes began) d.touched.list d.gone.items d.epoch d.count d.bytes d.log.left c.self.invariant c.in_order-known.ensures.ascending c.rows.ensures.lawful c.args.after c.args.lead c.args.serial
    ∙ ap (λ (x : Seen). next_run c.args.lead c.args.serial c.args.after x.draft.book.rows) c.self.view_is))

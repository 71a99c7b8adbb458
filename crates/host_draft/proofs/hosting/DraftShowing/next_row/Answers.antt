use Rattle.std.specs.Prelude.{find}
use Rattle.std.proofs.Common.{◌∙◌, ◌&&◌, not, option_map, ap, ap₂}
use Rattle.run_states.specs.declared.row.RunRow.{RunRow}
use Rattle.host_timeline.specs.Booking.{is_after, lesser_of}
use Rattle.host_model.specs.Book.{keys_of_rows}
use Rattle.host_draft.specs.Draft.{Seen, book_now}
use Rattle.draft_parts.specs.Overlay.{hides}
use Rattle.host_draft.proofs.HostingLemmas.{read_next_row}
use Rattle.host_draft.proofs.hosting.DraftShowing.next_row.Goals as goal

-- the lesser of the next that lies over the book and the next that is as it was
pub returns-clause-key : goal.returns-clause-key
returns-clause-key c =
    let d = c.self.inside in
    let began = d.book.now.book in
    let over = c.first_after-over.ensures ∙ ap (λ l. option_map (λ (r : RunRow). r.key) (find (λ r. is_after c.args.after r.key) l)) c.in_order.ensures.rows in
    let below = c.first_bare_after.ensures
    ∙ ap₂ (λ g l. option_map (λ (r : RunRow). r.key) (find (λ r. is_after c.args.after r.key && not (hides d.touched.list g r.key)) l)) c.as_slice-gone.ensures.value (c.in_order-rows.ensures.rows ∙ c.rows.ensures.list) in
    c.lesser_of.ensures
    ∙ (ap₂ lesser_of over below
    ∙ (read_next_row d.book.now.number d.moment began (book_now d.moment d.log.changes began) d.touched.list d.gone.items d.epoch d.count d.bytes d.log.left c.self.invariant c.in_order.ensures.ascending c.rows.ensures.lawful c.args.after
    ∙ ap (λ (x : Seen). find (is_after c.args.after) (keys_of_rows x.draft.book.rows)) c.self.view_is))

use Rattle.std.specs.Prelude.{find}
use Rattle.std.proofs.Common.{◌∙◌, ap, ap₂, option_map}
use Rattle.run_states.specs.declared.row.RunRow.{RunRow}
use Rattle.host_timeline.specs.Booking.{conflicting_after, keys_of, lesser_of}
use Rattle.host_draft.specs.Draft.{Seen, book_now}
use Rattle.draft_parts.specs.Overlay.{meets, meets_below}
use Rattle.host_draft.proofs.ReadLemmas.{read_sought}
use Rattle.host_draft.proofs.draft.Draft.sought.Goals as goal

-- the lesser of the first that lies over the book and the first that is as it was
pub returns : goal.returns
returns c =
    let d = c.self.inside in
    let s = c.args.sought.now in
    let began = d.book.now.book in
    let over = c.first_sought-over.ensures ∙ ap (λ l. option_map (λ (r : RunRow). r.key) (find (meets d.moment s) l)) c.in_order.ensures.rows in
    let below = c.first_below-below.ensures ∙ ap₂ (λ g b. find (meets_below d.moment s d.touched.list g b) (keys_of (conflicting_after s.class s.interval s.after c.timeline.result.now.list))) c.as_slice-gone.ensures.value c.rows-rows.ensures.list in
    c.lesser_of.ensures
    ∙ (ap₂ lesser_of over below
    ∙ (read_sought d.book.now.number d.moment began (book_now d.moment d.log.changes began) d.touched.list d.gone.items d.epoch d.count d.bytes d.log.left c.self.invariant c.in_order.ensures.ascending c.rows-rows.ensures.lawful s c.timeline.result.now.list c.timeline.ensures
    ∙ ap (λ (x : Seen). option_map (λ (r : RunRow). r.key) (find (meets x.draft.book.moment s) x.draft.book.rows)) c.self.view_is))

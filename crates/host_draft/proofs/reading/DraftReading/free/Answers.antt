use Rattle.std.specs.Result.{IfOk}
use Rattle.std.proofs.Common.{◌≡◌, ◌∙◌, ap, subst}
use Rattle.host_model.specs.FreeStarts.{free_tiers}
use Rattle.std.proofs.Math.Facts.{to_z-of_z}
use Rattle.host_draft.specs.Draft.{Seen, book_now}
use Rattle.draft_parts.specs.Overlay.{near_gathered}
use Rattle.host_draft.proofs.ReadLemmas.{read_takes, read_tiers}
use Rattle.host_draft.proofs.reading.DraftReading.free.Goals as goal

-- what is gathered can be taken in
pub timeline_of-requires : goal.timeline_of-requires
timeline_of-requires c =
    let d = c.self.inside in
    let began = d.book.now.book in
    let made = c.as_slice-2.ensures.value ∙ (c.in_ok-bookings.ensures.made ∙ ap (λ g. near_gathered c.args.class c.reach-reach.result d.touched.list g c.timeline.result.now.list) c.as_slice.ensures.value) in
    read_takes d.book.now.number d.moment began (book_now d.moment d.log.changes began) d.touched.list d.gone.items d.epoch d.count d.bytes d.log.left c.self.invariant c.in_ok-bookings.ensures.ascending c.rows-known.ensures.lawful c.args.class c.reach-reach.result c.timeline.result.now.list c.as_slice-2.result.now c.timeline.ensures made

-- and shows the starts that are free
pub returns-clause-tiers : goal.returns-clause-tiers
returns-clause-tiers c =
    let d = c.self.inside in
    let began = d.book.now.book in
    let made = c.as_slice-2.ensures.value ∙ (c.in_ok-bookings.ensures.made ∙ ap (λ g. near_gathered c.args.class c.reach-reach.result d.touched.list g c.timeline.result.now.list) c.as_slice.ensures.value) in
    let same = read_tiers d.book.now.number d.moment began (book_now d.moment d.log.changes began) d.touched.list d.gone.items d.epoch d.count d.bytes d.log.left c.self.invariant c.in_ok-bookings.ensures.ascending c.rows-known.ensures.lawful c.args.class c.reach-reach.result c.args.length c.args.priority c.args.window c.reach-reach.ensures c.timeline.result.now.list c.as_slice-2.result.now c.in_ok-timeline.timeline.list c.timeline.ensures made c.in_ok-timeline.ensures
    ∙ ap (λ (x : Seen). free_tiers x.draft.book.rows x.draft.book.moment c.args.class c.args.length c.args.priority c.args.window) c.self.view_is in
    let found = rw (to_z-of_z c.ranges.priority) at c.free.ensures in
    subst (λ t. IfOk c.free.result (λ tiers. tiers ≡ t)) same found

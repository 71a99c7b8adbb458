use Rattle.std.proofs.Common.{◌-◌, ◌++◌, ◌∷◌, ◌∙◌, [], refl, ap, ap₂}
use Rattle.host_model.specs.declared.change.Change.TheVariants.{Asked}
use Rattle.run_states.specs.Rows.{put_row}
use Rattle.run_states.specs.declared.proposal.Question.{Question}
use Rattle.host_model.specs.NewRow.{asked_row}
use Rattle.host_book.proofs.AcceptLemmas.{asked_bytes}
use Rattle.host_draft.specs.Draft.{book_now}
use Rattle.host_draft.proofs.KindLemmas.{ask_new, ask_rows}
use Rattle.host_draft.proofs.MakeLemmas.{asked_kept, can, shown_made, spoken}
use Rattle.host_draft.proofs.draft.Draft.make_asked.Goals as goal

-- the new row lies over the book's
pub invariant_of-self-2 : goal.invariant_of-self-2
invariant_of-self-2 c =
    let d = c.self.inside in
    asked_kept d.book.now.number d.moment d.limits.now d.book.now.book d.log.changes d.touched.list d.gone.items d.epoch d.count d.bytes d.log.places d.log.left c.self.invariant c.args.self.now c.self.view_is c.args.length (Asked c.args.question c.args.participants c.args.asker) c.requires (asked_row d.moment c.args.question c.args.participants c.args.asker) refl refl
    (ask_rows d.book.now.number d.moment (book_now d.moment d.log.changes d.book.now.book) c.self.invariant.at c.self.invariant.lawful c.args.question c.args.participants c.args.asker (can d.book.now.number d.moment d.limits.now d.book.now.book d.log.changes d.touched.list d.gone.items d.epoch d.count d.bytes d.log.places d.log.left c.self.invariant c.args.self.now c.self.view_is c.args.length (Asked c.args.question c.args.participants c.args.asker) c.requires) (spoken d.book.now.number d.moment d.limits.now d.book.now.book d.log.changes d.touched.list d.gone.items d.epoch d.count d.bytes d.log.places d.log.left c.self.invariant c.args.self.now c.self.view_is c.args.length (Asked c.args.question c.args.participants c.args.asker) c.requires))
    (ask_new d.book.now.number d.moment (book_now d.moment d.log.changes d.book.now.book) c.self.invariant.at c.self.invariant.lawful c.args.question c.args.participants c.args.asker (can d.book.now.number d.moment d.limits.now d.book.now.book d.log.changes d.touched.list d.gone.items d.epoch d.count d.bytes d.log.places d.log.left c.self.invariant c.args.self.now c.self.view_is c.args.length (Asked c.args.question c.args.participants c.args.asker) c.requires) (spoken d.book.now.number d.moment d.limits.now d.book.now.book d.log.changes d.touched.list d.gone.items d.epoch d.count d.bytes d.log.places d.log.left c.self.invariant c.args.self.now c.self.view_is c.args.length (Asked c.args.question c.args.participants c.args.asker) c.requires))
    (asked_bytes d.moment c.args.question c.args.participants c.args.asker)
    c.push.new.self.changes c.put.new.self.list c.push.new.self.left
    (c.push.ensures.changes ∙ ap (λ l. l ++ Asked c.args.question c.args.participants c.args.asker ∷ []) c.in_ok-reserve.ensures.changes)
    (c.put.ensures.rows ∙ ap₂ put_row c.in_ok-reserve-2.ensures.same (c.in_ok-row.ensures ∙ ap (λ (q : Question). asked_row d.moment q c.args.participants c.args.asker) c.value.ensures))
    (c.push.ensures.left ∙ ap (λ n. n - c.args.length) c.in_ok-reserve.ensures.left)

pub returns-clause-made : goal.returns-clause-made
returns-clause-made c =
    let d = c.self.inside in
    shown_made d.book.now.number d.moment d.limits.now d.book.now.book d.log.changes d.touched.list d.gone.items d.epoch d.count d.bytes d.log.places d.log.left c.self.invariant c.args.self.now c.self.view_is c.args.length (Asked c.args.question c.args.participants c.args.asker) c.requires c.push.new.self.changes c.push.new.self.places c.push.new.self.left
    (c.push.ensures.changes ∙ ap (λ l. l ++ Asked c.args.question c.args.participants c.args.asker ∷ []) c.in_ok-reserve.ensures.changes)
    (c.push.ensures.places ∙ ap (λ n. n - 1) c.in_ok-reserve.ensures.places)
    (c.push.ensures.left ∙ ap (λ n. n - c.args.length) c.in_ok-reserve.ensures.left)

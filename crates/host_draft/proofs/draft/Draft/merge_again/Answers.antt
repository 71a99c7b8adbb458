use Rattle.std.proofs.Common.{◌≡◌, ◌-◌, ◌++◌, ◌∷◌, ◌∙◌, [], refl, ap, sym, subst}
use Rattle.host_model.specs.declared.change.Change.TheVariants.{Merged}
use Rattle.std.proofs.Common.{true}
use Rattle.run_states.specs.Rows.{find_row}
use Rattle.host_book.specs.Ready.{is_merged}
use Rattle.host_draft.specs.Draft.{Seen, book_now}
use Rattle.host_draft.proofs.KindLemmas.{merge_leaves}
use Rattle.host_draft.proofs.MakeLemmas.{idle_kept, shown_made}
use Rattle.host_draft.proofs.draft.Draft.merge_again.Goals as goal

-- no row changes
pub invariant_of-self-2 : goal.invariant_of-self-2
invariant_of-self-2 c =
    let d = c.self.inside in
    let merged : is_merged (find_row (book_now d.moment d.log.changes d.book.now.book).rows c.args.key) ≡ true = subst (λ (x : Seen). is_merged (find_row x.draft.book.rows c.args.key) ≡ true) (sym c.self.view_is) c.requires.merged in
    idle_kept d.book.now.number d.moment d.limits.now d.book.now.book d.log.changes d.touched.list d.gone.items d.epoch d.count d.bytes d.log.places d.log.left c.self.invariant c.args.self.now c.self.view_is c.args.length (Merged c.args.key c.args.body) c.requires.admitted refl refl (merge_leaves d.book.now.number d.moment (book_now d.moment d.log.changes d.book.now.book) c.self.invariant.at c.self.invariant.lawful c.args.key c.args.body merged) c.push.new.self.changes c.push.new.self.left
    (c.push.ensures.changes ∙ ap (λ l. l ++ Merged c.args.key c.args.body ∷ []) c.in_ok-reserve.ensures.changes)
    (c.push.ensures.left ∙ ap (λ n. n - c.args.length) c.in_ok-reserve.ensures.left)

pub returns-clause-made : goal.returns-clause-made
returns-clause-made c =
    let d = c.self.inside in
    shown_made d.book.now.number d.moment d.limits.now d.book.now.book d.log.changes d.touched.list d.gone.items d.epoch d.count d.bytes d.log.places d.log.left c.self.invariant c.args.self.now c.self.view_is c.args.length (Merged c.args.key c.args.body) c.requires.admitted c.push.new.self.changes c.push.new.self.places c.push.new.self.left
    (c.push.ensures.changes ∙ ap (λ l. l ++ Merged c.args.key c.args.body ∷ []) c.in_ok-reserve.ensures.changes)
    (c.push.ensures.places ∙ ap (λ n. n - 1) c.in_ok-reserve.ensures.places)
    (c.push.ensures.left ∙ ap (λ n. n - c.args.length) c.in_ok-reserve.ensures.left)

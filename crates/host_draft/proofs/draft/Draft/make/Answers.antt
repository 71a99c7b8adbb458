use Rattle.std.proofs.Common.{◌≡◌, ◌==◌, ◌∙◌, true, refl, subst, sym}
use Rattle.host_model.specs.Lawful.{Lawful}
use Rattle.host_draft.specs.Draft.{Seen}
use Rattle.host_draft.proofs.DraftLemmas.{full_shown}
use Rattle.host_draft.proofs.KindLemmas.{tests_of}
use Rattle.host_draft.proofs.draft.Draft.make.Goals as goal

-- without place nothing changes
pub returns-then-is_full-clause-made : goal.returns-then-is_full-clause-made
returns-then-is_full-clause-made c =
    let full : (c.args.self.now.draft.places == 0) ≡ true = subst (λ (x : Seen). (x.draft.places == 0) ≡ true) c.self.view_is (sym c.is_full.ensures ∙ c.if-is_full.true) in
    full_shown c.args.change c.args.self.now full

-- a change that leaves a lawful book has tests within bounds
pub change_length-requires-clause-tests : goal.change_length-requires-clause-tests
change_length-requires-clause-tests c =
    let s = c.args.self.now in
    tests_of s.number s.draft.book.moment s.draft.book refl (subst (λ (x : Seen). Lawful x.number x.draft.book) c.self.view_is c.self.invariant.lawful) c.args.change c.requires.kind c.requires.can c.requires.lawful

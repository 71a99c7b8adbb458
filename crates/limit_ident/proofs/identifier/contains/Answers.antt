use Rattle.std.proofs.Common.{◌==◌, sym, refl, ◌∙◌}
use Rattle.std.specs.List.{starts_with}
use Rattle.std.proofs.lemmas.List.{at_drop_more}
use Rattle.limit_ident.specs.Identifier.{contains_text}
use Rattle.limit_ident.proofs.identifier.contains.Goals as goal

pub loop-start-preserved : goal.loop-start-preserved
loop-start-preserved c =
    c.loop-start.invariant
    ∙ at_drop_more (contains_text c.args.part.now) c.args.text.now c.loop-start.start 0 c.loop-start-test.true
    ∙ rw (sym (at_drop_more (λ xs. starts_with ◌==◌ xs c.args.part.now) c.args.text.now c.loop-start.start 0 c.loop-start-test.true), sym c.stands_at.ensures, c.if-stands_at.false) refl

pub returns-then-stands_at : goal.returns-then-stands_at
returns-then-stands_at c =
    sym (
    c.loop-start.invariant
    ∙ at_drop_more (contains_text c.args.part.now) c.args.text.now c.loop-start.start 0 c.loop-start-test.true
    ∙ rw (sym (at_drop_more (λ xs. starts_with ◌==◌ xs c.args.part.now) c.args.text.now c.loop-start.start 0 c.loop-start-test.true), sym c.stands_at.ensures, c.if-stands_at.true) refl
    )

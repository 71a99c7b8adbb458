use Rattle.std.proofs.Common.{sym, ◌∙◌, inr}
use Rattle.ps_http.specs.Found.{OnNever}
use Rattle.ps_http.specs.declared.find.Found.{Found}
use Rattle.ps_http.specs.declared.find.Found.TheVariants.{Whole, Open, Never}
use Rattle.ps_http.proofs.KindLemmas.{target_has_none}
use Rattle.ps_http.proofs.TargetLemmas.{in_target_ends, not_in_target}
use Rattle.ps_http.proofs.find.find_request.Goals as goal

pub returns-then-ends_in_target-clause-unfinished : goal.returns-then-ends_in_target-clause-unfinished
returns-then-ends_in_target-clause-unfinished c =
    let target = in_target_ends c.args.bytes.now (sym c.ends_in_target.ensures ∙ c.if-ends_in_target.true) in
    (target_has_none c.args.bytes.now target, inr target)

and_no_target : {A : Type 0} (found : Found A) (P Q : Type 0) → OnNever found P → Q → OnNever found (P × Q)
and_no_target (Whole head) P Q never other = tt
and_no_target Open P Q never other = tt
and_no_target Never P Q never other = (never, other)

pub returns-clause-never : goal.returns-clause-never
returns-clause-never c =
    and_no_target c.parsed_request.result _ _ c.parsed_request.ensures.never
    (not_in_target c.args.bytes.now (sym c.ends_in_target.ensures ∙ c.if-ends_in_target.false))

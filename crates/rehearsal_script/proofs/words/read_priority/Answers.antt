use Rattle.std.proofs.Common.{◌≡◌, ℤ, pos, ◌-ℤ◌, to_z, of_z, w16, Some, None, ◌∙◌, sym, ap, lit<, arith}
use Rattle.std.proofs.lemmas.Int.{ints}
use Rattle.std.proofs.lemmas.Str.Pattern.{strip_prefix_char}
use Rattle.rehearsal_script.proofs.TextLemmas.{priority_of-minus, priority_of-plain, signed}
use Rattle.rehearsal_script.proofs.words.read_priority.Goals as goal

-- the size after '-' is none, and so is the priority
pub returns-in_err-read_size-in-Some : goal.returns-in_err-read_size-in-Some
returns-in_err-read_size-in-Some c =
    let after = strip_prefix_char 45 c.args.field.now (Some c.in-Some.digits) c.in-Some.ensures.cases (lit< tt) in
    c.from_residual.ensures ∙ (signed _ None c.in_err-read_size-in-Some.ensures.value ∙ sym (priority_of-minus _ _ after))

-- or it is taken from 0
pub returns-in_ok-read_size-in-Some : goal.returns-in_ok-read_size-in-Some
returns-in_ok-read_size-in-Some c =
    let after = strip_prefix_char 45 c.args.field.now (Some c.in-Some.digits) c.in-Some.ensures.cases (lit< tt) in
    let size : ℤ = c.in_ok-read_size-in-Some.field-0 in
    let fits : to_z w16 (of_z w16 (pos 0 -ℤ to_z w16 (of_z w16 size))) ≡ pos 0 -ℤ size = omega (arith, ints, c.in_ok-read_size-in-Some.ensures.least, c.in_ok-read_size-in-Some.ensures.most) in
    ap Some fits ∙ (signed _ (Some size) c.in_ok-read_size-in-Some.ensures.value ∙ sym (priority_of-minus _ _ after))

-- with no '-' the size is the priority
pub returns-in-None : goal.returns-in-None
returns-in-None c = c.read_size-in-None.ensures.value ∙ sym (priority_of-plain _ (strip_prefix_char 45 c.args.field.now None c.in-None.ensures.cases (lit< tt)))

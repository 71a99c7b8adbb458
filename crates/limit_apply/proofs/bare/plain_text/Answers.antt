use Rattle.std.proofs.Common.{arith}
use Rattle.std.proofs.lemmas.Grind.{common_steps}
use Rattle.serde_json.specs.View.{view}
use Rattle.limit_apply.proofs.FlatLemmas.{flat_whole, flat_depth}
use Rattle.limit_apply.proofs.bare.plain_text.Goals as goal

pub returns-then-not-is_whole-clause-there : goal.returns-then-not-is_whole-clause-there
returns-then-not-is_whole-clause-there c = λ flat.
    let whole = c.is_whole.ensures.1 (flat_whole 64 (view c.args.value.now) flat) in
    first_of (grind (arith, common_steps, whole), cc whole)

pub returns-then-is_deeper-clause-there : goal.returns-then-is_deeper-clause-there
returns-then-is_deeper-clause-there c = λ flat.
    let deeper = c.is_deeper.ensures.0 c.if-is_deeper.true in
    let depth = flat_depth 64 (view c.args.value.now) flat in
    absurd (omega (arith, deeper, depth))

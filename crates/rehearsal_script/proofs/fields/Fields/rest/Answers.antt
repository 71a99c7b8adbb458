use Rattle.std.proofs.Common.{◌≡◌, ℕ, List, IfOk, subst}
use Rattle.std.specs.List.{join_with_byte}
use Rattle.rehearsal_script.proofs.JoinLemmas.{rest_parts}
use Rattle.rehearsal_script.proofs.fields.Fields.rest.Goals as goal

pub returns : goal.returns
returns c =
    let same = rest_parts c.deref.result.now c.self.inside.parts.items c.args.self.now c.args.place c.deref.ensures.value c.self.view_is in
    subst (λ (rest : List (List ℕ)). IfOk c.spaced.result (λ text. text ≡ join_with_byte 32 rest)) same c.spaced.ensures

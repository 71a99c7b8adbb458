use Rattle.std.proofs.Common.{◌==◌, Bool, ℕ, not, rules, tests}
use Rattle.std.proofs.lemmas.Fn.{filter_same}
use Rattle.rehearsal_script.specs.declared.script.Stop.{Stop}
use Rattle.rehearsal_state.proofs.rehearsal.disarm.Goals as goal

-- the closure is the test
pub returns : goal.returns
returns c =
    let stays : ℕ × Stop → Bool = λ s. not (s.0 == c.args.place) in
    filter_same _ stays _ (λ x b f' k. search (rules, tests)) _ _ c.retain.ensures.filtered

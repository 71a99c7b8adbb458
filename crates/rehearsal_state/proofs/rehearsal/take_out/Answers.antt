use Rattle.std.proofs.Common.{◌==◌, Bool, ℕ, not, rules, tests}
use Rattle.std.proofs.lemmas.Fn.{filter_same}
use Rattle.rehearsal_state.proofs.rehearsal.take_out.Goals as goal

-- the closure is the test
pub returns : goal.returns
returns c =
    let stays : ℕ → Bool = λ n. not (n == c.args.number) in
    filter_same _ stays _ (λ x b f' k. search (rules, tests)) _ _ c.retain.ensures.filtered

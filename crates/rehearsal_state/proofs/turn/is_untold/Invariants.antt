use Rattle.std.proofs.Common.{◌≡◌, drop}
use Rattle.std.specs.List.{list_any}
use Rattle.rehearsal_model.specs.Moves.{tells}
use Rattle.rehearsal_model.specs.Simulations.{as_read}
use Rattle.rehearsal_model.specs.Seen.{message}
use Rattle.rehearsal_state.proofs.turn.is_untold.Given as goal

-- what is left decides
abbrev pub invariant-loop-number : goal.invariant-loop-number
invariant-loop-number l =
    list_any (λ n. tells l.order (message (as_read l.now) n)) (drop l.number-index l.number-items) ≡ list_any (λ n. tells l.order (message (as_read l.now) n)) l.now.flying

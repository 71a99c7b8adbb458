-- What a pass stands for, and what a call through the gate does.
use Rattle.std.specs.Prelude.{◌≡◌, ◌+◌, ℕ, Bool, [], Option, Some, None}
use Rattle.atomic_table.specs.Seated.{TableId}
use Rattle.host_gate.specs.declared.view.Mark.{Mark}
use Rattle.host_gate.specs.declared.view.Stage.TheVariants.{Outside}
use Rattle.host_gate.specs.Marks.{Follows, added, HasFront}
use Rattle.host_gate.specs.Plays.{Sat}

-- The gate that a pass is for, the state that it has seen last with its front, and the number that it has read last as the next ticket. Each pass has seen some state
pub record Standing (K : Type 0) : Type 0 where
  pub gate : TableId
  pub seen : Option (Mark K)
  pub read : ℕ

-- One step, from a state that has grown from what was seen before. The front rises by 1 exactly where the step says that the state changed
pub record Stepped {K Call Reply : Type 0} (grown : K → K → Type 0) (steps : K → Call → Reply → Bool → K → Type 0) (was_seen : Option (Mark K)) (call : Call) (reply : Reply) (is_seen : Option (Mark K)) : Type 0 where
  pub before : Mark K
  pub found : Mark K
  pub after : Mark K
  pub changed : Bool
  pub before_is : was_seen ≡ Some before
  pub after_is : is_seen ≡ Some after
  pub later : Follows grown before found
  pub step : steps found.state call reply changed after.state
  pub front : after.front ≡ found.front + added changed
  pub next : Follows grown found after
  pub grows : Follows grown before after

-- the seat of a pass, between its calls
pub record IsIdle {K : Type 0} (me : Sat K) (front : ℕ) : Type 0 where
  pub outside : me.0.stage ≡ Outside
  pub alone : me.0.met ≡ None
  pub empty : me.1 ≡ []
  pub seen : HasFront me.0.seen front

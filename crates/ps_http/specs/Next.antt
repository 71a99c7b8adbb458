-- The head that was read from a source.
use Rattle.std.specs.Prelude.{◌≤◌, ℕ, List, length, take, Option, IfSome}
use Rattle.std.specs.Io.KnownBytes.{prepend_known, IsAtEnd}
use Rattle.ps_http.specs.Answer.{Kind, Refuses, WasDue, WasEnough, WasEnoughOrEnd}
use Rattle.ps_http.specs.Collected.{Added, IsWanted}
use Rattle.ps_http.specs.Head.{IsHeaded}
use Rattle.ps_http.specs.declared.fault.HttpFault.{HttpFault}
use Rattle.ps_http.specs.declared.fault.HttpFault.TheVariants.{BadHead, NoLength, TooLarge, EndInside, ReadFault, AfterRefusal, Memory}
use Rattle.ps_http.specs.declared.message.HttpLimits.{HttpLimits}

-- a whole head stands at the front of what is held
pub record HasHead {H M : Type 0} (kind : Kind H M) (limits : HttpLimits) (message : M) (size body : ℕ) (old held : List ℕ) (left rest : Option (List ℕ)) : Type 0 where
  pub added : Added old held left rest
  pub wanted : IsWanted limits.head old held
  pub headed : IsHeaded kind limits (take limits.head held) message size body
  pub fits : size ≤ length held

-- what a fault says of the input, or that a read was due
abbrev pub FaultAt : {H M : Type 0} → Kind H M → HttpLimits → List ℕ → List ℕ → HttpFault → Option (List ℕ) → Option (List ℕ) → Type 0
FaultAt kind limits old now ReadFault left rest = WasDue kind limits old left rest
FaultAt kind limits old now AfterRefusal left rest = ⊥
FaultAt kind limits old now BadHead left rest =
    IfSome (prepend_known old left) (λ input. Refuses kind limits input BadHead) × WasEnoughOrEnd kind limits old now left rest
FaultAt kind limits old now NoLength left rest =
    IfSome (prepend_known old left) (λ input. Refuses kind limits input NoLength) × WasEnough kind limits old now left rest
FaultAt kind limits old now TooLarge left rest =
    IfSome (prepend_known old left) (λ input. Refuses kind limits input TooLarge) × WasEnough kind limits old now left rest
FaultAt kind limits old now (EndInside n) left rest = IfSome (prepend_known old left) (λ input. Refuses kind limits input (EndInside n)) × WasDue kind limits old left rest × IsAtEnd rest
FaultAt kind limits old now Memory left rest = IfSome (prepend_known old left) (λ input. Refuses kind limits input Memory)

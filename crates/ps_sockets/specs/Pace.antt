-- How long calls on a connection may wait. Lengths are in nanoseconds.
use Rattle.std.specs.Prelude.{◌≡◌, ◌+◌, ◌<◌, ℕ, Bool, true, false, Option, Some, None}
use Rattle.std.specs.declared.time.Duration.{Duration}
use Rattle.std.specs.Duration.{as_nanos}
use Rattle.ps_sockets.specs.declared.pace.Phase.{Phase}
use Rattle.ps_sockets.specs.declared.pace.Phase.TheVariants.{Silence, Message, Response}
use Rattle.ps_sockets.specs.declared.waits.Waits.{Waits}

-- what is left of a wait that ends there
abbrev pub EndsAt : ℕ → ℕ → Option Duration → Type 0
EndsAt end now (Some left) = (now < end) × (as_nanos left + now ≡ end)
EndsAt end now None = now < end → ⊥

-- a message comes, or is waited for
abbrev pub is_reading : Phase → Bool
is_reading Silence = true
is_reading Message = true
is_reading phase = false

abbrev pub is_writing : Phase → Bool
is_writing Response = true
is_writing phase = false

-- the phase after bytes were read
abbrev pub read_phase : Phase → Phase
read_phase Silence = Message
read_phase phase = phase

-- how long a phase may last
abbrev pub bound_of : Waits → Phase → Duration
bound_of waits Message = waits.message
bound_of waits Response = waits.response
bound_of waits phase = waits.silence

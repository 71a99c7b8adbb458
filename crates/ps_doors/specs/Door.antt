-- What an accept of a door answers and leaves, and a door in memory.
use Rattle.std.specs.Prelude.{◌≡◌, ◌≤◌, ℕ, ◌-◌, ◌==◌, Bool, true, false, if◌then◌else◌, List, [], ◌∷◌, ◌++◌, length, drop, Option, None, Some, ⊤}
use Rattle.std.specs.Option.{option_map}
use Rattle.ps_ports.specs.Causes.{raised}
use Rattle.ps_ports.specs.Memory.{Calls, fails_next, called, no_calls, StreamState}
use Rattle.ps_doors.specs.Returned.{ReturnedState, after_going, after_coming}
use Rattle.ps_doors.specs.declared.door.Accepted.{Accepted}
use Rattle.ps_doors.specs.declared.door.Accepted.TheVariants.{Stream, Closed, Failed, Memory}

-- the longest address, in bytes
abbrev pub greatest_address : ℕ
greatest_address = 255

-- a stream comes with an address that isn't too long
abbrev pub HasAddress : {S : Type 0} → Accepted S → Type 0
HasAddress (Stream stream address) = length address ≤ greatest_address
HasAddress answer = ⊤

abbrev pub is_closed : {S : Type 0} → Accepted S → Bool
is_closed Closed = true
is_closed answer = false

-- a stream is out after it, or was before
abbrev pub GoesOn : {S : Type 0} → Type 0 → Type 0 → Accepted S → Type 0
GoesOn before now (Stream stream address) = now
GoesOn before now answer = before → now

-- the count rises exactly where the call failed, and by one
abbrev pub door_faults_after : {S : Type 0} → ℕ → Accepted S → ℕ
door_faults_after count Failed = raised count
door_faults_after count answer = count

-- the streams given out, each with its address: one more where the call gave one
abbrev pub given_after : {S : Type 0} → Option (List (S × List ℕ)) → Accepted S → Option (List (S × List ℕ))
given_after given (Stream stream address) = option_map (λ l. l ++ (stream, address) ∷ []) given
given_after given answer = given

-- how many streams the door will still give, where that is bounded: one less where the call gave one
abbrev pub share_after : {S : Type 0} → Option ℕ → Accepted S → Option ℕ
share_after share (Stream stream address) = option_map (λ n. n - 1) share
share_after share answer = share

-- the door gives no more
abbrev pub is_used_up : Option ℕ → Bool
is_used_up None = false
is_used_up (Some n) = n == 0

-- a stream in memory and its address
abbrev pub Guest : Type 0
Guest = StreamState × List ℕ

abbrev pub HasShortAddress : Guest → Type 0
HasShortAddress guest = length guest.1 ≤ greatest_address

-- the streams that are left and those that were given out, each with its address; those that came back; the calls, the count of faults
pub record DoorState : Type 0 where
  pub guests : List Guest
  pub given : List Guest
  pub returned : ReturnedState StreamState
  pub calls : Calls
  pub faults : ℕ

-- a door with these streams, of whose calls these are to fail
abbrev pub new_door : List Guest → List ℕ → DoorState
new_door guests failing = record { guests = guests; given = []; returned = record { back = []; out = 0 }; calls = no_calls failing; faults = 0 }

-- after an accept with this answer
abbrev pub after_accept : DoorState → Accepted StreamState → DoorState
after_accept d (Stream stream address) =
    record { guests = drop 1 d.guests; given = d.given ++ (stream, address) ∷ []; returned = after_going d.returned; calls = called d.calls; faults = d.faults }
after_accept d Failed = record { guests = d.guests; given = d.given; returned = d.returned; calls = called d.calls; faults = raised d.faults }
after_accept d answer = record { guests = d.guests; given = d.given; returned = d.returned; calls = called d.calls; faults = d.faults }

-- what the next accept answers where there is memory: nothing but Closed where no stream is left
abbrev pub accept_of : Calls → List Guest → Accepted StreamState
accept_of calls [] = Closed
accept_of calls (guest ∷ more) = if fails_next calls then Failed else Stream guest.0 guest.1

-- it may be out of memory in place of a stream
abbrev pub Accepts : Accepted StreamState → Accepted StreamState → Type 0
Accepts Memory (Stream stream address) = ⊤
Accepts answer wanted = answer ≡ wanted

-- after the first stream was given out, or there was no memory for that
abbrev pub after_giving : DoorState → Accepted StreamState → DoorState
after_giving d (Stream stream address) =
    record { guests = drop 1 d.guests; given = d.given ++ (stream, address) ∷ []; returned = after_going d.returned; calls = d.calls; faults = d.faults }
after_giving d answer = d

-- the first of these, or out of memory
abbrev pub GivesFirst : List Guest → Accepted StreamState → Type 0
GivesFirst guests (Stream stream address) = guests ≡ (stream, address) ∷ drop 1 guests
GivesFirst guests Memory = ⊤
GivesFirst guests answer = ⊥

-- one more stream waits at the door
abbrev pub with_guest : DoorState → Guest → DoorState
with_guest d guest = record { guests = d.guests ++ guest ∷ []; given = d.given; returned = d.returned; calls = d.calls; faults = d.faults }

-- a stream came back
abbrev pub after_done : DoorState → StreamState → DoorState
after_done d stream = record { guests = d.guests; given = d.given; returned = after_coming d.returned stream; calls = d.calls; faults = d.faults }

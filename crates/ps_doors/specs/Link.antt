-- What a link answers, its count of faults, and a link in memory.
use Rattle.std.specs.Prelude.{ℕ, Bool, if◌then◌else◌, List, [], ◌∷◌, take, drop, Result, Ok, Err}
use Rattle.std.specs.declared.io.ErrorKind.{ErrorKind}
use Rattle.std.specs.declared.io.ErrorKind.TheVariants.{OutOfMemory}
use Rattle.ps_ports.specs.Causes.{raised}
use Rattle.ps_ports.specs.Memory.{Calls, fails_next}
use Rattle.ps_doors.specs.declared.link.Asked.{Asked}
use Rattle.ps_doors.specs.declared.link.LinkFault.{LinkFault}
use Rattle.ps_doors.specs.declared.link.LinkFault.TheVariants.{Failed, Memory}

-- the longest reply, in bytes: a head of 16,384 bytes and a body of 33,554,432
abbrev pub greatest_reply : ℕ
greatest_reply = 33570817

-- the fault that an error of the system stands for
abbrev pub link_fault_of : ErrorKind → LinkFault
link_fault_of OutOfMemory = Memory
link_fault_of _ = Failed

-- the count rises exactly where the call failed, and by one
abbrev pub link_faults_after : {A : Type 0} → ℕ → Result A LinkFault → ℕ
link_faults_after count (Ok reply) = count
link_faults_after count (Err Failed) = raised count
link_faults_after count (Err Memory) = count

-- the same answer, its reply seen as bytes
abbrev pub answer_of : {A : Type 0} → (A → List ℕ) → Result A LinkFault → Result (List ℕ) LinkFault
answer_of bytes (Ok reply) = Ok (bytes reply)
answer_of bytes (Err fault) = Err fault

-- the replies that are left, what was asked so far, the calls, the count of faults, and whether memory ever ran out for what was asked
pub record LinkState : Type 0 where
  pub replies : List (List ℕ)
  pub asked : List Asked
  pub calls : Calls
  pub faults : ℕ
  pub starved : Bool

-- what the next call answers: it fails where it is to fail, and where no reply is left
abbrev pub next_answer : Calls → List (List ℕ) → Result (List ℕ) LinkFault
next_answer calls [] = Err Failed
next_answer calls (reply ∷ more) = if fails_next calls then Err Failed else Ok (take greatest_reply reply)

-- the replies that are left after an answer
abbrev pub replies_after : {A : Type 0} → List (List ℕ) → Result A LinkFault → List (List ℕ)
replies_after replies (Ok given) = drop 1 replies
replies_after replies (Err fault) = replies

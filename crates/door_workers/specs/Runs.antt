-- Streams that were attended one after another, and what became of a door.
use Rattle.std.specs.Prelude.{◌≡◌, ◌-◌, ℕ, true, false, List, [], ◌∷◌, ◌++◌, map, length, Option, Some, None, ⊤}
use Rattle.std.specs.Option.{option_map}
use Rattle.ps_ports.specs.Causes.{raised}
use Rattle.ps_doors.specs.Door.{is_used_up}
use Rattle.door_workers.specs.declared.part.End.{End}
use Rattle.door_workers.specs.declared.part.End.TheVariants.{Closed, Failed}

-- a stream as it came, with its address, and as it was left
pub record Visit (S : Type 0) : Type 0 where
  pub came : S
  pub address : List ℕ
  pub left : S

abbrev pub guest : {S : Type 0} → Visit S → S × List ℕ
guest v = (v.came, v.address)

-- these visits lead from the first token to the second
abbrev pub Attends : {S T : Type 0} → (T → S → List ℕ → S → T → Type 0) → List (Visit S) → T → T → Type 0
Attends attended [] t u = u ≡ t
Attends {S} {T} attended (v ∷ vs) t u = (m : T) × attended t v.came v.address v.left m × Attends attended vs m u

-- the count of faults, which is one more exactly where the door failed
abbrev pub faults_at : Option End → ℕ → ℕ
faults_at (Some Failed) count = raised count
faults_at end count = count

-- it is closed exactly where the share is used up
abbrev pub EndsAt : Option End → Option ℕ → Type 0
EndsAt None share = ⊤
EndsAt (Some Closed) share = is_used_up share ≡ true
EndsAt (Some Failed) share = is_used_up share ≡ false

-- from a door and a token to these: the streams that the door gave were attended one after another and given back, and it ended so
pub record DoorRun {D S T : Type 0} (faults : D → ℕ) (share : D → Option ℕ) (given : D → Option (List (S × List ℕ))) (returned : D → Option (List S)) (attended : T → S → List ℕ → S → T → Type 0) (door : D) (token : T) (end : Option End) (door_after : D) (token_after : T) : Type 0 where
  pub visits : List (Visit S)
  pub chain : Attends attended visits token token_after
  pub gave : given door_after ≡ option_map (λ l. l ++ map guest visits) (given door)
  pub took : returned door_after ≡ option_map (λ l. l ++ map (λ v. v.left) visits) (returned door)
  pub shared : share door_after ≡ option_map (λ n. n - length visits) (share door)
  pub counted : faults door_after ≡ faults_at end (faults door)
  pub ended : EndsAt end (share door_after)

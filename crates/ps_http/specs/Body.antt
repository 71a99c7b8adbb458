-- What reading the body of a message comes to.
use Rattle.std.specs.Prelude.{◌≡◌, ◌<◌, ◌+◌, ◌⊎◌, ⊤, ℕ, List, [], ◌++◌, length, drop, Option}
use Rattle.std.specs.Io.KnownBytes.{Consumes, IsAtEnd}
use Rattle.ps_http.specs.declared.fault.HttpFault.{HttpFault}
use Rattle.ps_http.specs.declared.fault.HttpFault.TheVariants.{BadHead, NoLength, TooLarge, EndInside, ReadFault, AfterRefusal, Memory}

-- behind the bytes that were ready, the rest of the length came
pub record Filled (ready whole : ℕ) (front body : List ℕ) (left rest : Option (List ℕ)) : Type 0 where
  pub came : List ℕ
  pub consumed : Consumes left rest came
  pub filled : body ≡ front ++ came

-- fewer came than were wanted
pub record Short (ready whole : ℕ) (left rest : Option (List ℕ)) : Type 0 where
  pub came : List ℕ
  pub consumed : Consumes left rest came
  pub short : ready + length came < whole

-- why the body wasn't filled; the input ended behind size bytes, those that were ready, and those that came
abbrev pub FillFault : ℕ → ℕ → ℕ → HttpFault → Option (List ℕ) → Option (List ℕ) → Type 0
FillFault ready size whole (EndInside n) left rest = (s : Short ready whole left rest) × (n ≡ size + ready + length s.came) × IsAtEnd rest
FillFault ready size whole ReadFault left rest = Short ready whole left rest
FillFault ready size whole BadHead left rest = ⊥
FillFault ready size whole NoLength left rest = ⊥
FillFault ready size whole TooLarge left rest = ⊥
FillFault ready size whole AfterRefusal left rest = ⊥
FillFault ready size whole Memory left rest = ⊥

-- the body, behind a head of this size; what follows it is held
pub record HasBody (size whole : ℕ) (body old held : List ℕ) (left rest : Option (List ℕ)) : Type 0 where
  pub came : List ℕ
  pub consumed : Consumes left rest came
  pub split : drop size old ++ came ≡ body ++ held
  pub len : length body ≡ whole
  pub wanted : (came ≡ []) ⊎ ((held ≡ []) × (length old < size + whole))

-- why there is no body
abbrev pub BodyFault : ℕ → ℕ → HttpFault → List ℕ → Option (List ℕ) → Option (List ℕ) → Type 0
BodyFault size whole (EndInside n) old left rest = (s : Short (length old) (size + whole) left rest) × (n ≡ length old + length s.came) × IsAtEnd rest
BodyFault size whole ReadFault old left rest = Short (length old) (size + whole) left rest
BodyFault size whole BadHead old left rest = ⊥
BodyFault size whole NoLength old left rest = ⊥
BodyFault size whole TooLarge old left rest = ⊥
BodyFault size whole AfterRefusal old left rest = ⊥
BodyFault size whole Memory old left rest = ⊤

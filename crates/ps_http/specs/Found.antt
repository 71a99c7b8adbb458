-- Words on what stands at the front of bytes.
use Rattle.std.specs.Prelude.{⊤}
use Rattle.ps_http.specs.declared.find.Found.{Found}
use Rattle.ps_http.specs.declared.find.Found.TheVariants.{Whole, Open, Never}

-- P of the whole head, where there is one
abbrev pub IfWhole : {A : Type 0} → Found A → (A → Type 0) → Type 0
IfWhole (Whole head) P = P head
IfWhole Open P = ⊤
IfWhole Never P = ⊤

-- P, where bytes can follow that make a head
abbrev pub OnOpen : {A : Type 0} → Found A → Type 0 → Type 0
OnOpen (Whole head) P = ⊤
OnOpen Open P = P
OnOpen Never P = ⊤

-- P, where none can
abbrev pub OnNever : {A : Type 0} → Found A → Type 0 → Type 0
OnNever (Whole head) P = ⊤
OnNever Open P = ⊤
OnNever Never P = P

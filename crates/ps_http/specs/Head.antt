-- What the first bytes of an input are, as far as a head goes.
use Rattle.std.specs.Prelude.{◌≡◌, ◌≤◌, ◌<◌, ◌⊎◌, ⊤, ℕ, nat_le, if◌then◌else◌, List, [], length, Result, Ok, Err}
use Rattle.ps_http.specs.Answer.{Kind}
use Rattle.ps_http.specs.declared.fault.HttpFault.{HttpFault}
use Rattle.ps_http.specs.declared.fault.HttpFault.TheVariants.{BadHead, NoLength, TooLarge, EndInside, ReadFault, AfterRefusal, Memory}
use Rattle.ps_http.specs.declared.message.HttpLimits.{HttpLimits}

-- a whole head, of this size and with a body of this length, and its message without the body
pub record IsHeaded {H M : Type 0} (kind : Kind H M) (limits : HttpLimits) (front : List ℕ) (message : M) (size body : ℕ) : Type 0 where
  pub head : H
  pub rest : List ℕ
  pub reads : kind.Reads front head rest
  pub length_is : kind.length_by limits head ≡ Ok body
  pub size_is : size ≡ length (kind.text head)
  pub message_is : message ≡ kind.message head []

-- a whole head that is refused
pub record IsRefused {H M : Type 0} (kind : Kind H M) (limits : HttpLimits) (front : List ℕ) (fault : HttpFault) : Type 0 where
  pub head : H
  pub rest : List ℕ
  pub reads : kind.Reads front head rest
  pub refused : kind.length_by limits head ≡ Err fault

-- why there is no head, where the input has no more bytes or the front has all that a head may have
abbrev pub HeadFault : {H M : Type 0} → Kind H M → HttpLimits → List ℕ → HttpFault → Type 0
HeadFault kind limits front BadHead = kind.Never front ⊎ IsRefused kind limits front BadHead
HeadFault kind limits front TooLarge = ((limits.head ≤ length front) × kind.Open front) ⊎ IsRefused kind limits front TooLarge
HeadFault kind limits front NoLength = IsRefused kind limits front NoLength
HeadFault kind limits front (EndInside n) = (n ≡ length front) × (length front < limits.head) × kind.Open front
HeadFault kind limits front ReadFault = ⊥
HeadFault kind limits front AfterRefusal = ⊥
HeadFault kind limits front Memory = ⊤

-- a head at the front has this message, without the body
abbrev pub IsMessageOf : {H M : Type 0} → Kind H M → List ℕ → M → Type 0
IsMessageOf {H} kind front message = (head : H) × (rest : List ℕ) × kind.Reads front head rest × (message ≡ kind.message head [])

-- a whole head is refused, or memory runs out
abbrev pub IsRefusedOr : {H M : Type 0} → Kind H M → HttpLimits → List ℕ → HttpFault → Type 0
IsRefusedOr kind limits front BadHead = IsRefused kind limits front BadHead
IsRefusedOr kind limits front TooLarge = IsRefused kind limits front TooLarge
IsRefusedOr kind limits front NoLength = IsRefused kind limits front NoLength
IsRefusedOr kind limits front (EndInside n) = ⊥
IsRefusedOr kind limits front ReadFault = ⊥
IsRefusedOr kind limits front AfterRefusal = ⊥
IsRefusedOr kind limits front Memory = ⊤

-- the fault of a head without an end, of which so many bytes came
abbrev pub unfinished : HttpLimits → ℕ → HttpFault
unfinished limits count = if nat_le limits.head count then TooLarge else EndInside count

-- the head at the front, of this size, gives this length or refusal
abbrev pub HeadGives : {H M : Type 0} → Kind H M → HttpLimits → List ℕ → ℕ → Result ℕ HttpFault → Type 0
HeadGives {H} kind limits front size gives =
    (head : H) × (rest : List ℕ) × kind.Reads front head rest × (kind.length_by limits head ≡ gives) × (size ≡ length (kind.text head))

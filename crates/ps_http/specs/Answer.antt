-- What the bytes of an input are: a message at their front, or what refuses them.
use Rattle.std.specs.Prelude.{◌≡◌, ◌≤◌, ◌<◌, ◌+◌, ◌⊎◌, ⊤, ℕ, Bool, true, false, List, [], ◌++◌, length, take, Option, Some, None, Result, Ok, Err}
use Rattle.std.specs.Io.KnownBytes.{Consumes, IsAtEnd}
use Rattle.httparse.specs.Grammar.{RequestHead, print_request, ReadsRequest, HasNoRequest, NeverHasRequest, EndsInTarget, MayBecomeRequest, ResponseHead, print_response, ReadsResponse, HasNoResponse, NeverHasResponse, MayBecomeResponse}
use Rattle.ps_http.specs.Lines.{has_head_end}
use Rattle.ps_http.specs.Message.{request_length, request_of, response_length, response_of}
use Rattle.ps_http.specs.declared.fault.HttpFault.{HttpFault}
use Rattle.ps_http.specs.declared.fault.HttpFault.TheVariants.{BadHead, NoLength, TooLarge, EndInside, ReadFault, AfterRefusal, Memory}
use Rattle.ps_http.specs.declared.message.HttpLimits.{HttpLimits}
use Rattle.ps_http.specs.declared.message.Request.{Request}
use Rattle.ps_http.specs.declared.message.Response.{Response}

-- a kind of message: its heads, and what each says
pub record Kind (H M : Type 0) : Type 1 where
  -- the bytes are this head, and then the rest
  pub Reads : List ℕ → H → List ℕ → Type 0
  -- the head's bytes
  pub text : H → List ℕ
  -- no head is at the front yet, and bytes can follow that make one
  pub Open : List ℕ → Type 0
  -- no head is at the front, whatever follows
  pub Never : List ℕ → Type 0
  -- the body's length, or the refusal
  pub length_by : HttpLimits → H → Result ℕ HttpFault
  -- the message with a body
  pub message : H → List ℕ → M

-- a target that isn't UTF-8 is refused at its end, since it is tested there
abbrev pub requests : Kind RequestHead Request
requests = record {
  Reads = ReadsRequest;
  text = print_request;
  Open = λ bytes. HasNoRequest bytes × MayBecomeRequest bytes;
  Never = λ bytes. NeverHasRequest bytes × ¬ (EndsInTarget bytes);
  length_by = request_length;
  message = request_of;
}

abbrev pub responses : Kind ResponseHead Response
responses = record {
  Reads = ReadsResponse;
  text = print_response;
  Open = λ bytes. HasNoResponse bytes × MayBecomeResponse bytes;
  Never = NeverHasResponse;
  length_by = response_length;
  message = response_of;
}

-- these bytes are the message: a head within its limit, and a body of the length that it says
pub record IsMessage {H M : Type 0} (kind : Kind H M) (limits : HttpLimits) (bytes : List ℕ) (message : M) : Type 0 where
  pub head : H
  pub body : List ℕ
  pub reads : kind.Reads bytes head body
  pub fits : length (kind.text head) ≤ limits.head
  pub length_is : kind.length_by limits head ≡ Ok (length body)
  pub message_is : message ≡ kind.message head body

-- the input begins with a head within its limit, which says this
abbrev pub HeadSays : {H M : Type 0} → Kind H M → HttpLimits → List ℕ → Result ℕ HttpFault → (H → Type 0) → Type 0
HeadSays {H} kind limits input says P =
    (head : H) × (rest : List ℕ) × kind.Reads (take limits.head input) head rest × (kind.length_by limits head ≡ says) × P head

-- the head is refused
abbrev pub HeadRefused : {H M : Type 0} → Kind H M → HttpLimits → List ℕ → HttpFault → Type 0
HeadRefused kind limits input fault = HeadSays kind limits input (Err fault) (λ _. ⊤)

-- the input ends inside a body
abbrev pub EndsInBody : {H M : Type 0} → Kind H M → HttpLimits → List ℕ → Type 0
EndsInBody kind limits input = (n : ℕ) × HeadSays kind limits input (Ok n) (λ head. length input < length (kind.text head) + n)

-- the refusals of an input; the other faults don't speak of its bytes
abbrev pub Refuses : {H M : Type 0} → Kind H M → HttpLimits → List ℕ → HttpFault → Type 0
Refuses kind limits input BadHead = kind.Never (take limits.head input) ⊎ HeadRefused kind limits input BadHead
Refuses kind limits input TooLarge = ((limits.head ≤ length input) × kind.Open (take limits.head input)) ⊎ HeadRefused kind limits input TooLarge
Refuses kind limits input NoLength = HeadRefused kind limits input NoLength
Refuses kind limits input (EndInside n) = (n ≡ length input) × (((length input < limits.head) × kind.Open input) ⊎ EndsInBody kind limits input)
Refuses kind limits input ReadFault = ⊤
Refuses kind limits input AfterRefusal = ⊤
Refuses kind limits input Memory = ⊤

-- the input has a byte, where it is refused
abbrev pub IsBegun : List ℕ → HttpFault → Type 0
IsBegun input BadHead = 0 < length input
IsBegun input TooLarge = 0 < length input
IsBegun input NoLength = 0 < length input
IsBegun input (EndInside n) = 0 < length input
IsBegun input ReadFault = ⊤
IsBegun input AfterRefusal = ⊤
IsBegun input Memory = ⊤

-- a read is made: the head has no end yet and is within its limit, or the head is whole and the body is short
abbrev pub IsDue : {H M : Type 0} → Kind H M → HttpLimits → List ℕ → Type 0
IsDue kind limits came = ((length came < limits.head) × (has_head_end came ≡ false)) ⊎ EndsInBody kind limits came

-- of what was left before and after a call: a message was at the front, and was taken
abbrev pub TakesMessage : {H M : Type 0} → Kind H M → HttpLimits → M → Option (List ℕ) → Option (List ℕ) → Type 0
TakesMessage kind limits message old new = (bytes : List ℕ) × Consumes old new bytes × IsMessage kind limits bytes message

-- nothing was left
abbrev pub WasAtEnd : Option (List ℕ) → Option (List ℕ) → Type 0
WasAtEnd old new = IsAtEnd old × IsAtEnd new

-- more was to be read when these bytes had come, behind those that were held
abbrev pub WasDue : {H M : Type 0} → Kind H M → HttpLimits → List ℕ → Option (List ℕ) → Option (List ℕ) → Type 0
WasDue kind limits held old new = (came : List ℕ) × Consumes old new came × IsDue kind limits (held ++ came)

-- of the bytes that came behind those that were held, and of those held now: none came, or a read was due, and none is past both the head's limit and the message
abbrev pub AsWanted : {H M : Type 0} → Kind H M → HttpLimits → List ℕ → List ℕ → List ℕ → Type 0
AsWanted kind limits held came now = (came ≡ []) ⊎ (IsDue kind limits held × ((now ≡ []) ⊎ (length (held ++ came) ≤ limits.head)))

-- no more was to be read when these bytes had come
abbrev pub WasEnough : {H M : Type 0} → Kind H M → HttpLimits → List ℕ → List ℕ → Option (List ℕ) → Option (List ℕ) → Type 0
WasEnough kind limits held now old new = (came : List ℕ) × Consumes old new came × AsWanted kind limits held came now × ¬ (IsDue kind limits (held ++ came))

-- the same, or the input has ended
abbrev pub WasEnoughOrEnd : {H M : Type 0} → Kind H M → HttpLimits → List ℕ → List ℕ → Option (List ℕ) → Option (List ℕ) → Type 0
WasEnoughOrEnd kind limits held now old new =
    (came : List ℕ) × Consumes old new came × AsWanted kind limits held came now × (¬ (IsDue kind limits (held ++ came)) ⊎ IsAtEnd new)

-- no refusal while a read is due: bytes that can begin no head are refused at the head's end, or at that of the input; an end inside a message is met where a read is due
abbrev pub RefusedInTime : {H M : Type 0} → Kind H M → HttpLimits → HttpFault → List ℕ → List ℕ → Option (List ℕ) → Option (List ℕ) → Type 0
RefusedInTime kind limits BadHead held now old new = WasEnoughOrEnd kind limits held now old new
RefusedInTime kind limits TooLarge held now old new = WasEnough kind limits held now old new
RefusedInTime kind limits NoLength held now old new = WasEnough kind limits held now old new
RefusedInTime kind limits (EndInside n) held now old new = WasDue kind limits held old new × IsAtEnd new
RefusedInTime kind limits ReadFault held now old new = ⊤
RefusedInTime kind limits AfterRefusal held now old new = ⊤
RefusedInTime kind limits Memory held now old new = ⊤

-- ---- the answer of an input, whatever its source and memory do

-- the faults that speak of the bytes
abbrev pub is_decided : HttpFault → Bool
is_decided BadHead = true
is_decided TooLarge = true
is_decided NoLength = true
is_decided (EndInside n) = true
is_decided ReadFault = false
is_decided AfterRefusal = false
is_decided Memory = false

-- a message stands at the front
abbrev pub Begins : {H M : Type 0} → Kind H M → HttpLimits → List ℕ → M → Type 0
Begins kind limits input message = (bytes : List ℕ) × (rest : List ℕ) × (input ≡ bytes ++ rest) × IsMessage kind limits bytes message

abbrev pub IsRequestAnswer : HttpLimits → List ℕ → Result (Option Request) HttpFault → Type 0
IsRequestAnswer limits input (Ok None) = input ≡ []
IsRequestAnswer limits input (Ok (Some request)) = Begins requests limits input request
IsRequestAnswer limits input (Err fault) = (is_decided fault ≡ true) × Refuses requests limits input fault × (0 < length input)

abbrev pub IsResponseAnswer : HttpLimits → List ℕ → Result Response HttpFault → Type 0
IsResponseAnswer limits input (Ok response) = Begins responses limits input response
IsResponseAnswer limits input (Err fault) = (is_decided fault ≡ true) × Refuses responses limits input fault

abbrev pub OneRequestAnswer : Type 0
OneRequestAnswer =
    (limits : HttpLimits) (input : List ℕ) (a b : Result (Option Request) HttpFault)
    → IsRequestAnswer limits input a → IsRequestAnswer limits input b → a ≡ b

abbrev pub OneResponseAnswer : Type 0
OneResponseAnswer =
    (limits : HttpLimits) (input : List ℕ) (a b : Result Response HttpFault)
    → IsResponseAnswer limits input a → IsResponseAnswer limits input b → a ≡ b

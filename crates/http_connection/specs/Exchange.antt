-- Requests that were answered over a connection, one after another, and why it ended.
use Rattle.std.specs.Prelude.{◌≡◌, ◌<◌, ◌⊎◌, ⊤, ℕ, Bool, true, false, List, [], ◌∷◌, ◌++◌, length, Option, Some, None, IfSome, codes}
use Rattle.std.specs.Io.KnownBytes.{Consumes, Appends, IsAtEnd, prepend_known}
use Rattle.ps_ports.specs.All.{WrotePrefix}
use Rattle.ps_http.specs.Answer.{requests, IsMessage, Refuses, IsDue, WasEnough}
use Rattle.ps_http.specs.Written.{response_text, fault_response}
use Rattle.ps_http.specs.declared.fault.HttpFault.{HttpFault}
use Rattle.ps_http.specs.declared.fault.HttpFault.TheVariants.{BadHead, NoLength, TooLarge, EndInside as ends_inside, ReadFault as no_read, AfterRefusal, Memory as no_room}
use Rattle.ps_http.specs.declared.message.HttpLimits.{HttpLimits}
use Rattle.ps_http.specs.declared.message.Request.{Request}
use Rattle.ps_http.specs.declared.message.Response.{Response}
use Rattle.http_connection.specs.declared.answer.Answer.{Answer}
use Rattle.http_connection.specs.declared.answer.Answer.TheVariants.{Response as responds, Failed, Memory as unanswered}
use Rattle.http_connection.specs.declared.end.ConnEnd.{ConnEnd}
use Rattle.http_connection.specs.declared.end.ConnEnd.TheVariants.{Closed, Refused, Spent, EndInside, ReadFault, WriteFault, Memory}

abbrev pub limits : HttpLimits
limits = record { head = 16384; body = 1048576 }

-- ---- replies

-- the reply to a request, which asks to close the connection or doesn't, where the service has this answer
abbrev pub reply_of : Bool → Answer → Option Response
reply_of asked (responds r) = Some (record { status = r.status; allow = r.allow; close = asked; body = r.body })
reply_of asked Failed = Some (fault_response 503 asked)
reply_of asked unanswered = None

-- the reply where memory runs out, which the service found so or the connection, as it made the reply
abbrev pub no_memory : Response
no_memory = fault_response 500 true

-- the replies to heads that are refused
abbrev pub bad_head : Response
bad_head = record { status = 400; allow = None; close = true; body = codes "{\"error\":\"bad head\"}" }

abbrev pub too_large : Response
too_large = record { status = 413; allow = None; close = true; body = codes "{\"error\":\"too large\"}" }

abbrev pub no_length : Response
no_length = record { status = 411; allow = None; close = true; body = codes "{\"error\":\"length required\"}" }

abbrev pub refusal_of : HttpFault → Option Response
refusal_of BadHead = Some bad_head
refusal_of TooLarge = Some too_large
refusal_of NoLength = Some no_length
refusal_of (ends_inside n) = None
refusal_of no_read = None
refusal_of AfterRefusal = None
refusal_of no_room = None

-- ---- exchanges

-- a request, the bytes that it came in, what the service answered, and the reply
pub record Exchange : Type 0 where
  pub bytes : List ℕ
  pub request : Request
  pub answer : Answer
  pub reply : Response

-- the reply is the answer's
abbrev pub IsReplied : Exchange → Type 0
IsReplied e = reply_of e.request.close e.answer ≡ Some e.reply

-- the reply of a fault takes no memory
abbrev pub MayStarve : Answer → Type 0
MayStarve (responds r) = ⊤
MayStarve Failed = ⊥
MayStarve unanswered = ⊤

-- memory ran out
abbrev pub IsStarved : Exchange → Type 0
IsStarved e = MayStarve e.answer × (e.reply ≡ no_memory)

-- the connection stays open after it
pub record StaysOpen (e : Exchange) : Type 0 where
  pub replied : IsReplied e
  pub stays : e.reply.close ≡ false

abbrev pub Each : (Exchange → Type 0) → List Exchange → Type 0
Each P [] = ⊤
Each P (e ∷ es) = P e × Each P es

-- the service answers them in turn, and the token goes from one to the next
abbrev pub Answered : {T : Type 0} → (T → Request → List ℕ → Answer → T → Type 0) → List ℕ → T → List Exchange → T → Type 0
Answered answers address old [] new = new ≡ old
Answered {T} answers address old (e ∷ es) new = (mid : T) × answers old e.request address e.answer mid × Answered answers address mid es new

abbrev pub bytes_of : List Exchange → List ℕ
bytes_of [] = []
bytes_of (e ∷ es) = e.bytes ++ bytes_of es

abbrev pub replies_of : List Exchange → List ℕ
replies_of [] = []
replies_of (e ∷ es) = response_text e.reply ++ replies_of es

-- ---- reading

-- its request was read, of what had been read before and what was left; no further read was made once it was whole
pub record WasRead (e : Exchange) (held after : List ℕ) (left rest : Option (List ℕ)) : Type 0 where
  pub message : IsMessage requests limits e.bytes e.request
  pub taken : Consumes (prepend_known held left) (prepend_known after rest) e.bytes
  pub enough : WasEnough requests limits held after left rest

-- they were read one after another
abbrev pub WereRead : List ℕ → Option (List ℕ) → List Exchange → List ℕ → Option (List ℕ) → Type 0
WereRead held left [] after rest = (after ≡ held) × (rest ≡ left)
WereRead held left (e ∷ es) after rest =
    (then_held : List ℕ) × (then_left : Option (List ℕ)) × WasRead e held then_held left then_left × WereRead then_held then_left es after rest

-- ---- the end

-- one exchange, of which this holds
abbrev pub IsOne : List Exchange → (Exchange → Type 0) → Type 0
IsOne es P = (e : Exchange) × (es ≡ e ∷ []) × P e

-- no exchange, and the input is refused so, with this reply, as soon as no more is to be read
pub record IsRefused (last : List Exchange) (input rest : Option (List ℕ)) (unused : List ℕ) (status : ℕ) (refusal : List ℕ) : Type 0 where
  pub fault : HttpFault
  pub reply : Response
  pub none : last ≡ []
  pub refuses : IfSome input (λ bytes. Refuses requests limits bytes fault)
  pub answers : refusal_of fault ≡ Some reply
  pub status_is : reply.status ≡ status
  pub text : refusal ≡ response_text reply
  pub in_time : ¬ (IsDue requests limits unused) ⊎ IsAtEnd rest

-- how many bytes a connection takes at most
abbrev pub most_bytes : ℕ
most_bytes = 67108864

-- of the last exchange, where the connection ended with one, of the input behind the exchanges and the rest that wasn't read, what was read of that input, the reply to a refused head, and what holds of the number of bytes that the connection took
abbrev pub Cause : ConnEnd → List Exchange → Option (List ℕ) → Option (List ℕ) → List ℕ → List ℕ → ((ℕ → Type 0) → Type 0) → Type 0
Cause Closed last input rest unused refusal Took =
    (refusal ≡ []) × (((last ≡ []) × IsAtEnd input × Took (λ n. n < most_bytes)) ⊎ IsOne last (λ e. IsReplied e × (e.reply.close ≡ true)))
Cause (Refused status) last input rest unused refusal Took = IsRefused last input rest unused status refusal
Cause (Spent n) last input rest unused refusal Took = (refusal ≡ []) × (last ≡ []) × IsDue requests limits unused × (n ≡ most_bytes) × Took (λ m. m ≡ n)
Cause (EndInside n) last input rest unused refusal Took =
    (refusal ≡ []) × (last ≡ []) × IfSome input (λ bytes. Refuses requests limits bytes (ends_inside n) × (0 < length bytes))
    × IsDue requests limits unused × IsAtEnd rest × Took (λ m. m < most_bytes)
Cause ReadFault last input rest unused refusal Took = (refusal ≡ []) × (last ≡ []) × IsDue requests limits unused × Took (λ m. m < most_bytes)
Cause WriteFault last input rest unused refusal Took =
    ((refusal ≡ []) × IsOne last (λ e. IsReplied e ⊎ IsStarved e)) ⊎ ((status : ℕ) × IsRefused last input rest unused status refusal)
Cause Memory last input rest unused refusal Took = (refusal ≡ []) × ((last ≡ []) ⊎ IsOne last IsStarved)

-- all was written, but for a part of the end where a write failed
abbrev pub Wrote : ConnEnd → Option (List ℕ) → Option (List ℕ) → List ℕ → Type 0
Wrote Closed old new bytes = Appends old new bytes
Wrote (Refused status) old new bytes = Appends old new bytes
Wrote (Spent n) old new bytes = Appends old new bytes
Wrote (EndInside n) old new bytes = Appends old new bytes
Wrote ReadFault old new bytes = Appends old new bytes
Wrote WriteFault old new bytes = WrotePrefix old new bytes
Wrote Memory old new bytes = Appends old new bytes

-- what was done over a connection, and why it ended: of the token, of what had been read and not used, of what was left to read, of what was written, and of what holds of the number of bytes taken
pub record ServedFrom {T : Type 0} (answers : T → Request → List ℕ → Answer → T → Type 0) (address : List ℕ) (old new : T) (held : List ℕ) (left rest written now : Option (List ℕ)) (Took : (ℕ → Type 0) → Type 0) (end : ConnEnd) : Type 0 where
  -- after these the connection stayed open, and after the last one, if there is one, it ended
  pub done : List Exchange
  pub last : List Exchange
  -- behind the exchanges: what had been read and what was left then, what was read of both together, and the reply to it where its head is refused
  pub ahead : List ℕ
  pub behind : Option (List ℕ)
  pub unused : List ℕ
  pub refusal : List ℕ
  -- what was written when all replies of the first exchanges were
  pub between : Option (List ℕ)
  pub answered : Answered answers address old (done ++ last) new
  pub were_read : WereRead held left (done ++ last) ahead behind
  pub stayed : Each StaysOpen done
  pub read : Consumes (prepend_known held left) (prepend_known ahead behind) (bytes_of (done ++ last))
  pub unread : Consumes (prepend_known ahead behind) rest unused
  pub replied : Appends written between (replies_of done)
  pub wrote : Wrote end between now (replies_of last ++ refusal)
  pub cause : Cause end last (prepend_known ahead behind) rest unused refusal Took

-- so many bytes came
abbrev pub TookSo : Option (List ℕ) → Option (List ℕ) → (ℕ → Type 0) → Type 0
TookSo left rest P = (bytes : List ℕ) × Consumes left rest bytes × P (length bytes)

-- the same over a whole connection, of which nothing had been read
abbrev pub Served : {T : Type 0} → (T → Request → List ℕ → Answer → T → Type 0) → List ℕ → T → T → Option (List ℕ) → Option (List ℕ) → Option (List ℕ) → Option (List ℕ) → ConnEnd → Type 0
Served answers address old new left rest written now end = ServedFrom answers address old new [] left rest written now (TookSo left rest) end

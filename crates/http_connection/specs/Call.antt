-- What single calls over a connection come to.
use Rattle.std.specs.Prelude.{◌≡◌, ◌<◌, ◌-◌, ◌⊎◌, ⊤, ℕ, Bool, true, false, List, length, Option, Some, None}
use Rattle.std.specs.Io.KnownBytes.{Consumes, Appends, prepend_known}
use Rattle.ps_ports.specs.All.{WrotePrefix}
use Rattle.ps_http.specs.Written.{response_text}
use Rattle.ps_http.specs.declared.fault.HttpFault.{HttpFault}
use Rattle.ps_http.specs.declared.fault.HttpFault.TheVariants.{BadHead, NoLength, TooLarge, EndInside as ends_inside, ReadFault as no_read, AfterRefusal, Memory as no_room}
use Rattle.ps_http.specs.declared.message.Request.{Request}
use Rattle.ps_http.specs.declared.message.Response.{Response}
use Rattle.http_connection.specs.declared.answer.Answer.{Answer}
use Rattle.http_connection.specs.declared.end.ConnEnd.{ConnEnd}
use Rattle.http_connection.specs.declared.end.ConnEnd.TheVariants.{Closed, Refused, Spent, EndInside, ReadFault, WriteFault, Memory}
use Rattle.http_connection.specs.Exchange.{Exchange, reply_of, no_memory, refusal_of, MayStarve, StaysOpen, Each, WereRead, Answered, bytes_of, replies_of, most_bytes}

-- what was done over a connection that stays open: of the token, of what had been read and not used, before and after, of what was left to read, and of what was written
pub record Going {T : Type 0} (answers : T → Request → List ℕ → Answer → T → Type 0) (address : List ℕ) (old new : T) (held after : List ℕ) (left rest written now : Option (List ℕ)) : Type 0 where
  pub done : List Exchange
  pub answered : Answered answers address old done new
  pub were_read : WereRead held left done after rest
  pub stayed : Each StaysOpen done
  pub read : Consumes (prepend_known held left) (prepend_known after rest) (bytes_of done)
  pub wrote : Appends written now (replies_of done)

-- one exchange
abbrev pub WentOnce : {T : Type 0} → (T → Request → List ℕ → Answer → T → Type 0) → List ℕ → T → T → List ℕ → List ℕ → Option (List ℕ) → Option (List ℕ) → Option (List ℕ) → Option (List ℕ) → Type 0
WentOnce answers address old new held after left rest written now = (went : Going answers address old new held after left rest written now) × (length went.done ≡ 1)

-- of the room for bytes that is left: what holds of the number of bytes that came
abbrev pub taken : ℕ → (ℕ → Type 0) → Type 0
taken room P = P (most_bytes - room)

-- what a reply comes to, which closes the connection or doesn't
abbrev pub Sent : Option ConnEnd → Bool → Option (List ℕ) → Option (List ℕ) → List ℕ → Type 0
Sent None closing old now bytes = (closing ≡ false) × Appends old now bytes
Sent (Some Closed) closing old now bytes = (closing ≡ true) × Appends old now bytes
Sent (Some WriteFault) closing old now bytes = WrotePrefix old now bytes
Sent (Some (Refused status)) closing old now bytes = ⊥
Sent (Some (Spent n)) closing old now bytes = ⊥
Sent (Some (EndInside n)) closing old now bytes = ⊥
Sent (Some ReadFault) closing old now bytes = ⊥
Sent (Some Memory) closing old now bytes = ⊥

-- the same of the reply where memory runs out
abbrev pub SentLast : ConnEnd → Option (List ℕ) → Option (List ℕ) → Type 0
SentLast Memory old now = Appends old now (response_text no_memory)
SentLast WriteFault old now = WrotePrefix old now (response_text no_memory)
SentLast Closed old now = ⊥
SentLast (Refused status) old now = ⊥
SentLast (Spent n) old now = ⊥
SentLast (EndInside n) old now = ⊥
SentLast ReadFault old now = ⊥

-- a reply to a request with this answer
abbrev pub Replied : Bool → Answer → (Response → Type 0) → Type 0
Replied asked answer P = (reply : Response) × (reply_of asked answer ≡ Some reply) × P reply

-- what comes behind an answer
abbrev pub AfterAnswer : Bool → Answer → Option ConnEnd → Option (List ℕ) → Option (List ℕ) → Type 0
AfterAnswer asked answer None old now = Replied asked answer (λ r. (r.close ≡ false) × Appends old now (response_text r))
AfterAnswer asked answer (Some Closed) old now = Replied asked answer (λ r. (r.close ≡ true) × Appends old now (response_text r))
AfterAnswer asked answer (Some WriteFault) old now =
    Replied asked answer (λ r. WrotePrefix old now (response_text r)) ⊎ (MayStarve answer × WrotePrefix old now (response_text no_memory))
AfterAnswer asked answer (Some Memory) old now = MayStarve answer × Appends old now (response_text no_memory)
AfterAnswer asked answer (Some (Refused status)) old now = ⊥
AfterAnswer asked answer (Some (Spent n)) old now = ⊥
AfterAnswer asked answer (Some (EndInside n)) old now = ⊥
AfterAnswer asked answer (Some ReadFault) old now = ⊥

-- the service gave an answer, and this came behind it
abbrev pub Exchanged : {T : Type 0} → (T → Request → List ℕ → Answer → T → Type 0) → List ℕ → T → T → Request → Option ConnEnd → Option (List ℕ) → Option (List ℕ) → Type 0
Exchanged answers address old new request end written now =
    (answer : Answer) × answers old request address answer new × AfterAnswer request.close answer end written now

-- what a reply with this status to a refused head comes to
abbrev pub SentRefusal : ℕ → ConnEnd → Option (List ℕ) → Option (List ℕ) → List ℕ → Type 0
SentRefusal status (Refused said) old now bytes = (said ≡ status) × Appends old now bytes
SentRefusal status WriteFault old now bytes = WrotePrefix old now bytes
SentRefusal status Closed old now bytes = ⊥
SentRefusal status (Spent n) old now bytes = ⊥
SentRefusal status (EndInside n) old now bytes = ⊥
SentRefusal status ReadFault old now bytes = ⊥
SentRefusal status Memory old now bytes = ⊥

-- a reply to a head that was refused so
abbrev pub RefusedBy : HttpFault → (Response → Type 0) → Type 0
RefusedBy fault P = (reply : Response) × (refusal_of fault ≡ Some reply) × P reply

-- the faults that come where a read is due
abbrev pub IsDueFault : HttpFault → Type 0
IsDueFault BadHead = ⊥
IsDueFault NoLength = ⊥
IsDueFault TooLarge = ⊥
IsDueFault (ends_inside n) = ⊤
IsDueFault no_read = ⊤
IsDueFault AfterRefusal = ⊥
IsDueFault no_room = ⊥

-- what comes behind the fault of a read, where there is so much room for bytes
abbrev pub AfterFault : HttpFault → ℕ → ConnEnd → Option (List ℕ) → Option (List ℕ) → Type 0
AfterFault fault room Closed old now = ⊥
AfterFault fault room (Refused status) old now = RefusedBy fault (λ r. (r.status ≡ status) × Appends old now (response_text r))
AfterFault fault room (Spent n) old now = IsDueFault fault × (n ≡ most_bytes) × (room ≡ 0) × (now ≡ old)
AfterFault fault room (EndInside n) old now = (fault ≡ ends_inside n) × (0 < room) × (now ≡ old)
AfterFault fault room ReadFault old now = (fault ≡ no_read) × (0 < room) × (now ≡ old)
AfterFault fault room WriteFault old now = RefusedBy fault (λ r. WrotePrefix old now (response_text r))
AfterFault fault room Memory old now = (fault ≡ no_room) × (now ≡ old)

-- what comes where the input has ended between two messages
abbrev pub AfterEnd : ℕ → ConnEnd → Type 0
AfterEnd room Closed = 0 < room
AfterEnd room (Refused status) = ⊥
AfterEnd room (Spent n) = (n ≡ most_bytes) × (room ≡ 0)
AfterEnd room (EndInside n) = ⊥
AfterEnd room ReadFault = ⊥
AfterEnd room WriteFault = ⊥
AfterEnd room Memory = ⊥

-- From one call to the next over a connection.
use Rattle.std.proofs.Common.{◌≡◌, ◌<◌, ◌-◌, ◌⊎◌, inl, inr, ℕ, Bool, false, List, [], ◌∷◌, ◌++◌, length, Option, Some, None, refl, sym, ap, subst, ◌∙◌, arith, append_assoc, append-nil, length-append}
use Rattle.std.specs.Prelude.{IfSome, MatchOption}
use Rattle.std.specs.Io.KnownBytes.{Consumes, Appends, IsAtEnd, prepend_known}
use Rattle.std.proofs.KnownBytes.{Consumes-nil, Consumes-trans, Appends-nil, Appends-trans}
use Rattle.std.proofs.lemmas.List.{nil_from_length}
use Rattle.std.proofs.lemmas.Option.{none-some}
use Rattle.ps_ports.specs.All.{WrotePrefix}
use Rattle.ps_http.specs.Answer.{requests, IsMessage, Refuses, IsBegun, IsDue, RefusedInTime, TakesMessage, WasDue, WasEnough}
use Rattle.ps_http.specs.Written.{response_text}
use Rattle.ps_http.specs.declared.fault.HttpFault.{HttpFault}
use Rattle.ps_http.specs.declared.fault.HttpFault.TheVariants.{BadHead, NoLength, TooLarge, EndInside as ends_inside, ReadFault as no_read, AfterRefusal, Memory as no_room}
use Rattle.ps_http.specs.declared.message.Request.{Request}
use Rattle.ps_http.specs.declared.message.Response.{Response}
use Rattle.http_connection.specs.declared.answer.Answer.{Answer}
use Rattle.http_connection.specs.declared.end.ConnEnd.{ConnEnd}
use Rattle.http_connection.specs.declared.end.ConnEnd.TheVariants.{Closed, Refused, Spent, EndInside, ReadFault, WriteFault, Memory}
use Rattle.http_connection.specs.Call.{Going, WentOnce, taken, Sent, AfterAnswer, Exchanged, IsDueFault, AfterFault, AfterEnd}
use Rattle.http_connection.specs.Exchange.{limits, reply_of, no_memory, refusal_of, Exchange, StaysOpen, Each, WereRead, Answered, bytes_of, replies_of, most_bytes, Cause, Wrote, ServedFrom, Served, TookSo}
use Rattle.http_connection.specs.Metered.{Seen, Used}

-- ---- replies

-- what was sent is the reply of the answer
pub sent_answer : (asked : Bool) (answer : Answer) (reply : Response) (result : Option ConnEnd) (old now : Option (List ℕ)) (bytes : List ℕ)
    → reply_of asked answer ≡ Some reply → reply.close ≡ asked → bytes ≡ response_text reply → Sent result asked old now bytes → AfterAnswer asked answer result old now
sent_answer asked answer reply None old now bytes is close text s = (reply, is, (close ∙ s.0, subst (Appends old now) text s.1))
sent_answer asked answer reply (Some Closed) old now bytes is close text s = (reply, is, (close ∙ s.0, subst (Appends old now) text s.1))
sent_answer asked answer reply (Some WriteFault) old now bytes is close text s = inl (reply, is, subst (WrotePrefix old now) text s)
sent_answer asked answer reply (Some (Refused status)) old now bytes is close text s = absurd s
sent_answer asked answer reply (Some (Spent n)) old now bytes is close text s = absurd s
sent_answer asked answer reply (Some (EndInside n)) old now bytes is close text s = absurd s
sent_answer asked answer reply (Some ReadFault) old now bytes is close text s = absurd s
sent_answer asked answer reply (Some Memory) old now bytes is close text s = absurd s

-- ---- lists of exchanges

module _ {T : Type 0} (answers : T → Request → List ℕ → Answer → T → Type 0) (address : List ℕ) where
  pub answered_then : (es fs : List Exchange) (a b c : T) → Answered answers address a es b → Answered answers address b fs c → Answered answers address a (es ++ fs) c
  answered_then [] fs a b c p q = subst (λ t. Answered answers address t fs c) p q
  answered_then (e ∷ es) fs a b c p q = (p.0, p.1, answered_then es fs p.0 b c p.2 q)

pub each_then : (P : Exchange → Type 0) (es fs : List Exchange) → Each P es → Each P fs → Each P (es ++ fs)
each_then P [] fs p q = q
each_then P (e ∷ es) fs p q = (p.0, each_then P es fs p.1 q)

pub bytes_then : (es fs : List Exchange) → bytes_of (es ++ fs) ≡ bytes_of es ++ bytes_of fs
bytes_then [] fs = refl
bytes_then (e ∷ es) fs = ap (λ l. e.bytes ++ l) (bytes_then es fs) ∙ sym (append_assoc e.bytes (bytes_of es) (bytes_of fs))

pub replies_then : (es fs : List Exchange) → replies_of (es ++ fs) ≡ replies_of es ++ replies_of fs
replies_then [] fs = refl
replies_then (e ∷ es) fs =
    ap (λ l. response_text e.reply ++ l) (replies_then es fs) ∙ sym (append_assoc (response_text e.reply) (replies_of es) (replies_of fs))

pub read_then : (es fs : List Exchange) (h k n : List ℕ) (l m r : Option (List ℕ)) → WereRead h l es k m → WereRead k m fs n r → WereRead h l (es ++ fs) n r
read_then [] fs h k n l m r p q = subst (λ o. WereRead h o fs n r) p.1 (subst (λ x. WereRead x m fs n r) p.0 q)
read_then (e ∷ es) fs h k n l m r p q = (p.0, p.1, p.2, read_then es fs p.0 k n p.1 m r p.3 q)

-- ---- one part of a connection after another

module _ {T : Type 0} (answers : T → Request → List ℕ → Answer → T → Type 0) (address : List ℕ) where
  abbrev pub going_none : (a : T) (held : List ℕ) (left written : Option (List ℕ)) → Going answers address a a held held left left written written
  going_none a held left written = record {
    done = [];
    answered = refl;
    were_read = (refl, refl);
    stayed = tt;
    read = Consumes-nil (prepend_known held left);
    wrote = Appends-nil written;
  }

  abbrev pub going_then : (a b c : T) (h k j : List ℕ) (l m n w v u : Option (List ℕ)) → Going answers address a b h k l m w v → Going answers address b c k j m n v u
      → Going answers address a c h j l n w u
  going_then a b c h k j l m n w v u p q = record {
    done = p.done ++ q.done;
    answered = answered_then answers address p.done q.done a b c p.answered q.answered;
    were_read = read_then p.done q.done h k j l m n p.were_read q.were_read;
    stayed = each_then StaysOpen p.done q.done p.stayed q.stayed;
    read = subst (Consumes (prepend_known h l) (prepend_known j n)) (sym (bytes_then p.done q.done))
        (Consumes-trans (prepend_known h l) (prepend_known k m) (prepend_known j n) (bytes_of p.done) (bytes_of q.done) p.read q.read);
    wrote = subst (Appends w u) (sym (replies_then p.done q.done)) (Appends-trans w v u (replies_of p.done) (replies_of q.done) p.wrote q.wrote);
  }

  pub served_then : (Took : (ℕ → Type 0) → Type 0) (end : ConnEnd) (a b c : T) (h k : List ℕ) (l m n w v u : Option (List ℕ)) → Going answers address a b h k l m w v
      → ServedFrom answers address b c k m n v u Took end → ServedFrom answers address a c h l n w u Took end
  served_then Took end a b c h k l m n w v u p q =
      let es = p.done in
      let fs = q.done ++ q.last in
      let split : (es ++ q.done) ++ q.last ≡ es ++ fs = append_assoc es q.done q.last in
      let bytes : bytes_of ((es ++ q.done) ++ q.last) ≡ bytes_of es ++ bytes_of fs = ap bytes_of split ∙ bytes_then es fs in record {
        done = es ++ q.done;
        last = q.last;
        ahead = q.ahead;
        behind = q.behind;
        unused = q.unused;
        refusal = q.refusal;
        between = q.between;
        answered = subst (λ x. Answered answers address a x c) (sym split) (answered_then answers address es fs a b c p.answered q.answered);
        were_read = subst (λ x. WereRead h l x q.ahead q.behind) (sym split) (read_then es fs h k q.ahead l m q.behind p.were_read q.were_read);
        stayed = each_then StaysOpen es q.done p.stayed q.stayed;
        read = subst (Consumes (prepend_known h l) (prepend_known q.ahead q.behind)) (sym bytes)
            (Consumes-trans (prepend_known h l) (prepend_known k m) (prepend_known q.ahead q.behind) (bytes_of es) (bytes_of fs) p.read q.read);
        unread = q.unread;
        replied = subst (Appends w q.between) (sym (replies_then es q.done)) (Appends-trans w v q.between (replies_of es) (replies_of q.done) p.wrote q.replied);
        wrote = q.wrote;
        cause = q.cause;
      }

-- ---- how many bytes came

few : (room : ℕ) → 0 < room → taken room (λ n. n < most_bytes)
few room some = omega (arith, some)

full : (room n : ℕ) → n ≡ most_bytes → room ≡ 0 → taken room (λ m. m ≡ n)
full room n all none = omega (arith, all, none)

-- of a new meter: as many bytes came as its room shrank by
took_so : (a b : Seen) → Used a b → a.room ≡ most_bytes → (P : ℕ → Type 0) → taken b.room P → TookSo a.left b.left P
took_so a b used new P p =
    let count : most_bytes - b.room ≡ length used.took.bytes = omega (arith, new, used.took.room) in
    (used.took.bytes, used.took.consumed, subst P count p)

module _ (A B : (ℕ → Type 0) → Type 0) (to : (P : ℕ → Type 0) → A P → B P) (last : List Exchange) (input rest : Option (List ℕ)) (unused refusal : List ℕ) where
  cause_by : (end : ConnEnd) → Cause end last input rest unused refusal A → Cause end last input rest unused refusal B
  cause_by Closed (none, inl (no_last, ended, few)) = (none, inl (no_last, ended, to (λ n. n < most_bytes) few))
  cause_by Closed (none, inr one) = (none, inr one)
  cause_by (Refused status) c = c
  cause_by (Spent n) (none, no_last, due, all, count) = (none, no_last, due, all, to (λ m. m ≡ n) count)
  cause_by (EndInside n) (none, no_last, refuses, due, ended, few) = (none, no_last, refuses, due, ended, to (λ m. m < most_bytes) few)
  cause_by ReadFault (none, no_last, due, few) = (none, no_last, due, to (λ m. m < most_bytes) few)
  cause_by WriteFault c = c
  cause_by Memory c = c

-- a connection that began with a new meter and nothing held
pub served_by : {T : Type 0} (answers : T → Request → List ℕ → Answer → T → Type 0) (address : List ℕ) (end : ConnEnd) (o n : T) (held : List ℕ) (written now : Option (List ℕ)) (a b : Seen)
    → held ≡ [] → Used a b → a.room ≡ most_bytes → ServedFrom answers address o n held a.left b.left written now (taken b.room) end
    → Served answers address o n a.left b.left written now end
served_by answers address end o n held written now a b none used new served =
    let s = subst (λ h. ServedFrom answers address o n h a.left b.left written now (taken b.room) end) none served in record {
      done = s.done;
      last = s.last;
      ahead = s.ahead;
      behind = s.behind;
      unused = s.unused;
      refusal = s.refusal;
      between = s.between;
      answered = s.answered;
      were_read = s.were_read;
      stayed = s.stayed;
      read = s.read;
      unread = s.unread;
      replied = s.replied;
      wrote = s.wrote;
      cause = cause_by (taken b.room) (TookSo a.left b.left) (took_so a b used new) s.last (prepend_known s.ahead s.behind) b.left s.unused s.refusal end s.cause;
    }

-- ---- one call

-- what is held stands before what the source has left
pub unread_held : (left : Option (List ℕ)) (held : List ℕ) → Consumes (prepend_known held left) left held
unread_held None held = tt
unread_held (Some bytes) held = refl

-- more came behind what was held
pub unread_came : (left rest : Option (List ℕ)) (held came : List ℕ) → Consumes left rest came → Consumes (prepend_known held left) rest (held ++ came)
unread_came left rest held came c = Consumes-trans (prepend_known held left) left rest held came (unread_held left held) c

-- nothing was there, and nothing came
nothing_came : (left rest : Option (List ℕ)) (held came : List ℕ) → Consumes left rest came → IsAtEnd (prepend_known held left) → Consumes (prepend_known held left) rest []
nothing_came None rest held came c end = tt
nothing_came (Some l) None held came c end = absurd c
nothing_came (Some l) (Some r) held came c end =
    end ∙ sym (nil_from_length r (omega (arith, ap length end, length-append held l, ap length c, length-append came r)))

-- one more exchange, of which all is known but what was written
module _ {T : Type 0} (answers : T → Request → List ℕ → Answer → T → Type 0) (address : List ℕ) (a b : T) (request : Request) (answer : Answer) (bytes : List ℕ)
    (given : answers a request address answer b) (message : IsMessage requests limits bytes request) (held after : List ℕ) (left rest : Option (List ℕ))
    (takes : Consumes (prepend_known held left) (prepend_known after rest) bytes) (enough : WasEnough requests limits held after left rest) (Took : (ℕ → Type 0) → Type 0) where
  abbrev one : Response → Exchange
  one reply = record { bytes = bytes; request = request; answer = answer; reply = reply }

  abbrev read_one : (reply : Response) → WereRead held left (one reply ∷ []) after rest
  read_one reply = (after, rest, record { message = message; taken = takes; enough = enough }, (refl, refl))

  abbrev going_one : (reply : Response) (written now : Option (List ℕ)) → reply_of request.close answer ≡ Some reply → reply.close ≡ false
      → Appends written now (response_text reply) → Going answers address a b held after left rest written now
  going_one reply written now is stays wrote = record {
    done = one reply ∷ [];
    answered = (b, given, refl);
    were_read = read_one reply;
    stayed = (record { replied = is; stays = stays }, tt);
    read = subst (Consumes (prepend_known held left) (prepend_known after rest)) (sym (append-nil bytes)) takes;
    wrote = subst (Appends written now) (sym (append-nil (response_text reply))) wrote;
  }

  served_one : (reply : Response) (end : ConnEnd) (written now : Option (List ℕ)) → Wrote end written now (response_text reply)
      → Cause end (one reply ∷ []) (prepend_known after rest) rest after [] Took → ServedFrom answers address a b held left rest written now Took end
  served_one reply end written now wrote cause = record {
    done = [];
    last = one reply ∷ [];
    ahead = after;
    behind = rest;
    unused = after;
    refusal = [];
    between = written;
    answered = (b, given, refl);
    were_read = read_one reply;
    stayed = tt;
    read = subst (Consumes (prepend_known held left) (prepend_known after rest)) (sym (append-nil bytes)) takes;
    unread = unread_held rest after;
    replied = Appends-nil written;
    wrote = subst (Wrote end written now) (sym (append-nil (response_text reply ++ []) ∙ append-nil (response_text reply))) wrote;
    cause = cause;
  }

  -- what comes behind an answer
  turn_of : (result : Option ConnEnd) (written now : Option (List ℕ)) → AfterAnswer request.close answer result written now
      → MatchOption result (WentOnce answers address a b held after left rest written now) (ServedFrom answers address a b held left rest written now Took)
  turn_of None written now s = (going_one s.0 written now s.1 s.2.0 s.2.1, refl)
  turn_of (Some Closed) written now s = served_one s.0 Closed written now s.2.1 (refl, inr (one s.0, refl, (s.1, s.2.0)))
  turn_of (Some Memory) written now s = served_one no_memory Memory written now s.1 (refl, inr (one no_memory, refl, (s.0, refl)))
  turn_of (Some WriteFault) written now s = elim s [
    | inl r ↦ served_one r.0 WriteFault written now r.2 (inl (refl, (one r.0, refl, inl r.1)))
    | inr w ↦ served_one no_memory WriteFault written now w.1 (inl (refl, (one no_memory, refl, inr (w.0, refl))))
  ]
  turn_of (Some (Refused status)) written now s = absurd s
  turn_of (Some (Spent n)) written now s = absurd s
  turn_of (Some (EndInside n)) written now s = absurd s
  turn_of (Some ReadFault) written now s = absurd s

-- both of one value
if_both : (o : Option (List ℕ)) (P Q : List ℕ → Type 0) → IfSome o P → IfSome o Q → IfSome o (λ x. P x × Q x)
if_both None P Q p q = tt
if_both (Some x) P Q p q = (p, q)

-- what came before a head was refused with a reply
abbrev InTime : List ℕ → Option (List ℕ) → Option (List ℕ) → Type 0
InTime held left rest = (came : List ℕ) × Consumes left rest came × (¬ (IsDue requests limits (held ++ came)) ⊎ IsAtEnd rest)

in_time_of : (fault : HttpFault) (reply : Response) (held after : List ℕ) (left rest : Option (List ℕ)) → refusal_of fault ≡ Some reply
    → RefusedInTime requests limits fault held after left rest → InTime held left rest
in_time_of BadHead reply held after left rest is t = (t.0, t.1, t.3)
in_time_of TooLarge reply held after left rest is t = (t.0, t.1, inl t.3)
in_time_of NoLength reply held after left rest is t = (t.0, t.1, inl t.3)
in_time_of (ends_inside n) reply held after left rest is t = absurd (none-some reply is)
in_time_of no_read reply held after left rest is t = absurd (none-some reply is)
in_time_of AfterRefusal reply held after left rest is t = absurd (none-some reply is)
in_time_of no_room reply held after left rest is t = absurd (none-some reply is)

-- a read was due
due_of : (fault : HttpFault) (held after : List ℕ) (left rest : Option (List ℕ)) → IsDueFault fault → (fault ≡ no_read → WasDue requests limits held left rest)
    → RefusedInTime requests limits fault held after left rest → WasDue requests limits held left rest
due_of BadHead held after left rest is due t = absurd is
due_of TooLarge held after left rest is due t = absurd is
due_of NoLength held after left rest is due t = absurd is
due_of (ends_inside n) held after left rest is due t = t.0
due_of no_read held after left rest is due t = due refl
due_of AfterRefusal held after left rest is due t = absurd is
due_of no_room held after left rest is due t = absurd is

-- no exchange
module _ {T : Type 0} (answers : T → Request → List ℕ → Answer → T → Type 0) (address : List ℕ) (a : T) where
  served_none : (Took : (ℕ → Type 0) → Type 0) (end : ConnEnd) (held : List ℕ) (left rest written now : Option (List ℕ)) (unused refusal : List ℕ)
      → Consumes (prepend_known held left) rest unused → Wrote end written now refusal → Cause end [] (prepend_known held left) rest unused refusal Took
      → ServedFrom answers address a a held left rest written now Took end
  served_none Took end held left rest written now unused refusal unread wrote cause = record {
    done = [];
    last = [];
    ahead = held;
    behind = left;
    unused = unused;
    refusal = refusal;
    between = written;
    answered = refl;
    were_read = (refl, refl);
    stayed = tt;
    read = Consumes-nil (prepend_known held left);
    unread = unread;
    replied = Appends-nil written;
    wrote = wrote;
    cause = cause;
  }

  -- the input ended between two messages
  served_end : (room : ℕ) (end : ConnEnd) (held : List ℕ) (left rest written : Option (List ℕ)) → Consumes (prepend_known held left) rest []
      → IsAtEnd (prepend_known held left) → AfterEnd room end → ServedFrom answers address a a held left rest written written (taken room) end
  served_end room Closed held left rest written c ended s =
      served_none (taken room) Closed held left rest written written [] [] c (Appends-nil written) (refl, inl (refl, ended, few room s))
  served_end room (Spent n) held left rest written c ended s =
      served_none (taken room) (Spent n) held left rest written written [] [] c (Appends-nil written) (refl, refl, inl (omega arith, refl), s.0, full room n s.0 s.1)
  served_end room (Refused status) held left rest written c ended s = absurd s
  served_end room (EndInside n) held left rest written c ended s = absurd s
  served_end room ReadFault held left rest written c ended s = absurd s
  served_end room WriteFault held left rest written c ended s = absurd s
  served_end room Memory held left rest written c ended s = absurd s

  -- a read failed, or a head was refused
  served_fault : (room : ℕ) (fault : HttpFault) (end : ConnEnd) (left rest written now : Option (List ℕ)) (held came after : List ℕ) → Consumes left rest came
      → (fault ≡ no_read → WasDue requests limits held left rest) → IfSome (prepend_known held left) (λ bytes. Refuses requests limits bytes fault)
      → IfSome (prepend_known held left) (λ bytes. IsBegun bytes fault) → RefusedInTime requests limits fault held after left rest
      → AfterFault fault room end written now → ServedFrom answers address a a held left rest written now (taken room) end
  served_fault room fault Closed left rest written now held came after c due refuses begun timely s = absurd s
  served_fault room fault (Refused status) left rest written now held came after c due refuses begun timely s =
      let i = in_time_of fault s.0 held after left rest s.1 timely in
      served_none (taken room) (Refused status) held left rest written now (held ++ i.0) (response_text s.0) (unread_came left rest held i.0 i.1) s.2.1
      (record { fault = fault; reply = s.0; none = refl; refuses = refuses; answers = s.1; status_is = s.2.0; text = refl; in_time = i.2 })
  served_fault room fault (Spent n) left rest written now held came after c due refuses begun timely s =
      let d = due_of fault held after left rest s.0 due timely in
      served_none (taken room) (Spent n) held left rest written now (held ++ d.0) [] (unread_came left rest held d.0 d.1)
      (subst (λ o. Appends written o []) (sym s.3) (Appends-nil written)) (refl, refl, d.2, s.1, full room n s.1 s.2)
  served_fault room fault (EndInside n) left rest written now held came after c due refuses begun timely s =
      let t = subst (λ f. RefusedInTime requests limits f held after left rest) s.0 timely in
      let d = t.0 in
      served_none (taken room) (EndInside n) held left rest written now (held ++ d.0) [] (unread_came left rest held d.0 d.1)
      (subst (λ o. Appends written o []) (sym s.2) (Appends-nil written)) (
        refl,
        refl,
        if_both (prepend_known held left) (λ bytes. Refuses requests limits bytes (ends_inside n)) (λ bytes. 0 < length bytes)
            (subst (λ f. IfSome (prepend_known held left) (λ bytes. Refuses requests limits bytes f)) s.0 refuses)
            (subst (λ f. IfSome (prepend_known held left) (λ bytes. IsBegun bytes f)) s.0 begun),
        d.2,
        t.1,
        few room s.1,
      )
  served_fault room fault ReadFault left rest written now held came after c due refuses begun timely s =
      let d = due s.0 in
      served_none (taken room) ReadFault held left rest written now (held ++ d.0) [] (unread_came left rest held d.0 d.1)
      (subst (λ o. Appends written o []) (sym s.2) (Appends-nil written)) (refl, refl, d.2, few room s.1)
  served_fault room fault WriteFault left rest written now held came after c due refuses begun timely s =
      let i = in_time_of fault s.0 held after left rest s.1 timely in
      served_none (taken room) WriteFault held left rest written now (held ++ i.0) (response_text s.0) (unread_came left rest held i.0 i.1) s.2
      (inr (s.0.status, record { fault = fault; reply = s.0; none = refl; refuses = refuses; answers = s.1; status_is = refl; text = refl; in_time = i.2 }))
  served_fault room fault Memory left rest written now held came after c due refuses begun timely s =
      served_none (taken room) Memory held left rest written now (held ++ came) [] (unread_came left rest held came c)
      (subst (λ o. Appends written o []) (sym s.1) (Appends-nil written)) (refl, inl refl)

-- ---- one call, where a read leaves what was written, and a write what is left

module _ {T : Type 0} (answers : T → Request → List ℕ → Answer → T → Type 0) (address : List ℕ) where
  pub exchanged_after : (Took : (ℕ → Type 0) → Type 0) (a b : T) (request : Request) (result : Option ConnEnd) (input left rest written mid now : Option (List ℕ)) (held after : List ℕ)
      → TakesMessage requests limits request (prepend_known held input) (prepend_known after left) → WasEnough requests limits held after input left
      → rest ≡ left → mid ≡ written → Exchanged answers address a b request result mid now
      → MatchOption result (WentOnce answers address a b held after input rest written now) (ServedFrom answers address a b held input rest written now Took)
  exchanged_after Took a b request result input left rest written mid now held after takes enough same unwritten e =
      subst (λ o. MatchOption result (WentOnce answers address a b held after input o written now) (ServedFrom answers address a b held input o written now Took)) (sym same)
      (turn_of answers address a b request e.0 takes.0 e.1 takes.2 held after input left takes.1 enough Took result written now
      (subst (λ w. AfterAnswer request.close e.0 result w now) unwritten e.2))

  pub ended_after : (room : ℕ) (end : ConnEnd) (a : T) (left mid rest written now : Option (List ℕ)) (held came : List ℕ) → Consumes left mid came
      → IsAtEnd (prepend_known held left) → rest ≡ mid → now ≡ written → AfterEnd room end → ServedFrom answers address a a held left rest written now (taken room) end
  ended_after room end a left mid rest written now held came c ended same unwritten s =
      subst (λ o. ServedFrom answers address a a held left o written now (taken room) end) (sym same)
      (subst (λ w. ServedFrom answers address a a held left mid written w (taken room) end) (sym unwritten)
      (served_end answers address a room end held left mid written (nothing_came left mid held came c ended) ended s))

  pub fault_after : (room : ℕ) (a : T) (fault : HttpFault) (end : ConnEnd) (left mid rest written between now : Option (List ℕ)) (held came after : List ℕ) → Consumes left mid came
      → (fault ≡ no_read → WasDue requests limits held left mid) → IfSome (prepend_known held left) (λ bytes. Refuses requests limits bytes fault)
      → IfSome (prepend_known held left) (λ bytes. IsBegun bytes fault) → RefusedInTime requests limits fault held after left mid
      → rest ≡ mid → between ≡ written → AfterFault fault room end between now → ServedFrom answers address a a held left rest written now (taken room) end
  fault_after room a fault end left mid rest written between now held came after c due refuses begun timely same unwritten s =
      subst (λ o. ServedFrom answers address a a held left o written now (taken room) end) (sym same)
      (served_fault answers address a room fault end left mid written now held came after c due refuses begun timely (subst (λ w. AfterFault fault room end w now) unwritten s))

-- nothing was read and written, since memory ran out
pub served_nothing : {T : Type 0} (answers : T → Request → List ℕ → Answer → T → Type 0) (address : List ℕ) (a : T) (left rest written now : Option (List ℕ)) → rest ≡ left → now ≡ written
    → Served answers address a a left rest written now Memory
served_nothing answers address a left rest written now same unwritten =
    served_none answers address a (TookSo left rest) Memory [] left rest written now [] [] (subst (λ o. Consumes (prepend_known [] left) o []) (sym same) (unread_held left []))
    (subst (λ o. Appends written o []) (sym unwritten) (Appends-nil written)) (refl, inl refl)

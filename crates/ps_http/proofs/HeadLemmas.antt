-- What a head's refusals are, and that a head has one meaning.
use Rattle.std.proofs.Common.{◌≡◌, ◌≤◌, ℕ, Bool, true, false, ◌&&◌, ◌||◌, length, map, arith, List, [], refl, sym, ap, ◌∙◌, Option, Some, None, Result, Ok, Err}
use Rattle.std.specs.Prelude.{codes, if◌then◌else◌, is_ok, nat_lt}
use Rattle.std.proofs.lemmas.Bool.{false≢true, ltb-false}
use Rattle.std.specs.Option.{unwrap_or}
use Rattle.httparse.specs.Spans.{name_and_value}
use Rattle.ps_time.specs.Numbers.{most_head_fields}
use Rattle.ps_http.specs.Answer.{Kind, requests, responses, IsMessage, TakesMessage}
use Rattle.ps_http.specs.Fields.{are_peers, values_of, length_of}
use Rattle.ps_http.specs.Head.{IsHeaded, IsRefusedOr, HeadGives, IsMessageOf}
use Rattle.ps_http.specs.Message.{body_length, length_or_bad, fits_request, wants_length}
use Rattle.ps_http.specs.declared.fault.HttpFault.{HttpFault}
use Rattle.ps_http.specs.declared.fault.HttpFault.TheVariants.{BadHead, NoLength, TooLarge, EndInside, ReadFault, AfterRefusal, Memory}
use Rattle.ps_http.specs.declared.message.HttpLimits.{HttpLimits}
use Rattle.ps_http.specs.declared.message.Request.{Request}
use Rattle.ps_http.specs.declared.message.Response.{Response}
use Rattle.ps_http.proofs.KindLemmas.{Lawful}

pub okay_or_not : {n : ℕ} {fault : HttpFault} → ◌≡◌ {A = Result ℕ HttpFault} (Ok n) (Err fault) → ⊥
okay_or_not same = false≢true (sym (ap is_ok same))

abbrev pub length_in : Result ℕ HttpFault → ℕ
length_in (Ok n) = n
length_in (Err fault) = 0

-- a length, or one of the three refusals of a head
abbrev pub is_head_result : Result ℕ HttpFault → Bool
is_head_result (Ok n) = true
is_head_result (Err BadHead) = true
is_head_result (Err NoLength) = true
is_head_result (Err TooLarge) = true
is_head_result (Err (EndInside n)) = false
is_head_result (Err ReadFault) = false
is_head_result (Err AfterRefusal) = false
is_head_result (Err Memory) = false

by_two : (t u : Bool) (n : ℕ) → is_head_result (if t then Err TooLarge else (if u then Err NoLength else Ok n)) ≡ true
by_two true u n = refl
by_two false true n = refl
by_two false false n = refl

bounded_fits : (limits : HttpLimits) (wanted : Bool) (fields : List (List ℕ × List ℕ)) (said : Option (Option ℕ)) → is_head_result (length_or_bad limits wanted fields said) ≡ true
bounded_fits limits wanted fields None = refl
bounded_fits limits wanted fields (Some said) = by_two _ _ _

by_one : (t : Bool) (r : Result ℕ HttpFault) → is_head_result r ≡ true → is_head_result (if t then r else Err BadHead) ≡ true
by_one true r fits = fits
by_one false r fits = refl

pub body_length_fits : (limits : HttpLimits) (fits wanted : Bool) (fields : List (List ℕ × List ℕ)) → is_head_result (body_length limits fits wanted fields) ≡ true
body_length_fits limits fits wanted fields =
    let said = length_of (values_of (codes "content-length") fields) in
    by_one (fits && are_peers (values_of (codes "ps-peer") fields)) (length_or_bad limits wanted fields said) (bounded_fits limits wanted fields said)

bounded_by : (limits : HttpLimits) (t b u : Bool) (m n : ℕ) → nat_lt limits.body m ≡ b
    → ◌≡◌ {A = Result ℕ HttpFault} (if t || b then Err TooLarge else (if u then Err NoLength else Ok m)) (Ok n) → n ≤ limits.body
bounded_by limits true b u m n test gives = absurd (okay_or_not (sym gives))
bounded_by limits false true u m n test gives = absurd (okay_or_not (sym gives))
bounded_by limits false false true m n test gives = absurd (okay_or_not (sym gives))
bounded_by limits false false false m n test gives = let same : m ≡ n = ap length_in gives in omega (arith, ltb-false limits.body m test, same)

said_within : (limits : HttpLimits) (wanted : Bool) (fields : List (List ℕ × List ℕ)) (said : Option (Option ℕ)) (n : ℕ) → length_or_bad limits wanted fields said ≡ Ok n → n ≤ limits.body
said_within limits wanted fields None n gives = absurd (okay_or_not (sym gives))
said_within limits wanted fields (Some said) n gives = bounded_by limits (nat_lt most_head_fields (length fields)) _ _ (unwrap_or said 0) n refl gives

-- a body that a head says is within its limit
pub body_length_within : (limits : HttpLimits) (fits wanted : Bool) (fields : List (List ℕ × List ℕ)) (n : ℕ) → body_length limits fits wanted fields ≡ Ok n → n ≤ limits.body
body_length_within limits fits wanted fields n gives =
    by_fit (fits && are_peers (values_of (codes "ps-peer") fields)) (length_or_bad limits wanted fields (length_of (values_of (codes "content-length") fields)))
    (said_within limits wanted fields (length_of (values_of (codes "content-length") fields)) n) gives
  where
    by_fit : (t : Bool) (r : Result ℕ HttpFault) → (r ≡ Ok n → n ≤ limits.body) → (if t then r else Err BadHead) ≡ Ok n → n ≤ limits.body
    by_fit true r within gives = within gives
    by_fit false r within gives = absurd (okay_or_not (sym gives))

request_within : (limits : HttpLimits) (bytes : List ℕ) (r : Request) → IsMessage requests limits bytes r → length r.body ≤ limits.body
request_within limits bytes r i =
    let fields = map name_and_value i.head.fields in
    let within = body_length_within limits (fits_request i.head.minor i.head.target fields) (wants_length i.head.method) fields (length i.body) i.length_is in
    omega (arith, within, ap (λ (m : Request). length m.body) i.message_is)

pub response_within : (limits : HttpLimits) (bytes : List ℕ) (r : Response) → IsMessage responses limits bytes r → length r.body ≤ limits.body
response_within limits bytes r i =
    let fields = map name_and_value i.head.fields in
    let within = body_length_within limits true true fields (length i.body) i.length_is in
    omega (arith, within, ap (λ (m : Response). length m.body) i.message_is)

pub request_taken : (limits : HttpLimits) (r : Request) (old new : Option (List ℕ)) → TakesMessage requests limits r old new → length r.body ≤ limits.body
request_taken limits r old new (bytes, consumed, i) = request_within limits bytes r i

pub response_taken : (limits : HttpLimits) (r : Response) (old new : Option (List ℕ)) → TakesMessage responses limits r old new → length r.body ≤ limits.body
response_taken limits r old new (bytes, consumed, i) = response_within limits bytes r i

pub refused_or : {H M : Type 0} (kind : Kind H M) (limits : HttpLimits) (front : List ℕ) (size : ℕ) (fault : HttpFault)
    → ((head : H) → is_head_result (kind.length_by limits head) ≡ true) → HeadGives kind limits front size (Err fault) → IsRefusedOr kind limits front fault
refused_or kind limits front size BadHead fits (head, rest, reads, gives, size_is) = record { head = head; rest = rest; reads = reads; refused = gives }
refused_or kind limits front size TooLarge fits (head, rest, reads, gives, size_is) = record { head = head; rest = rest; reads = reads; refused = gives }
refused_or kind limits front size NoLength fits (head, rest, reads, gives, size_is) = record { head = head; rest = rest; reads = reads; refused = gives }
refused_or kind limits front size (EndInside n) fits (head, rest, reads, gives, size_is) = absurd (false≢true (sym (ap is_head_result gives) ∙ fits head))
refused_or kind limits front size ReadFault fits (head, rest, reads, gives, size_is) = absurd (false≢true (sym (ap is_head_result gives) ∙ fits head))
refused_or kind limits front size AfterRefusal fits (head, rest, reads, gives, size_is) = absurd (false≢true (sym (ap is_head_result gives) ∙ fits head))
refused_or kind limits front size Memory fits (head, rest, reads, gives, size_is) = tt

-- a length and a message of one head
pub headed : {H M : Type 0} (kind : Kind H M) → Lawful kind → (limits : HttpLimits) (front : List ℕ) (message : M) (size body : ℕ)
    → HeadGives kind limits front size (Ok body) → IsMessageOf kind front message → IsHeaded kind limits front message size body
headed kind lawful limits front message size body (head, rest, reads, gives, size_is) (other, after, also, is) =
    let same = (lawful.unique front other head after rest also reads).0 in
    record { head = head; rest = rest; reads = reads; length_is = gives; size_is = size_is; message_is = is ∙ ap (λ h. kind.message h []) same }

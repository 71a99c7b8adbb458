-- What requests and responses have in common, of which the proofs on messages speak.
use Rattle.std.proofs.Common.{◌≡◌, ℕ, Bool, true, false, List, [], ◌++◌, refl, sym, ap, ◌∙◌, inl, inr, append_assoc, append-nil}
use Rattle.std.proofs.lemmas.Bool.{false≢true}
use Rattle.httparse.specs.Grammar.{RequestHead, print_request, ReadsRequest, HasNoRequest, NeverHasRequest, EndsInTarget, MayBecomeRequest, ResponseHead, print_response, ReadsResponse, MayBecomeResponse}
use Rattle.httparse.proofs.GrammarLemmas.{request_unique, ReadsRequest-append, response_unique, ReadsResponse-append}
use Rattle.ps_http.specs.Answer.{Kind, requests, responses}
use Rattle.ps_http.specs.Lines.{has_head_end}
use Rattle.ps_http.proofs.EndLemmas.{request_ends, response_ends, has_end, has_no_end, ended_longer, target_open}

pub record Lawful {H M : Type 0} (kind : Kind H M) : Type 0 where
  pub ends : (bytes : List ℕ) (head : H) (rest : List ℕ) → kind.Reads bytes head rest → has_head_end bytes ≡ true
  pub unended : (bytes : List ℕ) → kind.Open bytes → has_head_end bytes ≡ false
  pub longer : (bytes : List ℕ) (head : H) (rest more : List ℕ) → kind.Reads bytes head rest → kind.Reads (bytes ++ more) head (rest ++ more)
  pub never_longer : (bytes more : List ℕ) → has_head_end bytes ≡ true → kind.Never bytes → kind.Never (bytes ++ more)
  pub unique : (bytes : List ℕ) (h k : H) (r q : List ℕ) → kind.Reads bytes h r → kind.Reads bytes k q → (h ≡ k) × (r ≡ q)
  pub open_or_never : (bytes : List ℕ) → kind.Open bytes → kind.Never bytes → ⊥
  pub open_or_read : (bytes : List ℕ) (head : H) (rest : List ℕ) → kind.Open bytes → kind.Reads bytes head rest → ⊥
  pub never_or_read : (bytes : List ℕ) (head : H) (rest : List ℕ) → kind.Never bytes → kind.Reads bytes head rest → ⊥
  pub split : (bytes : List ℕ) (head : H) (rest : List ℕ) → kind.Reads bytes head rest → bytes ≡ kind.text head ++ rest
  pub before : (bytes : List ℕ) (head : H) (rest other : List ℕ) → kind.Reads bytes head rest → kind.Reads (kind.text head ++ other) head other

unless : (b : Bool) → (b ≡ true → ⊥) → b ≡ false
unless true not_so = absurd (not_so refl)
unless false not_so = refl

-- ---- requests

request_ended : (bytes : List ℕ) (h : RequestHead) (rest : List ℕ) → ReadsRequest bytes h rest → has_head_end bytes ≡ true
request_ended bytes h rest reads = ap has_head_end reads.1 ∙ has_end (print_request h) rest (request_ends h reads.0)

request_open : (bytes : List ℕ) → HasNoRequest bytes → MayBecomeRequest bytes → has_head_end bytes ≡ false
request_open bytes none (inl (more, h, reads)) = unless (has_head_end bytes) (λ ended.
    let split = sym (reads.1 ∙ append-nil (print_request h)) in
    let no_more = has_no_end (print_request h) bytes more (request_ends h reads.0) split ended in
    none h [] (reads.0, sym (append-nil bytes) ∙ ap (λ l. bytes ++ l) (sym no_more) ∙ reads.1))
request_open bytes none (inr target) = target_open bytes target

request_never : (bytes more : List ℕ) → has_head_end bytes ≡ true → NeverHasRequest bytes → NeverHasRequest (bytes ++ more) × ¬ (EndsInTarget (bytes ++ more))
request_never bytes more ended never = (
  λ after h rest reads. never (more ++ after) h rest (reads.0, sym (append_assoc bytes more after) ∙ reads.1),
  λ target. false≢true (sym (target_open (bytes ++ more) target) ∙ ended_longer bytes more ended),
)

open_or_never_request : (bytes : List ℕ) → MayBecomeRequest bytes → NeverHasRequest bytes × ¬ (EndsInTarget bytes) → ⊥
open_or_never_request bytes (inl (more, h, reads)) never = never.0 more h [] reads
open_or_never_request bytes (inr target) never = never.1 target

pub lawful_requests : Lawful requests
lawful_requests = record {
  ends = request_ended;
  unended = λ bytes open_there. request_open bytes open_there.0 open_there.1;
  longer = ReadsRequest-append;
  never_longer = λ bytes more ended never. request_never bytes more ended never.0;
  unique = request_unique;
  open_or_never = λ bytes open_there never. open_or_never_request bytes open_there.1 never;
  open_or_read = λ bytes head rest open_there reads. open_there.0 head rest reads;
  never_or_read = λ bytes head rest never reads. never.0 [] head rest (reads.0, append-nil bytes ∙ reads.1);
  split = λ bytes head rest reads. reads.1;
  before = λ bytes head rest other reads. (reads.0, refl);
}

-- ---- responses

response_ended : (bytes : List ℕ) (h : ResponseHead) (rest : List ℕ) → ReadsResponse bytes h rest → has_head_end bytes ≡ true
response_ended bytes h rest reads = ap has_head_end reads.1 ∙ has_end (print_response h) rest (response_ends h reads.0)

response_open : (bytes : List ℕ) → ((h : ResponseHead) (rest : List ℕ) → ¬ (ReadsResponse bytes h rest)) → MayBecomeResponse bytes → has_head_end bytes ≡ false
response_open bytes none (more, h, reads) = unless (has_head_end bytes) (λ ended.
    let split = sym (reads.1 ∙ append-nil (print_response h)) in
    let no_more = has_no_end (print_response h) bytes more (response_ends h reads.0) split ended in
    none h [] (reads.0, sym (append-nil bytes) ∙ ap (λ l. bytes ++ l) (sym no_more) ∙ reads.1))

pub lawful_responses : Lawful responses
lawful_responses = record {
  ends = response_ended;
  unended = λ bytes open_there. response_open bytes open_there.0 open_there.1;
  longer = ReadsResponse-append;
  never_longer = λ bytes more ended never after h rest reads. never (more ++ after) h rest (reads.0, sym (append_assoc bytes more after) ∙ reads.1);
  unique = response_unique;
  open_or_never = λ bytes open_there never. never open_there.1.0 open_there.1.1 [] open_there.1.2;
  open_or_read = λ bytes head rest open_there reads. open_there.0 head rest reads;
  never_or_read = λ bytes head rest never reads. never [] head rest (reads.0, append-nil bytes ∙ reads.1);
  split = λ bytes head rest reads. reads.1;
  before = λ bytes head rest other reads. (reads.0, refl);
}

-- what ends in a target has no head yet
pub target_has_none : (bytes : List ℕ) → EndsInTarget bytes → HasNoRequest bytes
target_has_none bytes target h rest reads = false≢true (sym (target_open bytes target) ∙ request_ended bytes h rest reads)

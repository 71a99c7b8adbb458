-- An input has one answer.
use Rattle.std.proofs.Common.{◌≡◌, ◌≤◌, ◌<◌, ◌+◌, ◌-◌, inl, inr, ℕ, true, List, [], ◌∷◌, ◌++◌, length, take, drop, refl, sym, ap, subst, ◌∙◌, arith, append_assoc, length-append, Option, Some, None, Result, Ok, Err}
use Rattle.std.proofs.lemmas.Bool.{false≢true}
use Rattle.std.proofs.lemmas.List.{take_all, take_at, drop_at}
use Rattle.ps_http.specs.Answer.{Kind, IsMessage, Refuses, requests, responses, IsRequestAnswer, IsResponseAnswer, is_decided}
use Rattle.ps_http.specs.declared.fault.HttpFault.{HttpFault}
use Rattle.ps_http.specs.declared.fault.HttpFault.TheVariants.{BadHead, NoLength, TooLarge, EndInside, ReadFault, AfterRefusal, Memory}
use Rattle.ps_http.specs.declared.message.HttpLimits.{HttpLimits}
use Rattle.ps_http.specs.declared.message.Request.{Request}
use Rattle.ps_http.specs.declared.message.Response.{Response}
use Rattle.ps_http.proofs.AnswerLemmas.{take_more}
use Rattle.ps_http.proofs.HeadLemmas.{okay_or_not, length_in}
use Rattle.ps_http.proofs.KindLemmas.{Lawful, lawful_requests, lawful_responses}

module _ {H M : Type 0} (kind : Kind H M) (lawful : Lawful kind) (limits : HttpLimits) (input : List ℕ) where
  abbrev front : List ℕ
  front = take limits.head input

  abbrev as_refusal : Result ℕ HttpFault → Result M HttpFault
  as_refusal (Ok n) = Err Memory
  as_refusal (Err fault) = Err fault

  -- what a front without a whole head comes to
  data Cut : Result M HttpFault → Type 0 where
    long : limits.head ≤ length input → Cut (Err TooLarge)
    cut : length input < limits.head → Cut (Err (EndInside (length input)))

  -- what a whole head comes to
  data Whole (head : H) : Result M HttpFault → Type 0 where
    refused : (fault : HttpFault) → kind.length_by limits head ≡ Err fault → Whole head (Err fault)
    short : (n : ℕ) → kind.length_by limits head ≡ Ok n → length input < length (kind.text head) + n → Whole head (Err (EndInside (length input)))
    message : (body rest : List ℕ) → kind.length_by limits head ≡ Ok (length body) → input ≡ kind.text head ++ (body ++ rest) → Whole head (Ok (kind.message head body))

  data Case (answer : Result M HttpFault) : Type 0 where
    never : kind.Never front → answer ≡ Err BadHead → Case answer
    unended : kind.Open front → Cut answer → Case answer
    whole : (head : H) (rest : List ℕ) → kind.Reads front head rest → Whole head answer → Case answer

  one_cut : {a b : Result M HttpFault} → Cut a → Cut b → a ≡ b
  one_cut (long p) (long q) = refl
  one_cut (long p) (cut q) = absurd (omega (arith, p, q))
  one_cut (cut p) (long q) = absurd (omega (arith, p, q))
  one_cut (cut p) (cut q) = refl

  body_is : (head : H) (body rest : List ℕ) → input ≡ kind.text head ++ (body ++ rest) → body ≡ take (length body) (drop (length (kind.text head)) input)
  body_is head body rest is =
      sym (ap (λ l. take (length body) (drop (length (kind.text head)) l)) is ∙ ap (take (length body)) (drop_at (kind.text head) (body ++ rest) (length (kind.text head)) refl)
      ∙ take_at body rest (length body) refl)

  whole_length : (head : H) (body rest : List ℕ) → input ≡ kind.text head ++ (body ++ rest) → length input ≡ length (kind.text head) + length body + length rest
  whole_length head body rest is = omega (arith, ap length is, length-append (kind.text head) (body ++ rest), length-append body rest)

  one_whole : (head : H) {a b : Result M HttpFault} → Whole head a → Whole head b → a ≡ b
  one_whole head (refused f p) (refused g q) = ap as_refusal (sym p ∙ q)
  one_whole head (refused f p) (short n q less) = absurd (okay_or_not (sym q ∙ p))
  one_whole head (refused f p) (message body rest q is) = absurd (okay_or_not (sym q ∙ p))
  one_whole head (short n p less) (refused f q) = absurd (okay_or_not (sym p ∙ q))
  one_whole head (short n p less) (short m q fewer) = refl
  one_whole head (short n p less) (message body rest q is) =
      let same : n ≡ length body = ap length_in (sym p ∙ q) in absurd (omega (arith, less, same, whole_length head body rest is))
  one_whole head (message body rest p is) (refused f q) = absurd (okay_or_not (sym p ∙ q))
  one_whole head (message body rest p is) (short n q less) =
      let same : n ≡ length body = ap length_in (sym q ∙ p) in absurd (omega (arith, less, same, whole_length head body rest is))
  one_whole head (message body rest p is) (message other after q also) =
      let same : length body ≡ length other = ap length_in (sym p ∙ q) in
      ap (λ b. Ok (kind.message head b))
      (body_is head body rest is ∙ ap (λ n. take n (drop (length (kind.text head)) input)) same ∙ sym (body_is head other after also))

  one_case : {a b : Result M HttpFault} → Case a → Case b → a ≡ b
  one_case (never p is) (never q also) = is ∙ sym also
  one_case (never p is) (unended q c) = absurd (lawful.open_or_never front q p)
  one_case (never p is) (whole h r reads w) = absurd (lawful.never_or_read front h r p reads)
  one_case (unended p c) (never q is) = absurd (lawful.open_or_never front p q)
  one_case (unended p c) (unended q d) = one_cut c d
  one_case (unended p c) (whole h r reads w) = absurd (lawful.open_or_read front h r p reads)
  one_case (whole h r reads w) (never q is) = absurd (lawful.never_or_read front h r q reads)
  one_case (whole h r reads w) (unended q d) = absurd (lawful.open_or_read front h r q reads)
  one_case {a} {b} (whole h r reads w) (whole k s also v) =
      one_whole h w (subst (λ x. Whole x b) (sym (lawful.unique front h k r s reads also).0) v)

  case_of : (fault : HttpFault) → is_decided fault ≡ true → Refuses kind limits input fault → Case (Err fault)
  case_of BadHead decided (inl p) = never p refl
  case_of BadHead decided (inr (head, rest, reads, says, _)) = whole head rest reads (refused BadHead says)
  case_of TooLarge decided (inl (many, p)) = unended p (long many)
  case_of TooLarge decided (inr (head, rest, reads, says, _)) = whole head rest reads (refused TooLarge says)
  case_of NoLength decided (head, rest, reads, says, _) = whole head rest reads (refused NoLength says)
  case_of (EndInside n) decided (count, inl (few, p)) =
      subst (λ k. Case (Err (EndInside k))) (sym count) (unended (subst kind.Open (sym (take_all limits.head input (omega (arith, few)))) p) (cut few))
  case_of (EndInside n) decided (count, inr (m, (head, rest, reads, says, less))) =
      subst (λ k. Case (Err (EndInside k))) (sym count) (whole head rest reads (short m says less))
  case_of ReadFault decided r = absurd (false≢true decided)
  case_of AfterRefusal decided r = absurd (false≢true decided)
  case_of Memory decided r = absurd (false≢true decided)

  case_of_message : (bytes rest : List ℕ) (m : M) → input ≡ bytes ++ rest → IsMessage kind limits bytes m → Case (Ok m)
  case_of_message bytes rest m is i =
      let text = kind.text i.head in
      let all : input ≡ text ++ (i.body ++ rest) = is ∙ ap (λ l. l ++ rest) (lawful.split bytes i.head i.body i.reads) ∙ append_assoc text i.body rest in
      let after = take (limits.head - length text) (i.body ++ rest) in
      let at : front ≡ text ++ after = ap (take limits.head) all ∙ take_more limits.head text (i.body ++ rest)
      ∙ ap (λ l. l ++ after) (take_all limits.head text i.fits) in
      subst (λ r. Case r) (ap Ok (sym i.message_is))
      (whole i.head after (subst (λ l. kind.Reads l i.head after) (sym at) (lawful.before bytes i.head i.body after i.reads))
      (message i.body rest i.length_is all))

abbrev some_ok : Result Request HttpFault → Result (Option Request) HttpFault
some_ok (Ok r) = Ok (Some r)
some_ok (Err fault) = Err fault

-- a message has a byte
some_byte : {H M : Type 0} (kind : Kind H M) → Lawful kind → (limits : HttpLimits) (bytes rest : List ℕ) (m : M) → IsMessage kind limits bytes m → bytes ++ rest ≡ [] → ⊥
some_byte kind lawful limits [] rest m i none = false≢true (lawful.ends [] i.head i.body i.reads)
some_byte kind lawful limits (b ∷ bytes) rest m i none = absurd (omega (arith, ap length none))

pub one_response : (limits : HttpLimits) (input : List ℕ) (a b : Result Response HttpFault) → IsResponseAnswer limits input a → IsResponseAnswer limits input b → a ≡ b
one_response limits input a b p q = one_case responses lawful_responses limits input (of a p) (of b q)
  where
    of : (a : Result Response HttpFault) → IsResponseAnswer limits input a → Case responses lawful_responses limits input a
    of (Ok m) (bytes, rest, is, i) = case_of_message responses lawful_responses limits input bytes rest m is i
    of (Err fault) (decided, r) = case_of responses lawful_responses limits input fault decided r

pub one_request : (limits : HttpLimits) (input : List ℕ) (a b : Result (Option Request) HttpFault) → IsRequestAnswer limits input a → IsRequestAnswer limits input b → a ≡ b
one_request limits input (Ok None) (Ok None) p q = refl
one_request limits input (Ok None) (Ok (Some r)) p (bytes, rest, is, i) = absurd (some_byte requests lawful_requests limits bytes rest r i (sym is ∙ p))
one_request limits input (Ok None) (Err fault) p (decided, r, some) = absurd (omega (arith, some, ap length p))
one_request limits input (Ok (Some r)) (Ok None) (bytes, rest, is, i) q = absurd (some_byte requests lawful_requests limits bytes rest r i (sym is ∙ q))
one_request limits input (Err fault) (Ok None) (decided, r, some) q = absurd (omega (arith, some, ap length q))
one_request limits input (Ok (Some r)) (Ok (Some s)) (bytes, rest, is, i) (more, after, also, j) =
    ap some_ok (one_case requests lawful_requests limits input
    (case_of_message requests lawful_requests limits input bytes rest r is i) (case_of_message requests lawful_requests limits input more after s also j))
one_request limits input (Ok (Some r)) (Err fault) (bytes, rest, is, i) (decided, s, some) =
    ap some_ok (one_case requests lawful_requests limits input
    (case_of_message requests lawful_requests limits input bytes rest r is i) (case_of requests lawful_requests limits input fault decided s))
one_request limits input (Err fault) (Ok (Some r)) (decided, s, some) (bytes, rest, is, i) =
    ap some_ok (one_case requests lawful_requests limits input
    (case_of requests lawful_requests limits input fault decided s) (case_of_message requests lawful_requests limits input bytes rest r is i))
one_request limits input (Err fault) (Err other) (decided, s, some) (also, t, too) =
    ap some_ok (one_case requests lawful_requests limits input
    (case_of requests lawful_requests limits input fault decided s) (case_of requests lawful_requests limits input other also t))

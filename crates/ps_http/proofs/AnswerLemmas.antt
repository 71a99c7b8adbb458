-- From what was read of an input to what the whole input is.
use Rattle.std.proofs.Common.{◌≡◌, false, ◌≤◌, ◌<◌, ◌+◌, ◌-◌, ◌⊎◌, inl, inr, ℕ, zero, suc, List, [], ◌∷◌, ◌++◌, length, take, drop, refl, sym, ap, subst, ◌∙◌, arith, append_assoc, append-nil, length-append, length-take, take-append-drop, Option, Some, None, Ok, Err}
use Rattle.std.specs.Prelude.{IfSome, ⊤}
use Rattle.std.specs.Io.KnownBytes.{Consumes, IsAtEnd, prepend_known}
use Rattle.std.proofs.KnownBytes.{Consumes-trans}
use Rattle.std.proofs.lemmas.Bool.{false≢true}
use Rattle.std.proofs.lemmas.List.{take_all, take-append-le, drop_at}
use Rattle.ps_http.specs.Answer.{Kind, HeadSays, EndsInBody, Refuses, TakesMessage, WasDue}
use Rattle.ps_http.specs.Body.{Short, HasBody, BodyFault}
use Rattle.ps_http.specs.Collected.{Added, IsEnough}
use Rattle.ps_http.specs.Head.{IsHeaded, IsRefused, HeadFault}
use Rattle.ps_http.specs.Lines.{has_head_end}
use Rattle.ps_http.specs.declared.fault.HttpFault.{HttpFault}
use Rattle.ps_http.specs.declared.fault.HttpFault.TheVariants.{BadHead, NoLength, TooLarge, EndInside, ReadFault, AfterRefusal, Memory}
use Rattle.ps_http.specs.declared.message.HttpLimits.{HttpLimits}
use Rattle.ps_http.proofs.KindLemmas.{Lawful}

-- the input is what is held, and then what is left
pub input_is : (P : List ℕ → Type 0) (old held : List ℕ) (left rest : Option (List ℕ)) → Added old held left rest
    → ((more : List ℕ) → rest ≡ Some more → P (held ++ more)) → IfSome (prepend_known old left) P
input_is P old held None rest a given = tt
input_is P old held (Some all) None a given = absurd a.consumed
input_is P old held (Some all) (Some more) a given =
    subst P (ap (λ l. l ++ more) a.added ∙ append_assoc old a.came more ∙ ap (λ l. old ++ l) (sym a.consumed)) (given more refl)

-- a head's text and a body, of which what is behind the text was held and came
consumes_message : (old held text tail came body now : List ℕ) (left mid rest : Option (List ℕ)) → Added old held left mid → held ≡ text ++ tail
    → Consumes mid rest came → tail ++ came ≡ body ++ now → Consumes (prepend_known old left) (prepend_known now rest) (text ++ body)
consumes_message old held text tail came body now None mid rest a held_is c split = tt
consumes_message old held text tail came body now (Some l) None rest a held_is c split = absurd a.consumed
consumes_message old held text tail came body now (Some l) (Some m) None a held_is c split = absurd c
consumes_message old held text tail came body now (Some l) (Some m) (Some r) a held_is c split =
    ap (λ x. old ++ x) a.consumed ∙ sym (append_assoc old a.came m) ∙ (λ i. sym a.added i ++ c i)
    ∙ ap (λ x. x ++ (came ++ r)) held_is ∙ append_assoc text tail (came ++ r)
    ∙ ap (λ x. text ++ x) (sym (append_assoc tail came r) ∙ ap (λ x. x ++ r) split ∙ append_assoc body now r)
    ∙ sym (append_assoc text body (now ++ r))

-- ---- the front of the input

pub take_more : (n : ℕ) (held more : List ℕ) → take n (held ++ more) ≡ take n held ++ take (n - length held) more
take_more zero [] more = refl
take_more (suc n) [] more = let e : suc n ≡ suc n - 0 = omega arith in ap (λ m. take m more) e
take_more zero (x ∷ held) more = let e : 0 ≡ 0 - length (x ∷ held) = omega arith in ap (λ m. take m more) e
take_more (suc n) (x ∷ held) more =
    let e : n - length held ≡ suc n - length (x ∷ held) = omega arith in
    ap (λ l. x ∷ l) (take_more n held more ∙ ap (λ m. take n held ++ take m more) e)

at_end : (more : List ℕ) (rest : Option (List ℕ)) → rest ≡ Some more → IsAtEnd rest → more ≡ []
at_end more rest is ended = subst IsAtEnd is ended

consumed_all : (rest : Option (List ℕ)) (came more : List ℕ) → Consumes (Some more) rest came → IsAtEnd rest → more ≡ came
consumed_all None came more consumed ended = absurd consumed
consumed_all (Some r) came more consumed ended = consumed ∙ ap (λ l. came ++ l) ended ∙ append-nil came

-- what is held has all of the front, or the head has ended in it
same_front : (most : ℕ) (held more : List ℕ) → (most ≤ length held) ⊎ (more ≡ []) → take most (held ++ more) ≡ take most held
same_front most held more (inl enough) = take-append-le most held more enough
same_front most held more (inr none) = ap (λ l. take most (held ++ l)) none ∙ ap (take most) (append-nil held)

module _ {H M : Type 0} (kind : Kind H M) (lawful : Lawful kind) (limits : HttpLimits) (held : List ℕ) where
  abbrev front : List ℕ
  front = take limits.head held

  pub longer_head : (head : H) (rest more : List ℕ) → kind.Reads front head rest → (after : List ℕ) × kind.Reads (take limits.head (held ++ more)) head after
  longer_head head rest more reads =
      let added = take (limits.head - length held) more in
      (rest ++ added, subst (λ l. kind.Reads l head (rest ++ added)) (sym (take_more limits.head held more)) (lawful.longer front head rest added reads))

  refused_input : (fault : HttpFault) (more : List ℕ) → IsRefused kind limits front fault → HeadSays kind limits (held ++ more) (Err fault) (λ _. ⊤)
  refused_input fault more r = let l = longer_head r.head r.rest more r.reads in (r.head, l.0, l.1, r.refused, tt)

  never_input : (more : List ℕ) (rest : Option (List ℕ)) → rest ≡ Some more → IsEnough limits.head held rest → kind.Never front → kind.Never (take limits.head (held ++ more))
  never_input more rest is (inl ended) never =
      subst kind.Never (sym (take_more limits.head held more)) (lawful.never_longer front (take (limits.head - length held) more) ended never)
  never_input more rest is (inr (inl enough)) never = subst kind.Never (sym (same_front limits.head held more (inl enough))) never
  never_input more rest is (inr (inr ended)) never = subst kind.Never (sym (same_front limits.head held more (inr (at_end more rest is ended)))) never

  open_input : (more : List ℕ) (rest : Option (List ℕ)) → rest ≡ Some more → IsEnough limits.head held rest → kind.Open front → (limits.head ≤ length held) ⊎ (more ≡ [])
  open_input more rest is (inl ended) unended = absurd (false≢true (sym (lawful.unended front unended) ∙ ended))
  open_input more rest is (inr (inl enough)) unended = inl enough
  open_input more rest is (inr (inr ended)) unended = inr (at_end more rest is ended)

  no_more : {more : List ℕ} → (limits.head ≤ length held) ⊎ (more ≡ []) → length held < limits.head → more ≡ []
  no_more (inl enough) short = absurd (omega (arith, enough, short))
  no_more (inr none) short = none

  -- the refusals of a head are those of the input
  head_refusal : (fault : HttpFault) (more : List ℕ) (rest : Option (List ℕ)) → rest ≡ Some more → IsEnough limits.head held rest
      → HeadFault kind limits front fault → Refuses kind limits (held ++ more) fault
  head_refusal BadHead more rest is enough (inl never) = inl (never_input more rest is enough never)
  head_refusal BadHead more rest is enough (inr refused) = inr (refused_input BadHead more refused)
  head_refusal TooLarge more rest is enough (inl (many, unended)) =
      let has : limits.head ≤ length held = omega (arith, many, length-take limits.head held) in
      inl (omega (arith, has, length-append held more), subst kind.Open (sym (same_front limits.head held more (inl has))) unended)
  head_refusal TooLarge more rest is enough (inr refused) = inr (refused_input TooLarge more refused)
  head_refusal NoLength more rest is enough refused = refused_input NoLength more refused
  head_refusal (EndInside n) more rest is enough (count, few, unended) =
      let short : length held < limits.head = omega (arith, few, length-take limits.head held) in
      let all : front ≡ held = take_all limits.head held (omega (arith, short)) in
      let none = no_more (open_input more rest is enough unended) short in
      let same : held ++ more ≡ held = ap (λ l. held ++ l) none ∙ append-nil held in
      (count ∙ ap length (all ∙ sym same), inl (omega (arith, ap length same, short), subst kind.Open (all ∙ sym same) unended))
  head_refusal ReadFault more rest is enough no_fault = tt
  head_refusal AfterRefusal more rest is enough no_fault = tt
  head_refusal Memory more rest is enough no_fault = tt

  -- ---- what a whole head and its body are

  -- behind the head's bytes
  pub behind_head : (head : H) (rest : List ℕ) → kind.Reads front head rest → held ≡ kind.text head ++ drop (length (kind.text head)) held
  behind_head head rest reads =
      let text = kind.text head in
      let all : held ≡ text ++ (rest ++ drop limits.head held) =
      sym (take-append-drop limits.head held) ∙ ap (λ l. l ++ drop limits.head held) (lawful.split front head rest reads)
      ∙ append_assoc text rest (drop limits.head held) in
      let cut : drop (length text) held ≡ rest ++ drop limits.head held = ap (drop (length text)) all ∙ drop_at text (rest ++ drop limits.head held) (length text) refl in
      all ∙ ap (λ l. text ++ l) (sym cut)

  pub head_fits : (head : H) (rest : List ℕ) → kind.Reads front head rest → length (kind.text head) ≤ limits.head
  head_fits head rest reads =
      omega (arith, ap length (lawful.split front head rest reads), length-append (kind.text head) rest, length-take limits.head held)

  pub head_held : (head : H) (rest : List ℕ) → kind.Reads front head rest → length (kind.text head) ≤ length held
  head_held head rest reads =
      omega (arith, ap length (lawful.split front head rest reads), length-append (kind.text head) rest, length-take limits.head held)

  -- the message's bytes are taken from what was held and left
  pub takes : (message : M) (size n : ℕ) (old body now : List ℕ) (left mid rest : Option (List ℕ)) → Added old held left mid
      → (h : IsHeaded kind limits front message size n) → HasBody size n body held now mid rest
      → (whole : M) → whole ≡ kind.message h.head body → TakesMessage kind limits whole (prepend_known old left) (prepend_known now rest)
  takes message size n old body now left mid rest a h b whole whole_is =
      let text = kind.text h.head in
      let split = ap (λ k. drop k held ++ b.came) (sym h.size_is) ∙ b.split in
      let bytes = consumes_message old held text (drop (length text) held) b.came body now left mid rest a (behind_head h.head h.rest h.reads) b.consumed split in (
        text ++ body,
        bytes,
        record {
          head = h.head;
          body = body;
          reads = lawful.before front h.head h.rest body h.reads;
          fits = head_fits h.head h.rest h.reads;
          length_is = h.length_is ∙ ap Ok (sym b.len);
          message_is = whole_is;
        },
      )

  -- ---- where the body isn't whole

  pub body_short : (message : M) (size n : ℕ) (more : List ℕ) → IsHeaded kind limits front message size n → length held + length more < size + n
      → EndsInBody kind limits (held ++ more)
  body_short message size n more h short =
      let l = longer_head h.head h.rest more h.reads in
      (n, (h.head, l.0, l.1, h.length_is, omega (arith, short, length-append held more, h.size_is)))

  pub body_refusal : (message : M) (size n : ℕ) (fault : HttpFault) (old : List ℕ) (left mid rest : Option (List ℕ)) → Added old held left mid
      → IsHeaded kind limits front message size n → BodyFault size n fault held mid rest → IfSome (prepend_known old left) (λ input. Refuses kind limits input fault)
  body_refusal message size n (EndInside k) old left mid rest a h (s, count, ended) =
      input_is (λ input. Refuses kind limits input (EndInside k)) old held left mid a
      (λ more is.
      let all : more ≡ s.came = consumed_all rest s.came more (subst (λ m. Consumes m rest s.came) is s.consumed) ended in
      (omega (arith, count, ap length all, length-append held more), inr (body_short message size n more h (omega (arith, s.short, ap length all)))))
  body_refusal message size n ReadFault old left mid rest a h s = input_is (λ input. Refuses kind limits input ReadFault) old held left mid a (λ more is. tt)
  body_refusal message size n BadHead old left mid rest a h no_fault = absurd no_fault
  body_refusal message size n NoLength old left mid rest a h no_fault = absurd no_fault
  body_refusal message size n TooLarge old left mid rest a h no_fault = absurd no_fault
  body_refusal message size n AfterRefusal old left mid rest a h no_fault = absurd no_fault
  body_refusal message size n Memory old left mid rest a h no_fault = input_is (λ input. Refuses kind limits input Memory) old held left mid a (λ more is. tt)

  -- a head that isn't whole and not too long is the rest of the input
  pub head_ended : (n : ℕ) (rest : Option (List ℕ)) → IsEnough limits.head held rest → HeadFault kind limits front (EndInside n) → IsAtEnd rest
  head_ended n rest (inl ended) (count, few, unended) = absurd (false≢true (sym (lawful.unended front unended) ∙ ended))
  head_ended n rest (inr (inl enough)) (count, few, unended) = absurd (omega (arith, enough, few, length-take limits.head held))
  head_ended n rest (inr (inr ended)) fault = ended

  -- a read was due inside a head, and inside a body
  pub head_due : (n : ℕ) (old : List ℕ) (left rest : Option (List ℕ)) → Added old held left rest → HeadFault kind limits front (EndInside n) → WasDue kind limits old left rest
  head_due n old left rest a (count, few, unended) =
      let short : length held < limits.head = omega (arith, few, length-take limits.head held) in
      let all : front ≡ held = take_all limits.head held (omega (arith, short)) in
      let open_end : has_head_end held ≡ false = ap has_head_end (sym all) ∙ lawful.unended front unended in
      (a.came, a.consumed, inl (subst (λ l. (length l < limits.head) × (has_head_end l ≡ false)) a.added (short, open_end)))

  pub body_due : (message : M) (size n : ℕ) (old : List ℕ) (left mid rest : Option (List ℕ)) → Added old held left mid → IsHeaded kind limits front message size n
      → Short (length held) (size + n) mid rest → WasDue kind limits old left rest
  body_due message size n old left mid rest a h s =
      let split : old ++ (a.came ++ s.came) ≡ held ++ s.came = sym (append_assoc old a.came s.came) ∙ ap (λ l. l ++ s.came) (sym a.added) in (
        a.came ++ s.came,
        Consumes-trans left mid rest a.came s.came a.consumed s.consumed,
        inr (subst (EndsInBody kind limits) (sym split) (body_short message size n s.came h s.short)),
      )

  pub head_refuses : (fault : HttpFault) (old : List ℕ) (left rest : Option (List ℕ)) → Added old held left rest → IsEnough limits.head held rest
      → HeadFault kind limits front fault → IfSome (prepend_known old left) (λ input. Refuses kind limits input fault)
  head_refuses fault old left rest a enough f = input_is (λ input. Refuses kind limits input fault) old held left rest a (λ more is. head_refusal fault more rest is enough f)

-- No read is due any more where a message was read or a head refused, and each read was due when it was made.
use Rattle.std.proofs.Common.{◌≡◌, ◌≤◌, ◌<◌, ◌+◌, ◌⊎◌, inl, inr, ℕ, true, false, List, [], ◌++◌, length, take, drop, sym, ap, subst, ◌∙◌, arith, append_assoc, length-append, length-take, length-drop, Option, Result, Ok, Err}
use Rattle.std.specs.Prelude.{IfErr}
use Rattle.std.specs.Io.KnownBytes.{IsAtEnd}
use Rattle.std.proofs.KnownBytes.{Consumes-trans}
use Rattle.std.proofs.lemmas.Bool.{false≢true}
use Rattle.std.proofs.lemmas.List.{take_all, nil_from_length}
use Rattle.ps_http.specs.Answer.{Kind, IsDue, EndsInBody, AsWanted, WasEnough, WasEnoughOrEnd, RefusedInTime}
use Rattle.ps_http.specs.Body.{HasBody}
use Rattle.ps_http.specs.Collected.{Added, IsEnough, IsWanted, Collected}
use Rattle.ps_http.specs.Head.{IsRefused, HeadFault}
use Rattle.ps_http.specs.Lines.{has_head_end}
use Rattle.ps_http.specs.Next.{HasHead, FaultAt}
use Rattle.ps_http.specs.declared.fault.HttpFault.{HttpFault}
use Rattle.ps_http.specs.declared.fault.HttpFault.TheVariants.{BadHead, NoLength, TooLarge, EndInside, ReadFault, AfterRefusal, Memory}
use Rattle.ps_http.specs.declared.message.HttpLimits.{HttpLimits}
use Rattle.ps_http.proofs.AnswerLemmas.{longer_head}
use Rattle.ps_http.proofs.HeadLemmas.{okay_or_not, length_in}
use Rattle.ps_http.proofs.KindLemmas.{Lawful}

module _ {H M : Type 0} (kind : Kind H M) (lawful : Lawful kind) (limits : HttpLimits) (all : List ℕ) where
  abbrev start : List ℕ
  start = take limits.head all

  -- with a whole head, none is due for a head
  head_whole : (head : H) (rest : List ℕ) → kind.Reads start head rest → length all < limits.head → has_head_end all ≡ false → ⊥
  head_whole head rest reads short unended =
      false≢true (sym unended ∙ ap has_head_end (sym (take_all limits.head all (omega (arith, short)))) ∙ lawful.ends start head rest reads)

  whole_done : (head : H) (rest : List ℕ) (n : ℕ) → kind.Reads start head rest → kind.length_by limits head ≡ Ok n → length (kind.text head) + n ≤ length all
      → IsDue kind limits all → ⊥
  whole_done head rest n reads says enough (inl due) = head_whole head rest reads due.0 due.1
  whole_done head rest n reads says enough (inr (m, (other, after, also, gives, less))) =
      let same = (lawful.unique start head other rest after reads also).0 in
      let count : n ≡ m = ap length_in (sym says ∙ ap (kind.length_by limits) same ∙ gives) in
      absurd (omega (arith, less, enough, count, ap (λ h. length (kind.text h)) same))

  refused_done : (fault : HttpFault) → IsRefused kind limits start fault → IsDue kind limits all → ⊥
  refused_done fault r (inl due) = head_whole r.head r.rest r.reads due.0 due.1
  refused_done fault r (inr (m, (other, after, also, gives, less))) =
      let same = (lawful.unique start r.head other r.rest after r.reads also).0 in
      okay_or_not (sym gives ∙ ap (kind.length_by limits) (sym same) ∙ r.refused)

  long_done : limits.head ≤ length all → kind.Open start → IsDue kind limits all → ⊥
  long_done many unended (inl due) = absurd (omega (arith, many, due.0))
  long_done many unended (inr (m, (other, after, also, gives, less))) = lawful.open_or_read start other after unended also

  bad_done : (rest : Option (List ℕ)) → IsEnough limits.head all rest → kind.Never start → (IsDue kind limits all → ⊥) ⊎ IsAtEnd rest
  bad_done rest (inr (inr ended)) never = inr ended
  bad_done rest (inr (inl enough)) never = inl (by_due enough never)
    where
      by_due : limits.head ≤ length all → kind.Never start → IsDue kind limits all → ⊥
      by_due enough never (inl due) = absurd (omega (arith, enough, due.0))
      by_due enough never (inr (m, (other, after, also, gives, less))) = lawful.never_or_read start other after never also
  bad_done rest (inl ended) never = inl (by_due ended never)
    where
      by_due : has_head_end start ≡ true → kind.Never start → IsDue kind limits all → ⊥
      by_due ended never (inl due) = false≢true (sym due.1 ∙ ap has_head_end (sym (take_all limits.head all (omega (arith, due.0)))) ∙ ended)
      by_due ended never (inr (m, (other, after, also, gives, less))) = lawful.never_or_read start other after never also

module _ {H M : Type 0} (kind : Kind H M) (lawful : Lawful kind) (limits : HttpLimits) where
  head_wanted : (old held now : List ℕ) (left rest : Option (List ℕ)) (a : Added old held left rest) → IsWanted limits.head old held → AsWanted kind limits old a.came now
  head_wanted old held now left rest a (inl same) = inl (nil_from_length a.came (omega (arith, ap length a.added, ap length same, length-append old a.came)))
  head_wanted old held now left rest a (inr (short, unended, within)) = inr (inl (short, unended), inr (omega (arith, within, ap length a.added)))

  refused_enough : (fault : HttpFault) (old held now : List ℕ) (left rest : Option (List ℕ)) → Collected limits.head old held left rest
      → IsRefused kind limits (take limits.head held) fault → WasEnough kind limits old now left rest
  refused_enough fault old held now left rest (a, enough, wanted) r =
      (a.came, a.consumed, head_wanted old held now left rest a wanted, λ due. refused_done kind lawful limits held fault r (subst (IsDue kind limits) (sym a.added) due))

  pub long_enough : (old held now : List ℕ) (left rest : Option (List ℕ)) → Collected limits.head old held left rest
      → HeadFault kind limits (take limits.head held) TooLarge → WasEnough kind limits old now left rest
  long_enough old held now left rest c (inr r) = refused_enough TooLarge old held now left rest c r
  long_enough old held now left rest (a, enough, wanted) (inl (many, unended)) =
      let all : limits.head ≤ length held = omega (arith, many, length-take limits.head held) in
      (a.came, a.consumed, head_wanted old held now left rest a wanted, λ due. long_done kind lawful limits held all unended (subst (IsDue kind limits) (sym a.added) due))

  pub unsaid_enough : (old held now : List ℕ) (left rest : Option (List ℕ)) → Collected limits.head old held left rest
      → HeadFault kind limits (take limits.head held) NoLength → WasEnough kind limits old now left rest
  unsaid_enough old held now left rest c r = refused_enough NoLength old held now left rest c r

  done_or_end : (held all : List ℕ) (rest : Option (List ℕ)) → held ≡ all → (IsDue kind limits held → ⊥) ⊎ IsAtEnd rest → (¬ (IsDue kind limits all)) ⊎ IsAtEnd rest
  done_or_end held all rest same (inl done) = inl (λ due. done (subst (IsDue kind limits) (sym same) due))
  done_or_end held all rest same (inr ended) = inr ended

  pub bad_enough : (old held now : List ℕ) (left rest : Option (List ℕ)) → Collected limits.head old held left rest
      → HeadFault kind limits (take limits.head held) BadHead → WasEnoughOrEnd kind limits old now left rest
  bad_enough old held now left rest (a, enough, wanted) (inl never) =
      (a.came, a.consumed, head_wanted old held now left rest a wanted, done_or_end held (old ++ a.came) rest a.added (bad_done kind lawful limits held rest enough never))
  bad_enough old held now left rest c (inr r) = let e = refused_enough BadHead old held now left rest c r in (e.0, e.1, e.2, inl e.3)

  -- a message was read: what came for its head, and then for its body
  pub message_enough : (message : M) (size n : ℕ) (old held body now : List ℕ) (left mid rest : Option (List ℕ)) → HasHead kind limits message size n old held left mid
      → HasBody size n body held now mid rest → WasEnough kind limits old now left rest
  message_enough message size n old held body now left mid rest h b =
      let a = h.added in
      let f = h.headed in
      let split : old ++ (a.came ++ b.came) ≡ held ++ b.came = sym (append_assoc old a.came b.came) ∙ ap (λ l. l ++ b.came) (sym a.added) in
      let longer = longer_head kind lawful limits held f.head f.rest b.came f.reads in
      let many : length (kind.text f.head) + n ≤ length (held ++ b.came) =
      omega (
        arith,
        ap length b.split,
        length-append (drop size held) b.came,
        length-append body now,
        length-drop size held,
        b.len,
        length-append held b.came,
        f.size_is,
        h.fits,
      ) in (
        a.came ++ b.came,
        Consumes-trans left mid rest a.came b.came a.consumed b.consumed,
        by_came h.wanted b.wanted,
        λ due. whole_done kind lawful limits (held ++ b.came) f.head longer.0 n longer.1 f.length_is many (subst (IsDue kind limits) split due),
      )
    where
      by_came : IsWanted limits.head old held → (b.came ≡ []) ⊎ ((now ≡ []) × (length held < size + n)) → AsWanted kind limits old (h.added.came ++ b.came) now
      by_came (inl same) (inl none) =
          let all : length (h.added.came ++ b.came) ≡ 0 =
          omega (arith, ap length h.added.added, ap length same, length-append old h.added.came, length-append h.added.came b.came, ap length none) in
          inl (nil_from_length (h.added.came ++ b.came) all)
      by_came (inl same) (inr (gone, short)) =
          let cut : EndsInBody kind limits held = (n, (h.headed.head, h.headed.rest, h.headed.reads, h.headed.length_is, omega (arith, short, h.headed.size_is))) in
          inr (inr (subst (EndsInBody kind limits) same cut), inl gone)
      by_came (inr (short, unended, within)) (inl none) =
          inr (inl (short, unended), inr (omega (arith, within, ap length h.added.added, length-append old h.added.came, length-append old (h.added.came ++ b.came), length-append h.added.came b.came, ap length none)))
      by_came (inr (short, unended, within)) (inr (gone, less)) = inr (inl (short, unended), inl gone)

module _ {H M : Type 0} (kind : Kind H M) (limits : HttpLimits) where
  in_time : (fault : HttpFault) (old now : List ℕ) (left rest : Option (List ℕ)) → FaultAt kind limits old now fault left rest → RefusedInTime kind limits fault old now left rest
  in_time BadHead old now left rest f = f.1
  in_time NoLength old now left rest f = f.1
  in_time TooLarge old now left rest f = f.1
  in_time (EndInside n) old now left rest f = (f.1, f.2)
  in_time ReadFault old now left rest f = tt
  in_time AfterRefusal old now left rest f = tt
  in_time Memory old now left rest f = tt

  pub in_time_of : {A : Type 0} (r : Result A HttpFault) (old now : List ℕ) (left rest : Option (List ℕ)) → IfErr r (λ fault. FaultAt kind limits old now fault left rest)
      → IfErr r (λ fault. RefusedInTime kind limits fault old now left rest)
  in_time_of (Ok x) old now left rest f = tt
  in_time_of (Err fault) old now left rest f = in_time fault old now left rest f

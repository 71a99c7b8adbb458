-- The body of a message, as its bytes come.
use Rattle.std.proofs.Common.{◌≡◌, ◌≤◌, ◌<◌, ◌+◌, ℕ, List, [], ◌++◌, length, take, drop, sym, ap, ◌∙◌, append_assoc, append-nil, Option, arith, take-add, length-append, length-take, length-drop, min, ◌-◌, ◌⊎◌, inl, inr, take-append-drop, subst, Result, Ok, Err}
use Rattle.std.specs.Prelude.{IfErr, OnOk}
use Rattle.std.proofs.lemmas.Bool.{cases_lt}
use Rattle.std.proofs.lemmas.List.{take_all, drop-drop, nil_from_length}
use Rattle.ps_http.specs.declared.fault.HttpFault.{HttpFault}
use Rattle.ps_http.specs.declared.fault.HttpFault.TheVariants.{BadHead, NoLength, TooLarge, EndInside, ReadFault, AfterRefusal, Memory}
use Rattle.std.specs.Io.KnownBytes.{Keeps}
use Rattle.std.proofs.KnownBytes.{Consumes-trans, Consumes-kept}
use Rattle.ps_http.specs.Body.{Short, Filled, FillFault, HasBody, BodyFault}
use Rattle.ps_http.specs.Collected.{Added}
use Rattle.ps_http.specs.Held.{CameAt}

-- as many came as were added
pub count_came : (front now : List ℕ) (left rest : Option (List ℕ)) (a : Added front now left rest) → length now ≡ length front + length a.came
count_came front now left rest a = ap length a.added ∙ length-append front a.came

pub added_at : (front before now : List ℕ) (left mid rest : Option (List ℕ)) (count to n : ℕ) → Added front (take count before) left mid
    → CameAt count to n now mid rest → take count now ≡ take count before → Added front (take (count + n) now) left rest
added_at front before now left mid rest count to n a came same = record {
  came = a.came ++ take n (drop count now);
  consumed = Consumes-trans left mid rest a.came (take n (drop count now)) a.consumed came.consumed;
  added = take-add count n now ∙ ap (λ l. l ++ take n (drop count now)) (same ∙ a.added) ∙ append_assoc front a.came (take n (drop count now));
}

pub short_at_end : (front before now : List ℕ) (left mid rest : Option (List ℕ)) (ready count to n : ℕ) → Added front (take count before) left mid
    → CameAt count to n now mid rest → n ≡ 0 → length front ≡ ready → count ≤ length before → count < to
    → (s : Short ready to left rest) × (count ≡ ready + length s.came)
short_at_end front before now left mid rest ready count to n a came none len within more =
    let all = a.came ++ take n (drop count now) in
    let many : count ≡ ready + length all = omega (
      arith,
      count_came front (take count before) left mid a,
      len,
      none,
      within,
      length-take count before,
      length-append a.came (take n (drop count now)),
      length-take n (drop count now),
    ) in (
      record { came = all; consumed = Consumes-trans left mid rest a.came (take n (drop count now)) a.consumed came.consumed; short = omega (arith, many, more) },
      many,
    )

pub short_at_fault : (front before : List ℕ) (left mid rest : Option (List ℕ)) (ready count to : ℕ) → Added front (take count before) left mid
    → Keeps mid rest → length front ≡ ready → count ≤ length before → count < to → Short ready to left rest
short_at_fault front before left mid rest ready count to a kept len within more = record {
  came = a.came;
  consumed = Consumes-kept left mid rest a.came a.consumed kept;
  short = omega (arith, count_came front (take count before) left mid a, len, within, more, length-take count before);
}

abbrev all_short : (size whole ready : ℕ) (old : List ℕ) (left rest : Option (List ℕ)) → size ≤ length old → ready ≡ min whole (length old - size)
    → Short ready whole left rest → Short (length old) (size + whole) left rest
all_short size whole ready old left rest fits is s = record { came = s.came; consumed = s.consumed; short = omega (arith, s.short, fits, is) }

-- the fault of a body that wasn't filled, of which all that was held was ready
pub unfilled : (size whole ready : ℕ) (fault : HttpFault) (old : List ℕ) (left rest : Option (List ℕ)) → size ≤ length old → ready ≡ min whole (length old - size)
    → FillFault ready size whole fault left rest → BodyFault size whole fault old left rest
unfilled size whole ready (EndInside n) old left rest fits is (s, many, ended) = (all_short size whole ready old left rest fits is s, omega (arith, many, s.short, fits, is), ended)
unfilled size whole ready ReadFault old left rest fits is s = all_short size whole ready old left rest fits is s
unfilled size whole ready BadHead old left rest fits is no_fault = no_fault
unfilled size whole ready NoLength old left rest fits is no_fault = no_fault
unfilled size whole ready TooLarge old left rest fits is no_fault = no_fault
unfilled size whole ready AfterRefusal old left rest fits is no_fault = no_fault
unfilled size whole ready Memory old left rest fits is no_fault = absurd no_fault

-- what was filled, and what is still held
pub filled : (size whole ready : ℕ) (old front body : List ℕ) (left rest : Option (List ℕ)) → size ≤ length old → ready ≡ min whole (length old - size)
    → length front ≡ whole → length body ≡ whole → take ready front ≡ take ready (drop size old) → Filled ready whole (take ready front) body left rest
    → HasBody size whole body old (drop (size + ready) old) left rest
filled size whole ready old front body left rest fits is front_len len same f = record {
  came = f.came;
  consumed = f.consumed;
  len = len;
  split = by_order (cases_lt ready whole);
  wanted = by_room (cases_lt ready whole);
}
  where
    held : List ℕ
    held = drop size old

    body_is : body ≡ take ready held ++ f.came
    body_is = f.filled ∙ ap (λ l. l ++ f.came) same

    count : whole ≡ ready + length f.came
    count = omega (arith, ap length body_is, len, length-append (take ready held) f.came, length-take ready held, length-drop size old, is, fits)

    gone : ready < whole → drop (size + ready) old ≡ []
    gone short = nil_from_length _ (omega (arith, length-drop (size + ready) old, short, fits, is))

    by_room : (ready < whole) ⊎ (whole ≤ ready) → (f.came ≡ []) ⊎ ((drop (size + ready) old ≡ []) × (length old < size + whole))
    by_room (inl short) = inr (gone short, omega (arith, short, fits, is))
    by_room (inr enough) = inl (nil_from_length f.came (omega (arith, count, enough)))

    by_order : (ready < whole) ⊎ (whole ≤ ready) → held ++ f.came ≡ body ++ drop (size + ready) old
    by_order (inl short) =
        let all : length held ≤ ready = omega (arith, length-drop size old, is, short) in
        let none = gone short in
        ap (λ l. l ++ f.came) (sym (take_all ready held all)) ∙ sym body_is ∙ sym (append-nil body) ∙ ap (λ l. body ++ l) (sym none)
    by_order (inr enough) =
        let none : f.came ≡ [] = nil_from_length _ (omega (arith, count, enough)) in
        let front_is : body ≡ take ready held = body_is ∙ ap (λ l. take ready held ++ l) none ∙ append-nil (take ready held) in
        ap (λ l. held ++ l) none ∙ append-nil held ∙ sym (take-append-drop ready held) ∙ (λ i. sym front_is i ++ drop-drop ready size old i)

-- for the result of a call that hands its callee's on
pub unfilled_result : (size whole ready : ℕ) (r : Result (Unit {0}) HttpFault) (old : List ℕ) (left rest : Option (List ℕ)) → size ≤ length old → ready ≡ min whole (length old - size)
    → IfErr r (λ fault. FillFault ready size whole fault left rest) → IfErr r (λ fault. BodyFault size whole fault old left rest)
unfilled_result size whole ready (Ok u) old left rest fits is faults = tt
unfilled_result size whole ready (Err fault) old left rest fits is faults = unfilled size whole ready fault old left rest fits is faults

pub filled_result : (size whole ready : ℕ) (r : Result (Unit {0}) HttpFault) (old held front body : List ℕ) (left rest : Option (List ℕ)) → size ≤ length old → ready ≡ min whole (length old - size)
    → length front ≡ whole → length body ≡ whole → take ready front ≡ take ready (drop size old) → held ≡ drop (size + ready) old
    → OnOk r (Filled ready whole (take ready front) body left rest) → OnOk r (HasBody size whole body old held left rest)
filled_result size whole ready (Ok u) old held front body left rest fits is front_len len same rest_is f =
    subst (λ h. HasBody size whole body old h left rest) (sym rest_is) (filled size whole ready old front body left rest fits is front_len len same f)
filled_result size whole ready (Err fault) old held front body left rest fits is front_len len same rest_is f = tt

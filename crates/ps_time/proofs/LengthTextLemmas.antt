-- The text of a length is read again with its value.
use Rattle.std.proofs.Common.{◌≡◌, ℕ, zero, suc, ◌+◌, ◌*◌, ◌/◌, ◌%◌, ◌^◌, ◌<◌, ◌≤◌, true, false, cond, eqb, leb, List, [], ◌∷◌, ◌++◌, length, take, Option, Some, None, Ok, refl, ap, sym, ◌∙◌, arith, codes, append_assoc, le-leb, length-append, append-nil, lit<, ⊎_elim}
use Rattle.std.specs.Char.{is_ascii_digit}
use Rattle.std.specs.Fmt.{decimal}
use Rattle.std.specs.List.{prefix_len}
use Rattle.std.specs.Option.{unwrap_or}
use Rattle.std.specs.Str.{all_ascii_digits}
use Rattle.std.specs.Str.Parse.{digits_value}
use Rattle.std.proofs.Math.Seq.{take-append_seam, drop-append_seam}
use Rattle.std.proofs.lemmas.Bool.{cases_lt}
use Rattle.std.proofs.lemmas.Bool.Decides.{nat_tests}
use Rattle.std.proofs.lemmas.Fmt.{digits_decimal, digits_value-decimal, length-decimal-le, decimal_nonempty}
use Rattle.std.proofs.lemmas.Str.Parse.{IsNumeralModel, numerals_by_value, tells_all_ascii_digits}
use Rattle.ps_time.specs.declared.moment.TheConstants.{MAX_LENGTH}
use Rattle.ps_time.specs.Length.{count_at, seconds_at, days_at, clock_at, amount_of, length_of, count_text, clock_part, length_text_of}
use Rattle.ps_time.specs.Picture.{shows, begins_as, leading_number, fraction_at}
use Rattle.ps_time.proofs.PictureLemmas.{and_true}

own : IsNumeralModel (λ ds. all_ascii_digits ds ≡ true) (digits_value 10)
own = numerals_by_value _ tells_all_ascii_digits

-- digits, and something else after them, begin a text with just those digits
front_digits : (ds : List ℕ) (most c : ℕ) (rest : List ℕ) → all_ascii_digits ds ≡ true → is_ascii_digit c ≡ false → length ds ≤ most →
    prefix_len is_ascii_digit (take most (ds ++ c ∷ rest)) ≡ length ds
front_digits [] zero c rest digits other short = refl
front_digits [] (suc most) c rest digits other short = rw other refl
front_digits (d ∷ ds) zero c rest digits other short = absurd (omega arith)
front_digits (d ∷ ds) (suc most) c rest digits other short =
    let both = and_true (is_ascii_digit d) (all_ascii_digits ds) digits in
    rw (both.0, front_digits ds most c rest both.1 other (omega arith)) (omega arith)

-- a number that is written, and something else after it, is read
number_read : (n c : ℕ) (rest : List ℕ) → n < 10 ^ 9 → is_ascii_digit c ≡ false → leading_number (decimal n ++ c ∷ rest) ≡ Some (n, c ∷ rest)
unfolding leading_number
number_read n c rest small other =
    let fits : n < 2 ^ 64 = omega arith in
    let short = length-decimal-le 9 n (lit< tt) small fits in
    let some = decimal_nonempty n fits in
    let count = front_digits (decimal n) 9 c rest (digits_decimal own n fits) other short in
    let apart : eqb (length (decimal n)) 0 ≡ false = grind (arith, nat_tests) in
    rw (count, apart, take-append_seam (decimal n) (c ∷ rest), drop-append_seam (decimal n) (c ∷ rest), digits_value-decimal own n fits) refl

-- the text doesn't begin with a count of this designator
abbrev Lacks : ℕ → List ℕ → Type 0
Lacks designator bs = count_at designator bs ≡ (None, bs)

lacks_nothing : (designator : ℕ) → Lacks designator []
unfolding count_at leading_number
lacks_nothing designator = refl

lacks_letter : (designator c : ℕ) (rest : List ℕ) → is_ascii_digit c ≡ false → Lacks designator (c ∷ rest)
unfolding count_at leading_number
lacks_letter designator c rest other = rw other refl

-- nor with one behind a count of another
lacks_count : (designator n c : ℕ) (rest : List ℕ) → n < 10 ^ 9 → is_ascii_digit c ≡ false → begins_as (designator ∷ []) (c ∷ rest) ≡ false → Lacks designator rest →
    Lacks designator (count_text n c ++ rest)
unfolding count_at
lacks_count designator n c rest small other apart lacks =
    elim (eqb n 0) as (λ b. Lacks designator (cond b [] (decimal n ++ c ∷ []) ++ rest)) [
      | true ↦ lacks
      | false ↦ rw (append_assoc (decimal n) (c ∷ []) rest, number_read n c rest small other, apart) refl
    ]

-- a count as it is read
abbrev count_of : ℕ → Option ℕ
count_of n = cond (eqb n 0) None (Some n)

count_of_value : (n : ℕ) → unwrap_or (count_of n) 0 ≡ n
count_of_value n =
    elim (eqb n 0) as (λ b. eqb n 0 ≡ b → unwrap_or (cond b None (Some n)) 0 ≡ n) [
      | true ↦ λ is. let zero_count : n ≡ 0 = grind (arith, nat_tests) in sym zero_count
      | false ↦ λ is. refl
    ] refl

count_read : (n c : ℕ) (rest : List ℕ) → n < 10 ^ 9 → is_ascii_digit c ≡ false → begins_as (c ∷ []) (c ∷ rest) ≡ true → Lacks c rest →
    count_at c (count_text n c ++ rest) ≡ (count_of n, rest)
unfolding count_at
count_read n c rest small other same lacks =
    elim (eqb n 0) as (λ b. count_at c (cond b [] (decimal n ++ c ∷ []) ++ rest) ≡ (cond b None (Some n), rest)) [
      | true ↦ lacks
      | false ↦ rw (append_assoc (decimal n) (c ∷ []) rest, number_read n c rest small other, same) refl
    ]

-- the parts of a text, from those of its rests
days_from : (bs rest : List ℕ) (days : Option ℕ) → Lacks 89 bs → Lacks 77 bs → Lacks 87 bs → count_at 68 bs ≡ (days, rest) →
    days_at bs ≡ (false, unwrap_or days 0 * 86_400, rest)
unfolding days_at
days_from bs rest days years months weeks read = rw (years, months, weeks, read) (ap (λ n. (false, n, rest)) (omega arith))

seconds_from : (n : ℕ) (bs : List ℕ) → leading_number bs ≡ Some (n, 83 ∷ []) → seconds_at bs ≡ (n, 0, [])
unfolding seconds_at fraction_at begins_as
seconds_from n bs read = rw read refl

seconds_read : (n : ℕ) → n < 10 ^ 9 → seconds_at (count_text n 83) ≡ (n, 0, [])
unfolding seconds_at leading_number
seconds_read n small =
    elim (eqb n 0) as (λ b. eqb n 0 ≡ b → seconds_at (cond b [] (decimal n ++ 83 ∷ [])) ≡ (n, 0, [])) [
      | true ↦ λ is. let zero_count : n ≡ 0 = grind (arith, nat_tests) in rw zero_count refl
      | false ↦ λ is. seconds_from n (decimal n ++ 83 ∷ []) (number_read n 83 [] small refl)
    ] refl

clock_from : (bs minutes_on seconds_on : List ℕ) (hours minutes : Option ℕ) (seconds : ℕ) → count_at 72 bs ≡ (hours, minutes_on) →
    count_at 77 minutes_on ≡ (minutes, seconds_on) → seconds_at seconds_on ≡ (seconds, 0, []) →
    clock_at bs ≡ (unwrap_or hours 0 * 3_600 + unwrap_or minutes 0 * 60 + seconds, 0, [])
unfolding clock_at
clock_from bs minutes_on seconds_on hours minutes seconds first second third = rw (first, second, third) refl

amount_of_days : (bs : List ℕ) (days : ℕ) → 0 < length bs → days_at bs ≡ (false, days, []) → amount_of bs ≡ Some (record { calendar = false; seconds = days; fraction = 0 })
unfolding amount_of
amount_of_days bs days some read = let apart : eqb (length bs) 0 ≡ false = grind (arith, nat_tests) in
    rw (read, apart) refl

amount_of_clock : (bs rest : List ℕ) (days clock : ℕ) → 0 < length rest → days_at bs ≡ (false, days, 84 ∷ rest) → clock_at rest ≡ (clock, 0, []) →
    amount_of bs ≡ Some (record { calendar = false; seconds = days + clock; fraction = 0 })
unfolding amount_of
amount_of_clock bs rest days clock some read after =
    let long : eqb (suc (length rest)) 0 ≡ false = grind (arith, nat_tests) in
    let more : leb 2 (suc (length rest)) ≡ true = le-leb 2 (suc (length rest)) (omega arith) in
    rw (read, after, long, more) refl

length_from : (bs : List ℕ) (n : ℕ) → n ≤ MAX_LENGTH → amount_of bs ≡ Some (record { calendar = false; seconds = n; fraction = 0 }) → length_of (80 ∷ bs) ≡ Ok n
unfolding length_of
length_from bs n last read =
    let whole : n + 0 ≡ n = omega arith in
    let test : leb n MAX_LENGTH ≡ true = le-leb n MAX_LENGTH last in
    rw (read, whole, test) refl

other_letter : (a c : ℕ) (rest : List ℕ) → shows a c ≡ false → begins_as (a ∷ []) (c ∷ rest) ≡ false
unfolding begins_as
other_letter a c rest other = rw other refl

same_letter : (c : ℕ) (rest : List ℕ) → shows c c ≡ true → begins_as (c ∷ []) (c ∷ rest) ≡ true
unfolding begins_as
same_letter c rest same = rw same refl

-- the days of a text, before a clock that lacks them
days_read : (days : ℕ) (clock : List ℕ) → days < 10 ^ 9 → Lacks 89 clock → Lacks 77 clock → Lacks 87 clock → Lacks 68 clock →
    days_at (count_text days 68 ++ clock) ≡ (false, days * 86_400, clock)
days_read days clock small years months weeks own_count =
    days_from (count_text days 68 ++ clock) clock (count_of days)
    (lacks_count 89 days 68 clock small refl (other_letter 89 68 clock refl) years)
    (lacks_count 77 days 68 clock small refl (other_letter 77 68 clock refl) months)
    (lacks_count 87 days 68 clock small refl (other_letter 87 68 clock refl) weeks)
    (count_read days 68 clock small refl (same_letter 68 clock refl) own_count)
    ∙ ap (λ n. (false, n * 86_400, clock)) (count_of_value days)

-- and the clock
clock_read : (second : ℕ) → second < 86_400 →
    clock_at (count_text (second / 3_600) 72 ++ count_text (second % 3_600 / 60) 77 ++ count_text (second % 60) 83) ≡ (second, 0, [])
clock_read second small =
    let hours = second / 3_600 in
    let minutes = second % 3_600 / 60 in
    let seconds = second % 60 in
    let last = count_text seconds 83 in
    let middle = count_text minutes 77 ++ last in
    let lacks : (c : ℕ) → shows c 83 ≡ false → Lacks c last =
    λ c other. rw append-nil at (lacks_count c seconds 83 [] (omega arith) refl (other_letter c 83 [] other) (lacks_nothing c)) in
    let no_hours = lacks_count 72 minutes 77 last (omega arith) refl (other_letter 72 77 last refl) (lacks 72 refl) in
    let first = count_read hours 72 middle (omega arith) refl (same_letter 72 middle refl) no_hours in
    let second_part = count_read minutes 77 last (omega arith) refl (same_letter 77 last refl) (lacks 77 refl) in
    let read = clock_from (count_text hours 72 ++ middle) middle last (count_of hours) (count_of minutes) seconds first second_part (seconds_read seconds (omega arith)) in
    let whole : unwrap_or (count_of hours) 0 * 3_600 + unwrap_or (count_of minutes) 0 * 60 + seconds ≡ second =
    rw (count_of_value hours, count_of_value minutes) (omega arith) in
    ap clock_at (append_assoc (count_text hours 72) (count_text minutes 77) last) ∙ read ∙ ap (λ n. (n, 0, [])) whole

-- what isn't 0 is written by some byte
count_some : (n c : ℕ) → 0 < n → 0 < length (count_text n c)
count_some n c some = let apart : eqb n 0 ≡ false = grind (arith, nat_tests) in
    rw (apart, length-append) (omega arith)

clock_some : (second : ℕ) → 0 < second → second < 86_400 →
    0 < length (count_text (second / 3_600) 72 ++ count_text (second % 3_600 / 60) 77 ++ count_text (second % 60) 83)
clock_some second some small =
    let hours = second / 3_600 in
    let minutes = second % 3_600 / 60 in
    let seconds = second % 60 in
    rw (length-append (count_text hours 72 ++ count_text minutes 77) (count_text seconds 83), length-append (count_text hours 72) (count_text minutes 77))
    (⊎_elim (λ h. omega (arith, count_some hours 72 h))
    (λ no_hours. ⊎_elim (λ m. omega (arith, count_some minutes 77 m)) (λ no_minutes. omega (arith, count_some seconds 83 (omega arith))) (cases_lt 0 minutes))
    (cases_lt 0 hours))

some_read : (n : ℕ) → 0 < n → n ≤ MAX_LENGTH → length_of (80 ∷ (count_text (n / 86_400) 68 ++ clock_part (n % 86_400))) ≡ Ok n
some_read n some last =
    let days = n / 86_400 in
    let second = n % 86_400 in
    let rest = count_text (second / 3_600) 72 ++ count_text (second % 3_600 / 60) 77 ++ count_text (second % 60) 83 in
    elim (eqb second 0) as (λ b. eqb second 0 ≡ b → length_of (80 ∷ (count_text days 68 ++ cond b [] (84 ∷ rest))) ≡ Ok n) [
      | true ↦ λ is. let no_clock : second ≡ 0 = grind (arith, nat_tests) in
          let read = days_read days [] (omega arith) (lacks_nothing 89) (lacks_nothing 77) (lacks_nothing 87) (lacks_nothing 68) in
          let bytes : 0 < length (count_text days 68 ++ []) = rw append-nil (count_some days 68 (omega arith)) in
          length_from (count_text days 68 ++ []) (days * 86_400) (omega arith) (amount_of_days (count_text days 68 ++ []) (days * 86_400) bytes read) ∙ ap Ok (omega arith)
      | false ↦ λ is. let more : 0 < second = grind (arith, nat_tests) in
          let bs = count_text days 68 ++ 84 ∷ rest in
          let read = days_read days (84 ∷ rest) (omega arith) (lacks_letter 89 84 rest refl) (lacks_letter 77 84 rest refl) (lacks_letter 87 84 rest refl) (lacks_letter 68 84 rest refl) in
          let amount = amount_of_clock bs rest (days * 86_400) second (clock_some second more (omega arith)) read (clock_read second (omega arith)) in
          length_from bs (days * 86_400 + second) (omega arith) amount ∙ ap Ok (omega arith)
    ] refl

nothing_read : length_of (codes "PT0S") ≡ Ok 0
unfolding length_of days_at clock_at seconds_at count_at amount_of leading_number fraction_at begins_as
nothing_read = refl

pub length_text_read : (n : ℕ) → n ≤ MAX_LENGTH → length_of (length_text_of n) ≡ Ok n
unfolding length_text_of
length_text_read n last =
    elim (eqb n 0) as (λ b. eqb n 0 ≡ b → length_of (cond b (codes "PT0S") (80 ∷ (count_text (n / 86_400) 68 ++ clock_part (n % 86_400)))) ≡ Ok n) [
      | true ↦ λ is. let none : n ≡ 0 = grind (arith, nat_tests) in nothing_read ∙ ap Ok (sym none)
      | false ↦ λ is. let some : 0 < n = grind (arith, nat_tests) in some_read n some last
    ] refl

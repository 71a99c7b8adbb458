-- What a picture tells of a text that begins as it shows.
use Rattle.std.proofs.Common.{◌≡◌, ℕ, zero, suc, ◌+◌, ◌-◌, ◌<◌, ◌≤◌, Bool, true, false, ◌&&◌, List, [], ◌∷◌, length, get_or, take, drop, replicate, refl, ap, ◌∙◌, arith, drop-cons, add-one, lit≤, ◌*◌, ◌==◌}
use Rattle.std.specs.Char.{is_ascii_digit, digit_value}
use Rattle.std.specs.Int.{IsInRange}
use Rattle.std.specs.Str.{all_ascii_digits}
use Rattle.std.specs.Str.Parse.{digits_value}
use Rattle.std.proofs.lemmas.List.{drop_all}
use Rattle.std.proofs.lemmas.Bool.Decides.{nat_tests}
use Rattle.std.proofs.lemmas.Int.Digits.{digits_value_more}
use Rattle.std.proofs.lemmas.Str.Parse.{IsNumeralModel, numerals_by_value, tells_all_ascii_digits, digits_value_short, digits_value-take-le, digit_at}
use Rattle.ps_time.specs.Picture.{shows, begins_as, is_as}

pub and_true : (a b : Bool) → a && b ≡ true → (a ≡ true) × (b ≡ true)
and_true true b both = (refl, both)
and_true false b both = cc

-- a text is at least as long as the picture that it begins as
pub begins_as-long : (picture bs : List ℕ) → begins_as picture bs ≡ true → length picture ≤ length bs
unfolding begins_as
begins_as-long [] bs is = omega arith
begins_as-long (mark ∷ marks) [] is = cc
begins_as-long (mark ∷ marks) (b ∷ bs) is =
    elim (shows mark b) as (λ s. s && begins_as marks bs ≡ true → suc (length marks) ≤ suc (length bs)) [
      | true ↦ λ rest. omega (arith, begins_as-long marks bs rest)
      | false ↦ λ rest. cc
    ] is

pub begins_as-short : (picture bs : List ℕ) → length bs < length picture → begins_as picture bs ≡ false
begins_as-short picture bs short =
    elim (begins_as picture bs) as (λ v. begins_as picture bs ≡ v → v ≡ false) [
      | true ↦ λ is. absurd (omega (arith, begins_as-long picture bs is))
      | false ↦ λ is. refl
    ] refl

-- one mark more
pub begins_as-next : (picture bs : List ℕ) (i : ℕ) → i < length picture → i < length bs →
    begins_as (drop i picture) (drop i bs) ≡ shows (get_or picture i 0) (get_or bs i 0) && begins_as (drop (i + 1) picture) (drop (i + 1) bs)
unfolding begins_as
begins_as-next picture bs i inside here = rw (add-one, drop-cons picture i 0, drop-cons bs i 0) refl

pub begins_as-shown : (picture bs : List ℕ) (i : ℕ) → i < length picture → i < length bs → shows (get_or picture i 0) (get_or bs i 0) ≡ true →
    begins_as (drop i picture) (drop i bs) ≡ begins_as (drop (i + 1) picture) (drop (i + 1) bs)
begins_as-shown picture bs i inside here shown = begins_as-next picture bs i inside here ∙ ap (λ s. s && begins_as (drop (i + 1) picture) (drop (i + 1) bs)) shown

pub begins_as-not_shown : (picture bs : List ℕ) (i : ℕ) → i < length picture → i < length bs → shows (get_or picture i 0) (get_or bs i 0) ≡ false →
    begins_as (drop i picture) (drop i bs) ≡ false
begins_as-not_shown picture bs i inside here other = begins_as-next picture bs i inside here ∙ ap (λ s. s && begins_as (drop (i + 1) picture) (drop (i + 1) bs)) other

-- after the last
pub begins_as-end : (picture bs : List ℕ) (i : ℕ) → length picture ≤ i → begins_as (drop i picture) bs ≡ true
unfolding begins_as
begins_as-end picture bs i past = rw (drop_all i picture past) refl

-- digits stand where the picture has zeros
digits_in_front : (picture bs : List ℕ) (n : ℕ) → begins_as picture bs ≡ true → take n picture ≡ replicate n 48 → all_ascii_digits (take n bs) ≡ true
unfolding begins_as
digits_in_front picture bs zero is zeros = refl
digits_in_front [] bs (suc n) is zeros = cc
digits_in_front (mark ∷ marks) [] (suc n) is zeros = cc
digits_in_front (mark ∷ marks) (b ∷ bs) (suc n) is zeros =
    let zero_mark : mark ≡ 48 = cc in
    let more : take n marks ≡ replicate n 48 = cc in
    let both = and_true (shows mark b) (begins_as marks bs) is in
    let digit : is_ascii_digit b ≡ true = rw zero_mark at both.0 in
    rw digit (digits_in_front marks bs n both.1 more)

pub digits_shown : (picture bs : List ℕ) (i n : ℕ) → begins_as picture bs ≡ true → take n (drop i picture) ≡ replicate n 48 → all_ascii_digits (take n (drop i bs)) ≡ true
unfolding begins_as
digits_shown picture bs zero n is zeros = digits_in_front picture bs n is zeros
digits_shown [] bs (suc i) zero is zeros = refl
digits_shown [] bs (suc i) (suc n) is zeros = cc
digits_shown (mark ∷ marks) [] (suc i) n is zeros = cc
digits_shown (mark ∷ marks) (b ∷ bs) (suc i) n is zeros = digits_shown marks bs i n (and_true (shows mark b) (begins_as marks bs) is).1 zeros

-- the same where the whole text is as the picture shows
pub digits_shown_whole : (picture bs : List ℕ) (i n : ℕ) → is_as picture bs ≡ true → take n (drop i picture) ≡ replicate n 48 → all_ascii_digits (take n (drop i bs)) ≡ true
digits_shown_whole picture bs i n is zeros = digits_shown picture bs i n (and_true (length bs == length picture) (begins_as picture bs) is).1 zeros

own : IsNumeralModel (λ ds. all_ascii_digits ds ≡ true) (digits_value 10)
own = numerals_by_value _ tells_all_ascii_digits

digit_value-digit : (c : ℕ) → 48 ≤ c → c ≤ 57 → digit_value c ≡ c - 48
digit_value-digit c low high = grind (arith, nat_tests)

-- a step of a loop over at most nine digits
pub record ReadsDigit (ds : List ℕ) (i : ℕ) : Type 0 where
  pub small : digits_value 10 (take i ds) < 1_000_000_000
  pub low : 48 ≤ get_or ds i 0
  pub high : get_or ds i 0 ≤ 57
  pub more : digits_value 10 (take (i + 1) ds) ≡ digits_value 10 (take i ds) * 10 + (get_or ds i 0 - 48)

pub reads_digit : (ds : List ℕ) (i : ℕ) → all_ascii_digits ds ≡ true → length ds ≤ 9 → i < length ds → ReadsDigit ds i
reads_digit ds i digits short inside =
    let range : IsInRange 48 57 (get_or ds i 0) = digit_at ds i (own.to ds digits) inside in
    let value = digits_value_short own ds 9 digits short in
    record {
      small = omega (arith, value, digits_value-take-le 10 ds i (lit≤ tt));
      low = range.0;
      high = range.1;
      more = digits_value_more 10 ds i inside ∙ ap (λ d. digits_value 10 (take i ds) * 10 + d) (digit_value-digit _ range.0 range.1);
    }

pub number_bound : (ds : List ℕ) → all_ascii_digits ds ≡ true → length ds ≤ 9 → digits_value 10 ds < 1_000_000_000
number_bound ds digits short = digits_value_short own ds 9 digits short

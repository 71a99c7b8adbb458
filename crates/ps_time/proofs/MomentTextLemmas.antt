-- The text of a moment is read again with its value.
use Rattle.std.proofs.Common.{◌≡◌, ℕ, ◌+◌, ◌*◌, ◌/◌, ◌%◌, ◌<◌, ◌≤◌, true, false, List, [], ◌∷◌, ◌++◌, Some, Ok, pos, drop, refl, ap, sym, ◌∙◌, arith, codes, leb, le-leb}
use Rattle.std.specs.Char.{is_ascii_digit, digit_value}
use Rattle.std.specs.Str.Parse.{digits_value}
use Rattle.std.proofs.lemmas.Bool.Decides.{nat_tests}
use Rattle.std.proofs.lemmas.Int.{ints}
use Rattle.std.specs.Cmp.Derive.{both_true}
use Rattle.ps_time.specs.declared.moment.Round.{Round}
use Rattle.ps_time.specs.declared.moment.Round.TheVariants.{Up, Down}
use Rattle.ps_time.specs.declared.moment.TheConstants.{MAX_MOMENT}
use Rattle.ps_time.specs.declared.read_moment.Stamp.{Stamp}
use Rattle.ps_time.specs.Calendar.{is_date, day_of_date, date_of_day}
use Rattle.ps_time.specs.Moment.{seconds_at, offset_of, stamp_of, on_clock, utc_of, moment_at, moment_shown, moment_of, two_digits, date_text, clock_text, moment_text_of}
use Rattle.ps_time.specs.Picture.{shows, begins_as, fraction_at}
use Rattle.ps_time.proofs.CalendarLemmas.{HasDigits, date_of_day_digits, date_of_day_is}
use Rattle.ps_time.proofs.MomentLemmas.{stamp_from, shown_at}

digit : (n : ℕ) → n < 10 → is_ascii_digit (48 + n) ≡ true
digit n small = grind (arith, nat_tests)

value : (n : ℕ) → n < 10 → digit_value (48 + n) ≡ n
value n small = grind (arith, nat_tests)

-- two digits stand where a picture shows two
two_shown : (n : ℕ) (marks bs : List ℕ) → n < 100 → begins_as marks bs ≡ true → begins_as (48 ∷ 48 ∷ marks) (two_digits n ++ bs) ≡ true
unfolding begins_as
two_shown n marks bs small rest = rw (digit (n / 10) (omega arith), digit (n % 10) (omega arith)) rest

-- and write their number
two_value : (n : ℕ) → n < 100 → digits_value 10 (two_digits n) ≡ n
two_value n small = rw (value (n / 10) (omega arith), value (n % 10) (omega arith)) (omega arith)

four_value : (n : ℕ) → n < 10_000 → digits_value 10 (two_digits (n / 100) ++ two_digits (n % 100)) ≡ n
four_value n small =
    rw (value (n / 100 / 10) (omega arith), value (n / 100 % 10) (omega arith), value (n % 100 / 10) (omega arith), value (n % 100 % 10) (omega arith)) (omega arith)

-- the stamp of a date and a second of the day in UTC
abbrev written : ℕ × ℕ × ℕ → ℕ → Stamp
written date s = record {
  year = date.0;
  month = date.1;
  day = date.2;
  hour = s / 3_600;
  minute = s % 3_600 / 60;
  second = s % 60;
  fraction = 0;
  offset = record { behind = false; hours = 0; minutes = 0 };
}

tail_read : (n : ℕ) → n < 100 → (n, 0, 90 ∷ []) ≡ seconds_at (58 ∷ (two_digits n ++ 90 ∷ []))
unfolding seconds_at begins_as fraction_at
tail_read n small = rw (digit (n / 10) (omega arith), digit (n % 10) (omega arith), two_value n small) refl

zone_read : Some (record { behind = false; hours = 0; minutes = 0 }) ≡ offset_of (90 ∷ [])
unfolding offset_of begins_as
zone_read = refl

mark_shown : (mark : ℕ) (marks bs : List ℕ) → shows mark mark ≡ true → begins_as marks bs ≡ true → begins_as (mark ∷ marks) (mark ∷ bs) ≡ true
unfolding begins_as
mark_shown mark marks bs same rest = rw same rest

nothing_shown : (bs : List ℕ) → begins_as [] bs ≡ true
unfolding begins_as
nothing_shown bs = refl

text_read : (date : ℕ × ℕ × ℕ) (s : ℕ) → HasDigits date → s < 86_400 → Some (written date s) ≡ stamp_of (date_text date ++ codes "T" ++ clock_text s ++ codes "Z")
text_read date s digits small =
    let bs = date_text date ++ codes "T" ++ clock_text s ++ codes "Z" in
    let time = two_shown (s / 3_600) _ _ (omega arith) (mark_shown 58 _ _ refl (two_shown (s % 3_600 / 60) _ _ (omega arith) (nothing_shown (drop 16 bs)))) in
    let form : begins_as (codes "0000-00-00T00:00") bs ≡ true =
    two_shown (date.0 / 100) _ _ (omega arith) (two_shown (date.0 % 100) _ _ (omega arith) (mark_shown 45 _ _ refl
    (two_shown date.1 _ _ (omega arith) (mark_shown 45 _ _ refl (two_shown date.2 _ _ (omega arith) (mark_shown 84 _ _ refl time)))))) in
    let shown = stamp_from bs (s % 60, 0, 90 ∷ []) (record { behind = false; hours = 0; minutes = 0 }) form (tail_read (s % 60) (omega arith)) zone_read in
    rw (four_value date.0 (omega arith), two_value date.1 (omega arith), two_value date.2 (omega arith), two_value (s / 3_600) (omega arith), two_value (s % 3_600 / 60) (omega arith)) at shown

-- such a stamp is of a day and a time that exist
dated : (n : ℕ) → n ≤ 47_482 → day_of_date (date_of_day n).0 (date_of_day n).1 (date_of_day n).2 ≡ Some (pos n)
dated n few =
    let date = date_of_day n in
    let is = date_of_day_is n few in
    let tests : is_date date.0 date.1 date.2 ≡ true =
    both_true (le-leb _ _ (omega (arith, is.to))) (both_true (le-leb _ _ is.month_from) (both_true (le-leb _ _ is.month_to) (both_true (le-leb _ _ is.day_from) (le-leb _ _ is.day_to)))) in
    rw (tests, is.number) refl

timed : (date : ℕ × ℕ × ℕ) (s : ℕ) → s < 86_400 → on_clock (written date s) ≡ true
timed date s small =
    both_true (le-leb (s / 3_600) 23 (omega arith)) (both_true (le-leb (s % 3_600 / 60) 59 (omega arith)) (both_true (le-leb (s % 60) 59 (omega arith)) refl))

-- and shows its second
counted : (round : Round) (date : ℕ × ℕ × ℕ) (n s : ℕ) → utc_of (pos n) round (written date s) ≡ pos (n * 86_400 + s)
counted Up date n s = omega (arith, ints)
counted Down date n s = omega (arith, ints)

in_time : (n : ℕ) → n ≤ MAX_MOMENT → moment_at (pos n) ≡ Ok n
in_time n last = let test : leb n MAX_MOMENT ≡ true = le-leb _ _ last in rw test refl

second_shown : (round : Round) (n s : ℕ) → n ≤ 47_482 → s < 86_400 → n * 86_400 + s ≤ MAX_MOMENT → moment_shown round (Some (written (date_of_day n) s)) ≡ Ok (n * 86_400 + s)
second_shown round n s few small last =
    let date = date_of_day n in
    shown_at round (written date s) (pos n) (dated n few) (timed date s small) ∙ ap moment_at (counted round date n s) ∙ in_time (n * 86_400 + s) last

pub moment_text_read : (round : Round) (m : ℕ) → m ≤ MAX_MOMENT → moment_of round (moment_text_of m) ≡ Ok m
unfolding moment_of moment_text_of
moment_text_read round m last =
    let n = m / 86_400 in
    let s = m % 86_400 in
    let shown = text_read (date_of_day n) s (date_of_day_digits n (omega arith)) (omega arith) in
    let whole : n * 86_400 + s ≡ m = omega arith in
    let second = second_shown round n s (omega arith) (omega arith) (omega arith) in
    ap (moment_shown round) (sym shown) ∙ second ∙ ap Ok whole

-- Plain texts: JSON has them as they are, and names and lengths are plain.
use Rattle.std.proofs.Common.{◌≡◌, ℕ, ◌+◌, ◌/◌, ◌%◌, ◌<◌, ◌≤◌, ◌^◌, ◌==◌, nat_le, Bool, true, false, cond, List, [], ◌∷◌, ◌++◌, refl, ap, arith, codes, decimal}
use Rattle.std.specs.Cmp.Derive.{both_true}
use Rattle.std.specs.List.{list_all}
use Rattle.std.proofs.lemmas.Bool.Decides.{nat_tests}
use Rattle.std.proofs.lemmas.Fmt.{decimal_by_steps}
use Rattle.json.specs.Print.{escape, escape_byte}
use Rattle.json.proofs.Printed.Strings.{escape_byte_plain}
use Rattle.ps_time.specs.Length.{clock_part, count_text, length_text_of}
use Rattle.ps_time.specs.Name.{is_name, is_name_byte, is_name_start}
use Rattle.ps_time.specs.Numbers.{greatest_length}
use Rattle.ps_time.proofs.PictureLemmas.{and_true}
use Rattle.plugin_text.specs.Plain.{is_plain, is_plain_byte}

byte_plain : (x : ℕ) → is_plain_byte x ≡ true → escape_byte x ≡ x ∷ []
byte_plain x is = escape_byte_plain x (λ e. grind (arith, nat_tests)) (λ e. grind (arith, nat_tests)) (grind (arith, nat_tests))

pub escape_plain : (bs : List ℕ) → is_plain bs ≡ true → escape bs ≡ bs
escape_plain [] is = refl
escape_plain (x ∷ xs) is =
    let both = and_true (is_plain_byte x) (is_plain xs) is in rw (byte_plain x both.0) (ap (λ l. x ∷ l) (escape_plain xs both.1))

plain_append : (xs ys : List ℕ) → is_plain xs ≡ true → is_plain ys ≡ true → is_plain (xs ++ ys) ≡ true
plain_append [] ys first later = later
plain_append (x ∷ xs) ys first later =
    let both = and_true (is_plain_byte x) (is_plain xs) first in both_true both.0 (plain_append xs ys both.1 later)

-- ---- names
start_plain : (x : ℕ) → is_name_start x ≡ true → is_plain_byte x ≡ true
start_plain x is = grind (arith, nat_tests)

in_name_plain : (x : ℕ) → is_name_byte x ≡ true → is_plain_byte x ≡ true
in_name_plain x is = grind (arith, nat_tests)

rest_plain : (bs : List ℕ) → list_all is_name_byte bs ≡ true → is_plain bs ≡ true
rest_plain [] is = refl
rest_plain (x ∷ xs) is = let both = and_true (is_name_byte x) (list_all is_name_byte xs) is in both_true (in_name_plain x both.0) (rest_plain xs both.1)

pub name_plain : (bs : List ℕ) → is_name bs ≡ true → is_plain bs ≡ true
name_plain [] is = cc
name_plain (x ∷ xs) is =
    let first = and_true (is_name_start x) _ is in
    let rest = and_true (nat_le _ 62) (list_all is_name_byte xs) first.1 in
    both_true (start_plain x first.0) (rest_plain xs rest.1)

-- ---- lengths
digit_plain : (d : ℕ) → d < 10 → is_plain ((48 + d) ∷ []) ≡ true
digit_plain d small = grind (arith, nat_tests)

decimal_plain : (n : ℕ) → n < 2 ^ 64 → is_plain (decimal n) ≡ true
decimal_plain = decimal_by_steps (λ n ds. is_plain ds ≡ true) digit_plain (λ n ds large is. plain_append ds ((48 + n % 10) ∷ []) is (digit_plain (n % 10) (omega arith)))

count_plain : (n designator : ℕ) → n < 2 ^ 64 → is_plain (designator ∷ []) ≡ true → is_plain (count_text n designator) ≡ true
count_plain n designator small mark = by_test (n == 0)
  where
    by_test : (b : Bool) → is_plain (cond b [] (decimal n ++ designator ∷ [])) ≡ true
    by_test true = refl
    by_test false = plain_append (decimal n) (designator ∷ []) (decimal_plain n small) mark

clock_plain : (second : ℕ) → second < 86_400 → is_plain (clock_part second) ≡ true
clock_plain second small = by_test (second == 0)
  where
    hours : List ℕ
    hours = count_text (second / 3_600) 72

    minutes : List ℕ
    minutes = count_text (second % 3_600 / 60) 77

    seconds : List ℕ
    seconds = count_text (second % 60) 83

    by_test : (b : Bool) → is_plain (cond b [] (codes "T" ++ hours ++ minutes ++ seconds)) ≡ true
    by_test true = refl
    by_test false =
        plain_append (codes "T" ++ hours ++ minutes) seconds
        (plain_append (codes "T" ++ hours) minutes
        (plain_append (codes "T") hours refl (count_plain (second / 3_600) 72 (omega arith) refl))
        (count_plain (second % 3_600 / 60) 77 (omega arith) refl))
        (count_plain (second % 60) 83 (omega arith) refl)

pub length_plain : (n : ℕ) → n ≤ greatest_length → is_plain (length_text_of n) ≡ true
unfolding length_text_of
length_plain n within = by_test (n == 0)
  where
    by_test : (b : Bool) → is_plain (cond b (codes "PT0S") (codes "P" ++ count_text (n / 86_400) 68 ++ clock_part (n % 86_400))) ≡ true
    by_test true = refl
    by_test false =
        plain_append (codes "P" ++ count_text (n / 86_400) 68) (clock_part (n % 86_400))
        (plain_append (codes "P") (count_text (n / 86_400) 68) refl (count_plain (n / 86_400) 68 (omega arith) refl))
        (clock_plain (n % 86_400) (omega arith))

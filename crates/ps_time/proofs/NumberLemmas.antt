-- What `parse` gives of a text of digits.
use Rattle.std.proofs.Common.{◌≡◌, ◌∙◌, ℕ, ◌<◌, ◌≤◌, ◌^◌, ◌&&◌, nat_le, true, cond, ap, List, length, Result, Ok, Some, None, arith}
use Rattle.std.specs.Fmt.{decimal}
use Rattle.std.proofs.lemmas.Fmt.{digits_decimal, digits_value-decimal}
use Rattle.std.specs.Result.{result_ok}
use Rattle.std.specs.Str.{all_ascii_digits}
use Rattle.std.specs.Str.Parse.{digits_value, ParsesUnsigned}
use Rattle.std.proofs.lemmas.Str.Parse.{IsNumeralModel, numerals_by_value, tells_all_ascii_digits, parse_gives, digits_value_short}
use Rattle.std.proofs.lemmas.Bool.Decides.{nat_tests}
use Rattle.ps_time.specs.Number.{decimal_of}

own : IsNumeralModel (λ ds. all_ascii_digits ds ≡ true) (digits_value 10)
own = numerals_by_value _ tells_all_ascii_digits

pub decimal_read : {E : Type 0} (least most : ℕ) (bs : List ℕ) (r : Result ℕ E) → ParsesUnsigned 64 10 bs r → all_ascii_digits bs ≡ true → 1 ≤ least → most ≤ 19 → least ≤ length bs → length bs ≤ most → result_ok r ≡ decimal_of least most bs
decimal_read least most bs r parses digits some fits long short =
    let small = digits_value_short own bs 19 digits (omega arith) in
    let value : r ≡ Ok (digits_value 10 bs) = parse_gives own 64 bs r parses digits (omega arith) (omega (arith, small)) in
    rw value (grind (arith, nat_tests))

-- the digits of a number are read again
pub decimal_of-decimal : (least most n : ℕ) → n < 2 ^ 64 → least ≤ length (decimal n) → length (decimal n) ≤ most → decimal_of least most (decimal n) ≡ Some n
decimal_of-decimal least most n small long short =
    let digits : all_ascii_digits (decimal n) ≡ true = digits_decimal own n small in
    let passes : (nat_le least (length (decimal n)) && (nat_le (length (decimal n)) most && all_ascii_digits (decimal n))) ≡ true = grind (arith, nat_tests) in
    ap (λ b. cond b (Some (digits_value 10 (decimal n))) None) passes ∙ ap Some (digits_value-decimal own n small)

-- What a hole of two or four places writes, and what reads it.
use Rattle.std.proofs.Common.{◌≡◌, ℕ, ◌/◌, ◌%◌, ◌<◌, ◌≤◌, false, [], refl, arith, ⊎_elim}
use Rattle.std.specs.Fmt.{decimal, format_spec, padded_integral, styled_decimal, char_count}
use Rattle.std.proofs.lemmas.Fmt.{decimal_digit, decimal_step}
use Rattle.std.proofs.lemmas.Bool.{cases_lt}
use Rattle.ps_time.specs.Moment.{two_digits, four_digits}

decimal_two : (n : ℕ) → 10 ≤ n → n < 100 → decimal n ≡ two_digits n
decimal_two n large small = rw (decimal_step n large (omega arith), decimal_digit (n / 10) (omega arith)) refl

padded_two : (n : ℕ) → n < 100 → padded_integral (format_spec 32 0 4 2 18446744073709551615) false [] (decimal n) ≡ two_digits n
unfolding padded_integral char_count
padded_two n small = ⊎_elim
    (λ one. let high : n / 10 ≡ 0 = omega arith in let low : n % 10 ≡ n = omega arith in rw (decimal_digit n one, high, low) refl)
    (λ two. rw (decimal_two n two small) refl)
    (cases_lt n 10)

pub styled_two : (n : ℕ) → n < 100 → styled_decimal (format_spec 32 0 4 2 18446744073709551615) n ≡ two_digits n
styled_two n small = padded_two n small

decimal_four : (n : ℕ) → 1000 ≤ n → n < 10000 → decimal n ≡ four_digits n
decimal_four n large small =
    let tens = n / 10 in
    let hundreds = tens / 10 in
    let first = decimal_digit (hundreds / 10) (omega arith) in
    let second = decimal_step hundreds (omega arith) (omega arith) in
    let third = decimal_step tens (omega arith) (omega arith) in
    let fourth = decimal_step n (omega arith) (omega arith) in
    let a : n / 100 / 10 ≡ hundreds / 10 = omega arith in
    let b : n / 100 % 10 ≡ hundreds % 10 = omega arith in
    let c : n % 100 / 10 ≡ tens % 10 = omega arith in
    let d : n % 100 % 10 ≡ n % 10 = omega arith in
    rw (fourth, third, second, first, a, b, c, d) refl

pub styled_four : (n : ℕ) → 1000 ≤ n → n < 10000 → styled_decimal (format_spec 32 0 4 4 18446744073709551615) n ≡ four_digits n
unfolding padded_integral char_count
styled_four n large small = rw (decimal_four n large small) refl

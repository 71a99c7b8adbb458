-- The text of a moment is read as a start.
use Rattle.std.proofs.Common.{◌≡◌, ℕ, ◌==◌, List, [], ◌∷◌, true, false, slice_index, Ok, refl, arith}
use Rattle.std.proofs.lemmas.Bool.Decides.{nat_tests}
use Rattle.std.specs.Char.{is_ascii_digit}
use Rattle.ps_time.specs.Moment.{moment_of, stamp_of}
use Rattle.ps_time.specs.Picture.{begins_as}
use Rattle.ps_time.specs.Start.{start_of}
use Rattle.ps_time.specs.declared.moment.Round.TheVariants.{Up}

-- the text of a moment begins with a digit
digit_first : (bs : List ℕ) (m : ℕ) → moment_of Up bs ≡ Ok m → is_ascii_digit (slice_index bs 0) ≡ true
unfolding moment_of stamp_of begins_as
digit_first [] m is = cc
digit_first (b ∷ bs) m is =
    elim (is_ascii_digit b) as (λ d. is_ascii_digit b ≡ d → is_ascii_digit b ≡ true) [
      | true ↦ λ yes. yes
      | false ↦ λ no. let wrong = rw no at is in cc
    ] refl

pub start_read : (now : ℕ) (bs : List ℕ) (m : ℕ) → moment_of Up bs ≡ Ok m → start_of now bs ≡ Ok m
unfolding start_of
start_read now bs m is =
    let digit = digit_first bs m is in
    let no_multiple : (slice_index bs 0 == 64) ≡ false = grind (arith, nat_tests) in
    let no_length : (slice_index bs 0 == 80) ≡ false = grind (arith, nat_tests) in
    rw (no_multiple, no_length) is

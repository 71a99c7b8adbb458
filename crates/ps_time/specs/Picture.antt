-- Pictures of texts, as ISO 8601 shows its formats, and numbers in them.
use Rattle.std.specs.Prelude.{ℕ, ◌+◌, Bool, true, false, ◌&&◌, ◌||◌, ◌==◌, List, [], ◌∷◌, length, take, drop, Option, Some, None, if◌then◌else◌, codes}
use Rattle.std.specs.Char.{is_ascii_digit}
use Rattle.std.specs.List.{prefix_len}
use Rattle.std.specs.Option.{unwrap_or}
use Rattle.std.specs.Str.Parse.{digits_value}

-- whether a mark of a picture shows the byte: 0 (code 48) shows any digit, T (84) and Z (90) also the small letter,
-- + (43) also - (45), and any other mark itself
abbrev pub shows : ℕ → ℕ → Bool
shows mark b =
    if mark == 48 then is_ascii_digit b
    else if mark == 84 || mark == 90 then b == mark || b == mark + 32
    else if mark == 43 then b == 43 || b == 45
    else b == mark

-- the text begins as the picture shows
unfoldable pub begins_as : List ℕ → List ℕ → Bool
begins_as [] bs = true
begins_as (mark ∷ marks) [] = false
begins_as (mark ∷ marks) (b ∷ bs) = shows mark b && begins_as marks bs

-- the whole text is as the picture shows
abbrev pub is_as : List ℕ → List ℕ → Bool
is_as picture bs = length bs == length picture && begins_as picture bs

-- the number that n digits write from place i on
abbrev pub number_at : ℕ → ℕ → List ℕ → ℕ
number_at i n bs = digits_value 10 (take n (drop i bs))

-- how many digits the text begins with; after nine no more are counted
abbrev pub leading_digits : List ℕ → ℕ
leading_digits bs = prefix_len is_ascii_digit (take 9 bs)

-- the number that the text begins with, of one to nine digits, and what follows it
unfoldable pub leading_number : List ℕ → Option (ℕ × List ℕ)
leading_number bs =
    if leading_digits bs == 0 then None
    else Some (digits_value 10 (take (leading_digits bs) bs), drop (leading_digits bs) bs)

-- the digits of a decimal fraction that the text begins with, as a number, and what follows them; 0 without one
unfoldable pub fraction_at : List ℕ → ℕ × List ℕ
fraction_at bs =
    if begins_as (codes ".") bs || begins_as (codes ",") bs then unwrap_or (leading_number (drop 1 bs)) (0, bs)
    else (0, bs)

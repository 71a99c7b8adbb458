-- What a hole of eight places writes.
use Rattle.std.proofs.Common.{◌≡◌, ℕ, ◌-◌, List, [], ◌++◌, length, codes, false, append-nil, refl, ap, ◌∙◌, arith}
use Rattle.std.specs.Char.{encode_utf8}
use Rattle.std.specs.Fmt.{decimal, format_spec, padded_integral, styled_decimal, char_count}
use Rattle.std.specs.List.{repeat}
use Rattle.result_table.specs.Tally.{right_in_eight}

shape : (p q : ℕ) (blank d : List ℕ) → q ≡ 0 → (repeat p blank ++ [] ++ [] ++ []) ++ (d ++ repeat q blank) ≡ repeat p blank ++ d
shape p q blank d none = rw (none, append-nil (repeat p blank), append-nil (repeat p blank), append-nil (repeat p blank), append-nil d) refl

padded : (d : List ℕ) → padded_integral (format_spec 32 0 0 8 18446744073709551615) false [] d ≡ repeat (8 - length d) (codes " ") ++ d
unfolding padded_integral char_count encode_utf8
padded d =
    let p : 8 - length d - 0 - 0 ≡ 8 - length d = omega arith in
    shape (8 - length d - 0 - 0) (8 - length d - 0 - 0 - (8 - length d - 0 - 0)) (codes " ") d (omega arith) ∙ ap (λ n. repeat n (codes " ") ++ d) p

pub styled_eight : (n : ℕ) → styled_decimal (format_spec 32 0 0 8 18446744073709551615) n ≡ right_in_eight n
styled_eight n = padded (decimal n)

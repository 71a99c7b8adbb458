-- The bytes at the front of a buffer, as more are read behind them and as the first are let go.
use Rattle.std.proofs.Common.{◌≡◌, ◌≤◌, ◌+◌, ◌-◌, ℕ, List, length, take, drop, sym, ap, ◌∙◌, arith, length-drop}
use Rattle.std.specs.List.{copy_within}
use Rattle.std.proofs.lemmas.List.{drop-take}
use Rattle.std.proofs.lemmas.List.Edits.{take-paste}

-- the bytes behind n, moved to the front
pub moved : (n c : ℕ) (xs : List ℕ) → n ≤ c → c ≤ length xs → take (c - n) (copy_within xs n c 0) ≡ drop n (take c xs)
moved n c xs some fits =
    let front : take (0 + (c - n)) (copy_within xs n c 0) ≡ take (c - n) (drop n xs) = take-paste xs 0 (drop n xs) (c - n) (omega arith) (omega (arith, length-drop n xs)) in
    let none : c - n ≡ 0 + (c - n) = omega arith in
    let all : n + (c - n) ≡ c = omega arith in
    ap (λ m. take m (copy_within xs n c 0)) none ∙ front ∙ sym (drop-take n (c - n) xs) ∙ ap (λ m. drop n (take m xs)) all

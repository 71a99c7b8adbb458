-- Records of bytes, joined.
use Rattle.std.proofs.Common.{◌≡◌, ◌≤◌, List, [], ◌∷◌, ◌++◌, ℕ, length, refl, ap, arith, ◌∙◌}
use Rattle.machine_keep_tests.specs.Gathered.{Gathered, Holds, front_of, joined, room_in}

nothing_more : (bytes : List ℕ) → bytes ++ [] ≡ bytes
nothing_more [] = refl
nothing_more (b ∷ bs) = ap (λ rest. b ∷ rest) (nothing_more bs)

pub apart : (one two three : List ℕ) → one ++ (two ++ three) ≡ (one ++ two) ++ three
apart [] two three = refl
apart (b ∷ bs) two three = ap (λ rest. b ∷ rest) (apart bs two three)

pub alone : (s : Gathered) → Holds 2 ((2 ∷ s.bytes) ∷ []) s.bytes
alone s = (refl, nothing_more s.bytes)

more : (list : List (List ℕ)) (bytes : List ℕ) → joined (list ++ bytes ∷ []) ≡ joined list ++ bytes
more [] bytes = nothing_more bytes
more (item ∷ items) bytes = ap (λ rest. item ++ rest) (more items bytes) ∙ apart item (joined items) bytes

pub with_record : (list : List (List ℕ)) (bytes chunk : List ℕ) → Holds 2 list bytes → Holds 2 (list ++ chunk ∷ []) (bytes ++ chunk)
with_record [] bytes chunk is = absurd is
with_record (snapshot ∷ records) bytes chunk is =
    (is.0, ap (λ rest. front_of snapshot ++ rest) (more records chunk) ∙ (apart (front_of snapshot) (joined records) chunk ∙ ap (λ all. all ++ chunk) is.1))

pub with_most : (most : ℕ) (s : Gathered) (chunk : List ℕ) → s.most ≤ most → length chunk ≤ room_in s → length chunk ≤ room_in (record { bytes = s.bytes; most = most })
with_most most s chunk more can = omega (arith, more, can)

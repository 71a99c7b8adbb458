-- Identifiers of runs are ordered as their keys.
use Rattle.std.proofs.Common.{◌≡◌, ℕ, zero, suc, ◌+◌, ◌*◌, ◌/◌, ◌%◌, ◌^◌, ◌<◌, ◌≤◌, Bool, true, false, List, [], ◌∷◌, ◌++◌, length, if◌then◌else◌, inl, inr, refl, sym, ◌∙◌, arith}
use Rattle.std.proofs.lemmas.Bool.Decides.{nat_tests}
use Rattle.std.proofs.lemmas.Bool.{cases_lt}
use Rattle.std.proofs.lemmas.Nat.{mul-le}
use Rattle.std.specs.Cmp.Lexicographic.{slice_cmp}
use Rattle.std.specs.Int.{w128, to_be_bytes, from_be_bytes}
use Rattle.std.specs.Ordering.{nat_cmp, ordering_then}
use Rattle.std.specs.declared.cmp.Ordering.{Ordering}
use Rattle.std.specs.declared.cmp.Ordering.TheVariants.{Less, Equal, Greater}
use Rattle.uuid.specs.Text.{by_index, hex_digit, nibble, digit_place, is_hyphen_place, hyphen, lower}
use Rattle.uuid.proofs.TextLemmas.{by_index_length, nibble_small}
use Rattle.uuid.proofs.OrderLemmas.{from_be_bytes-to_be_bytes_16}
use Rattle.ps_time.specs.declared.id.Id.TheVariants.{Run}
use Rattle.ps_time.specs.declared.key.RunKey.{RunKey}
use Rattle.ps_time.specs.Id.{uuid_of, id_text, InRange, OrderedAsKeys}
use Rattle.ps_time.specs.Key.{key_cmp}

-- ---- numbers

below_is : (x y : ℕ) → x < y → nat_cmp x y ≡ Less
below_is x y h = grind (arith, nat_tests)

same_is : (x : ℕ) → nat_cmp x x ≡ Equal
same_is x = grind (arith, nat_tests)

above_is : (x y : ℕ) → y < x → nat_cmp x y ≡ Greater
above_is x y h = grind (arith, nat_tests)

-- two numbers of two digits are ordered by the higher one first
parts_cmp : (m p q x y : ℕ) → x < m → y < m → nat_cmp (p * m + x) (q * m + y) ≡ ordering_then (nat_cmp p q) (nat_cmp x y)
parts_cmp m p q x y hx hy =
    elim (cases_lt p q) [
      | inl less ↦
          let room : (p + 1) * m ≤ q * m = mul-le (p + 1) m q m (omega arith) (omega arith) in
          rw (below_is p q less) (below_is (p * m + x) (q * m + y) (omega (arith, room)))
      | inr back ↦ elim (cases_lt q p) [
        | inl greater ↦
            let room : (q + 1) * m ≤ p * m = mul-le (q + 1) m p m (omega arith) (omega arith) in
            rw (above_is p q greater) (above_is (p * m + x) (q * m + y) (omega (arith, room)))
        | inr on ↦
            let same : p ≡ q = omega arith in
            rw (same, same_is q) (behind (q * m) x y)
      ]
    ]
  where
    behind : (k x y : ℕ) → nat_cmp (k + x) (k + y) ≡ nat_cmp x y
    behind k x y = grind (arith, nat_tests)

shifted : (k x y : ℕ) → nat_cmp (k + x) (k + y) ≡ nat_cmp x y
shifted k x y = grind (arith, nat_tests)

then_grouped : (a b c : Ordering) → ordering_then (ordering_then a b) c ≡ ordering_then a (ordering_then b c)
then_grouped Less b c = refl
then_grouped Equal b c = refl
then_grouped Greater b c = refl

pub numbers_ordered : (a b : RunKey) → InRange (Run a) → InRange (Run b) → nat_cmp (uuid_of (Run a)) (uuid_of (Run b)) ≡ key_cmp a b
numbers_ordered a b ra rb =
    let low = parts_cmp (2 ^ 16) a.number b.number a.attempt b.attempt (omega (arith, ra)) (omega (arith, rb)) in
    let high = parts_cmp (2 ^ 32) a.lead b.lead a.task b.task (omega (arith, ra)) (omega (arith, rb)) in
    let all = parts_cmp (2 ^ 80) (a.lead * 2 ^ 32 + a.task) (b.lead * 2 ^ 32 + b.task)
    ((8 * 2 ^ 12 + 1) * 2 ^ 64 + 2 * 2 ^ 62 + (a.number * 2 ^ 16 + a.attempt)) ((8 * 2 ^ 12 + 1) * 2 ^ 64 + 2 * 2 ^ 62 + (b.number * 2 ^ 16 + b.attempt)) (omega (arith, ra)) (omega (arith, rb)) in
    let ia : uuid_of (Run a) ≡ (a.lead * 2 ^ 32 + a.task) * 2 ^ 80 + ((8 * 2 ^ 12 + 1) * 2 ^ 64 + 2 * 2 ^ 62 + (a.number * 2 ^ 16 + a.attempt)) = omega arith in
    let ib : uuid_of (Run b) ≡ (b.lead * 2 ^ 32 + b.task) * 2 ^ 80 + ((8 * 2 ^ 12 + 1) * 2 ^ 64 + 2 * 2 ^ 62 + (b.number * 2 ^ 16 + b.attempt)) = omega arith in
    rw (ia, ib) (all ∙ rw (high, shifted ((8 * 2 ^ 12 + 1) * 2 ^ 64 + 2 * 2 ^ 62) (a.number * 2 ^ 16 + a.attempt) (b.number * 2 ^ 16 + b.attempt), low) (then_grouped (nat_cmp a.lead b.lead) (nat_cmp a.task b.task) _))

-- ---- texts

-- lists of one length are ordered as their fronts, and then as their ends
cmp_append : (xs ys us vs : List ℕ) → length xs ≡ length ys → slice_cmp nat_cmp (xs ++ us) (ys ++ vs) ≡ ordering_then (slice_cmp nat_cmp xs ys) (slice_cmp nat_cmp us vs)
cmp_append [] [] us vs len = refl
cmp_append [] (y ∷ ys) us vs len = absurd (omega arith)
cmp_append (x ∷ xs) [] us vs len = absurd (omega arith)
cmp_append (x ∷ xs) (y ∷ ys) us vs len = rw (cmp_append xs ys us vs (omega arith)) (sym (then_grouped (nat_cmp x y) _ _))

-- a digit is ordered as what it stands for
digit_cmp : (x y : ℕ) → x < 16 → y < 16 → nat_cmp (hex_digit lower x) (hex_digit lower y) ≡ nat_cmp x y
digit_cmp x y hx hy = grind (arith, nat_tests)

then_nothing : (o : Ordering) → ordering_then o Equal ≡ o
then_nothing Less = refl
then_nothing Equal = refl
then_nothing Greater = refl

-- what stands at a place of the hyphenated text
abbrev place : List ℕ → ℕ → ℕ
place xs k = if is_hyphen_place k then hyphen else hex_digit lower (nibble xs (digit_place k))

-- the number that the digits before a place write
unfoldable front : List ℕ → ℕ → ℕ
front xs zero = 0
front xs (suc k) = if is_hyphen_place k then front xs k else front xs k * 16 + nibble xs (digit_place k)

one_more : (xs ys : List ℕ) (k : ℕ) (dash : Bool) → (us vs : List ℕ) (p q : ℕ) → length us ≡ length vs → slice_cmp nat_cmp us vs ≡ nat_cmp p q
    → slice_cmp nat_cmp (us ++ (if dash then hyphen else hex_digit lower (nibble xs k)) ∷ []) (vs ++ (if dash then hyphen else hex_digit lower (nibble ys k)) ∷ [])
    ≡ nat_cmp (if dash then p else p * 16 + nibble xs k) (if dash then q else q * 16 + nibble ys k)
one_more xs ys k true us vs p q len so = cmp_append us vs _ _ len ∙ then_nothing (slice_cmp nat_cmp us vs) ∙ so
one_more xs ys k false us vs p q len so =
    cmp_append us vs _ _ len ∙ (rw (so, then_nothing (nat_cmp (hex_digit lower (nibble xs k)) (hex_digit lower (nibble ys k))), digit_cmp (nibble xs k) (nibble ys k) (nibble_small xs k) (nibble_small ys k))
    (sym (parts_cmp 16 p q (nibble xs k) (nibble ys k) (nibble_small xs k) (nibble_small ys k))))

fronts_cmp : (xs ys : List ℕ) (n : ℕ) → slice_cmp nat_cmp (by_index n (place xs)) (by_index n (place ys)) ≡ nat_cmp (front xs n) (front ys n)
unfolding by_index front
fronts_cmp xs ys zero = refl
fronts_cmp xs ys (suc n) =
    one_more xs ys (digit_place n) (is_hyphen_place n) (by_index n (place xs)) (by_index n (place ys)) (front xs n) (front ys n) (by_index_length n (place xs) ∙ sym (by_index_length n (place ys))) (fronts_cmp xs ys n)

-- two digits of a byte
byte_added : (p b : ℕ) → b < 256 → (p * 16 + b / 16 % 16) * 16 + b % 16 ≡ p * 256 + b
byte_added p b small = omega arith

-- all digits of sixteen bytes write their number
front_whole : (b0 b1 b2 b3 b4 b5 b6 b7 b8 b9 b10 b11 b12 b13 b14 b15 : ℕ)
    → b0 < 256 → b1 < 256 → b2 < 256 → b3 < 256 → b4 < 256 → b5 < 256 → b6 < 256 → b7 < 256
    → b8 < 256 → b9 < 256 → b10 < 256 → b11 < 256 → b12 < 256 → b13 < 256 → b14 < 256 → b15 < 256
    → let bs = b0 ∷ b1 ∷ b2 ∷ b3 ∷ b4 ∷ b5 ∷ b6 ∷ b7 ∷ b8 ∷ b9 ∷ b10 ∷ b11 ∷ b12 ∷ b13 ∷ b14 ∷ b15 ∷ [] in front bs 36 ≡ from_be_bytes w128 bs
unfolding front
front_whole b0 b1 b2 b3 b4 b5 b6 b7 b8 b9 b10 b11 b12 b13 b14 b15 h0 h1 h2 h3 h4 h5 h6 h7 h8 h9 h10 h11 h12 h13 h14 h15 =
    rw (
      byte_added 0 b0 h0,
      byte_added _ b1 h1,
      byte_added _ b2 h2,
      byte_added _ b3 h3,
      byte_added _ b4 h4,
      byte_added _ b5 h5,
      byte_added _ b6 h6,
      byte_added _ b7 h7,
      byte_added _ b8 h8,
      byte_added _ b9 h9,
      byte_added _ b10 h10,
      byte_added _ b11 h11,
      byte_added _ b12 h12,
      byte_added _ b13 h13,
      byte_added _ b14 h14,
      byte_added _ b15 h15,
    ) (omega arith)

whole_is : (n : ℕ) → n < 2 ^ 128 → front (to_be_bytes w128 n) 36 ≡ n
whole_is n small =
    front_whole _ _ _ _ _ _ _ _ _ _ _ _ _ _ _ _ (omega arith) (omega arith) (omega arith) (omega arith) (omega arith) (omega arith) (omega arith) (omega arith)
    (omega arith) (omega arith) (omega arith) (omega arith) (omega arith) (omega arith) (omega arith) (omega arith)
    ∙ from_be_bytes-to_be_bytes_16 n small

uuid_small : (a : RunKey) → InRange (Run a) → uuid_of (Run a) < 2 ^ 128
uuid_small a r = omega (arith, r)

pub texts_ordered : (a b : RunKey) → InRange (Run a) → InRange (Run b) → slice_cmp nat_cmp (id_text (Run a)) (id_text (Run b)) ≡ key_cmp a b
texts_ordered a b ra rb =
    let cmp = fronts_cmp (to_be_bytes w128 (uuid_of (Run a))) (to_be_bytes w128 (uuid_of (Run b))) 36 in
    cmp ∙ (rw (whole_is (uuid_of (Run a)) (uuid_small a ra), whole_is (uuid_of (Run b)) (uuid_small b rb)) (numbers_ordered a b ra rb))

pub ordered_as_keys : OrderedAsKeys
ordered_as_keys = record { numbers = numbers_ordered; texts = texts_ordered }

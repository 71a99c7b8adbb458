-- Laws of numbers and marks. Proved here, since an `impl` cites them.
use Rattle.std.specs.Prelude.{◌++◌, ◌+◌, ◌<◌, ◌≤◌, ◌^◌, ◌∷◌, ◌≡◌, Bool, List, None, Some, [], cond, drop, false, length, refl, suc, take, true, zero, ℕ, ℤ}
use Rattle.std.specs.Int.{Width, byte_len, cast_signed, cast_unsigned, from_be_bytes, to_be_bytes, w16, w32, w64}
use Rattle.std.proofs.Common.{◌∙◌, sym, ap, subst, arith, inl, inr, ltb, length-append, length-take}
use Rattle.std.proofs.Math.Facts.{Fits-lt-pow, Fits-of_z}
use Rattle.std.proofs.lemmas.Bool.{cases_lt, ltb-false, le-ltb}
use Rattle.std.proofs.lemmas.Int.{of_z-to_z, to_z-of_z}
use Rattle.std.proofs.lemmas.List.{take_at, drop_at, take-append-drop, get_or-drop, get_or-take, get_or_past}
use Rattle.std.proofs.lemmas.Nat.{be_bytes_2, be_bytes_4, be_bytes_8, from_be_bytes-to_be_bytes_2, from_be_bytes-to_be_bytes_4, from_be_bytes-to_be_bytes_8}
use Rattle.value_bytes.specs.Codec.{mark, mark_code, number, number_16, number_32, number_64, number_8, signed_16}
use Rattle.value_bytes.specs.Laws.{AreBytes, Begins, IsCodec, ReadAgain, ReadsCodes}
use Rattle.value_bytes.specs.PairLaws.{behind_some, some_is}
use Rattle.value_bytes.specs.Reading.{bool_at, number_at}

pub drop_are : (n : ℕ) (bytes : List ℕ) → AreBytes bytes → AreBytes (drop n bytes)
drop_are n bytes are i = rw get_or-drop (are (n + i))

pub take_are : (n : ℕ) (bytes : List ℕ) → AreBytes bytes → AreBytes (take n bytes)
take_are n bytes are i =
    elim (cases_lt i n) [
      | inl lt ↦ rw (get_or-take n bytes i 0 lt) (are i)
      | inr le ↦ rw (get_or_past (take n bytes) i 0 (omega (arith, length-take n bytes))) (omega arith)
    ]

pub rest_are : (b : ℕ) (bytes : List ℕ) → AreBytes (b ∷ bytes) → AreBytes bytes
rest_are b bytes are i = are (suc i)

-- a test that was not met
pub long : {A : Type 0} (b : Bool) (x y : A) → cond b None (Some x) ≡ Some y → (b ≡ false) × (x ≡ y)
long true x y e = absurd cc
long false x y e = (refl, cc)

-- ---- a byte
byte_reads : ReadsCodes number_8.code number_8.read
byte_reads [] x rest are e = absurd cc
byte_reads (b ∷ bytes) x rest are e =
    subst (λ (y : ℕ × List ℕ). Begins number_8.code (b ∷ bytes) y.0 y.1) (some_is (b, bytes) (x, rest) e) (record { parts = refl; are_bytes = rest_are b bytes are })

pub number_8_is : IsCodec number_8
number_8_is = record { again = λ x rest fits. refl; reads = byte_reads }

-- ---- numbers of a width
pub record IsWide (w : Width) (limit : ℕ) : Type 0 where
  pub len : (n : ℕ) → length (to_be_bytes w n) ≡ byte_len w
  pub back : (bytes : List ℕ) → length bytes ≡ byte_len w → AreBytes bytes → to_be_bytes w (from_be_bytes w bytes) ≡ bytes
  pub again : (n : ℕ) → n < limit → from_be_bytes w (to_be_bytes w n) ≡ n
  pub below : (bytes : List ℕ) → AreBytes bytes → from_be_bytes w bytes < limit

wide_16 : IsWide w16 (2 ^ 16)
wide_16 = record {
  len = λ n. refl;
  back = λ bytes len are. be_bytes_2 bytes _ len are refl;
  again = λ n lt. from_be_bytes-to_be_bytes_2 n lt;
  below = λ bytes are. omega (arith, are 0, are 1);
}

pub wide_32 : IsWide w32 (2 ^ 32)
wide_32 = record {
  len = λ n. refl;
  back = λ bytes len are. be_bytes_4 bytes _ len are refl;
  again = λ n lt. from_be_bytes-to_be_bytes_4 n lt;
  below = λ bytes are. omega (arith, are 0, are 1, are 2, are 3);
}

wide_64 : IsWide w64 (2 ^ 64)
wide_64 = record {
  len = λ n. refl;
  back = λ bytes len are. be_bytes_8 bytes _ len are refl;
  again = λ n lt. from_be_bytes-to_be_bytes_8 n lt;
  below = λ bytes are. omega (arith, are 0, are 1, are 2, are 3, are 4, are 5, are 6, are 7);
}

-- what is read is in the bytes, and of the width
pub number_reads : (w : Width) (limit : ℕ) → IsWide w limit → (bytes : List ℕ) (n : ℕ) (rest : List ℕ) → AreBytes bytes → number_at w bytes ≡ Some (n, rest) → Begins (to_be_bytes w) bytes n rest × (n < limit)
number_reads w limit wide bytes n rest are e =
    let g = long (ltb (length bytes) (byte_len w)) (from_be_bytes w (take (byte_len w) bytes), drop (byte_len w) bytes) (n, rest) e in
    let enough : byte_len w ≤ length bytes = ltb-false _ _ g.0 in
    let n-is : from_be_bytes w (take (byte_len w) bytes) ≡ n = ap (λ (p : ℕ × List ℕ). p.0) g.1 in
    let rest-is : drop (byte_len w) bytes ≡ rest = ap (λ (p : ℕ × List ℕ). p.1) g.1 in
    let front : to_be_bytes w n ≡ take (byte_len w) bytes = rw (← n-is) (wide.back (take (byte_len w) bytes) (omega (arith, length-take (byte_len w) bytes)) (take_are (byte_len w) bytes are)) in (
      record { parts = rw (front, ← rest-is) (sym (take-append-drop (byte_len w) bytes)); are_bytes = rw (← rest-is) (drop_are (byte_len w) bytes are) },
      rw (← n-is) (wide.below (take (byte_len w) bytes) (take_are (byte_len w) bytes are)),
    )

pub number_again : (w : Width) (limit : ℕ) → IsWide w limit → ReadAgain (λ n. n < limit) (to_be_bytes w) (number_at w)
number_again w limit wide n rest lt =
    let len = wide.len n in
    let enough : ltb (length (to_be_bytes w n ++ rest)) (byte_len w) ≡ false = le-ltb _ _ (omega (arith, length-append (to_be_bytes w n) rest)) in
    rw (enough, take_at (to_be_bytes w n) rest (byte_len w) len, drop_at (to_be_bytes w n) rest (byte_len w) len, wide.again n lt) refl

number_is : (w : Width) (limit : ℕ) → IsWide w limit → IsCodec (number w limit)
number_is w limit wide = record { again = number_again w limit wide; reads = λ bytes n rest are e. (number_reads w limit wide bytes n rest are e).0 }

pub number_16_is : IsCodec number_16
number_16_is = number_is w16 (2 ^ 16) wide_16

pub number_32_is : IsCodec number_32
number_32_is = number_is w32 (2 ^ 32) wide_32

pub number_64_is : IsCodec number_64
number_64_is = number_is w64 (2 ^ 64) wide_64

-- ---- numbers with a sign
signed_again : ReadAgain signed_16.Fits signed_16.code signed_16.read
signed_again z rest fits = rw (number_again w16 (2 ^ 16) wide_16 (cast_unsigned w16 z) rest (Fits-lt-pow (Fits-of_z fits)), to_z-of_z w16 z fits) refl

signed_reads : ReadsCodes signed_16.code signed_16.read
signed_reads bytes z rest are e =
    let p = behind_some (number_at w16 bytes) (λ n last. Some (cast_signed w16 n, last)) (z, rest) e in
    let first = number_reads w16 (2 ^ 16) wide_16 bytes p.0.0 p.0.1 are p.1 in
    subst (λ (y : ℤ × List ℕ). Begins signed_16.code bytes y.0 y.1) (some_is (cast_signed w16 p.0.0, p.0.1) (z, rest) p.2)
    (record { parts = first.0.parts ∙ ap (λ (n : ℕ). to_be_bytes w16 n ++ p.0.1) (sym (of_z-to_z w16 p.0.0 first.1)); are_bytes = first.0.are_bytes })

pub signed_16_is : IsCodec signed_16
signed_16_is = record { again = signed_again; reads = signed_reads }

-- ---- marks
mark_reads : ReadsCodes mark_code bool_at
mark_reads [] x rest are e = absurd cc
mark_reads (zero ∷ bytes) x rest are e =
    subst (λ (y : Bool × List ℕ). Begins mark_code (0 ∷ bytes) y.0 y.1) (some_is (false, bytes) (x, rest) e) (record { parts = refl; are_bytes = rest_are 0 bytes are })
mark_reads (suc zero ∷ bytes) x rest are e =
    subst (λ (y : Bool × List ℕ). Begins mark_code (1 ∷ bytes) y.0 y.1) (some_is (true, bytes) (x, rest) e) (record { parts = refl; are_bytes = rest_are 1 bytes are })
mark_reads (suc (suc b) ∷ bytes) x rest are e = absurd cc

mark_again : ReadAgain mark.Fits mark_code bool_at
mark_again false rest fits = refl
mark_again true rest fits = refl

pub mark_is : IsCodec mark
mark_is = record { again = mark_again; reads = mark_reads }

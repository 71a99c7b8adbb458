-- Laws of texts. Proved here, since an `impl` cites them.
use Rattle.std.specs.Prelude.{◌++◌, ◌≤◌, ◌^◌, ◌≡◌, Bool, List, None, Some, cond, drop, false, length, refl, take, true, ℕ}
use Rattle.std.specs.Int.{to_be_bytes, w32}
use Rattle.std.specs.Str.{is_utf8}
use Rattle.std.proofs.Common.{◌∙◌, sym, ap, subst, arith, append_assoc, ltb, length-append, length-take}
use Rattle.std.proofs.lemmas.Bool.{ltb-false, le-ltb}
use Rattle.std.proofs.lemmas.List.{take_at, drop_at, take-append-drop}
use Rattle.value_bytes.specs.Codec.{text}
use Rattle.value_bytes.specs.Laws.{AreBytes, IsCodec, ReadAgain, ReadsCodes}
use Rattle.value_bytes.specs.NumberLaws.{drop_are, long, number_again, number_reads, wide_32}
use Rattle.value_bytes.specs.PairLaws.{before_some, behind_some, some_is}
use Rattle.value_bytes.specs.Reading.{before, bytes_at, number_at, partly_at, text_at, utf8_of}

utf8_is : (bs t : List ℕ) → utf8_of bs ≡ Some t → bs ≡ t
utf8_is bs t e = by (is_utf8 bs) e
  where
    by : (b : Bool) → cond b (Some bs) None ≡ Some t → bs ≡ t
    by true e = some_is bs t e
    by false e = absurd cc

text_reads : ReadsCodes text.code text_at
text_reads bytes t rest are e =
    let p = behind_some (number_at w32 bytes) (λ n after. partly_at utf8_of (bytes_at n) after) (t, rest) e in
    let first = (number_reads w32 (2 ^ 32) wide_32 bytes p.0.0 p.0.1 are p.1).0 in
    let q = behind_some (bytes_at p.0.0 p.0.1) (λ u last. before (utf8_of u) last) (t, rest) p.2 in
    let r = before_some (utf8_of q.0.0) q.0.1 (t, rest) q.2 in
    let g = long (ltb (length p.0.1) p.0.0) (take p.0.0 p.0.1, drop p.0.0 p.0.1) q.0 q.1 in
    let enough : p.0.0 ≤ length p.0.1 = ltb-false _ _ g.0 in
    let text-is : take p.0.0 p.0.1 ≡ t = ap (λ (y : List ℕ × List ℕ). y.0) g.1 ∙ (utf8_is q.0.0 r.0 r.1 ∙ ap (λ (y : List ℕ × List ℕ). y.0) r.2) in
    let rest-is : drop p.0.0 p.0.1 ≡ rest = ap (λ (y : List ℕ × List ℕ). y.1) g.1 ∙ ap (λ (y : List ℕ × List ℕ). y.1) r.2 in
    let len : length t ≡ p.0.0 = ap (λ (u : List ℕ). length u) (sym text-is) ∙ omega (arith, length-take p.0.0 p.0.1) in
    let split : p.0.1 ≡ t ++ rest = sym (take-append-drop p.0.0 p.0.1) ∙ (ap (λ (u : List ℕ). u ++ drop p.0.0 p.0.1) text-is ∙ ap (λ (u : List ℕ). t ++ u) rest-is) in
    let whole : bytes ≡ to_be_bytes w32 (length t) ++ (t ++ rest) = subst (λ (k : ℕ). bytes ≡ to_be_bytes w32 k ++ (t ++ rest)) (sym len) (first.parts ∙ ap (λ (u : List ℕ). to_be_bytes w32 p.0.0 ++ u) split) in
    record { parts = whole ∙ sym (append_assoc (to_be_bytes w32 (length t)) t rest); are_bytes = subst AreBytes rest-is (drop_are p.0.0 p.0.1 first.are_bytes) }

text_again : ReadAgain text.Fits text.code text_at
text_again t rest fits =
    let enough : ltb (length (t ++ rest)) (length t) ≡ false = le-ltb _ _ (omega (arith, length-append t rest)) in
    ap text_at (append_assoc (to_be_bytes w32 (length t)) t rest)
    ∙ rw (number_again w32 (2 ^ 32) wide_32 (length t) (t ++ rest) fits.short, enough, take_at t rest (length t) refl, drop_at t rest (length t) refl, fits.utf8) refl

pub text_is : IsCodec text
text_is = record { again = text_again; reads = text_reads }

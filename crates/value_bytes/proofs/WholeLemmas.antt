-- Bytes that are those of one value.
use Rattle.std.proofs.Common.{◌≡◌, ℕ, List, [], ◌∷◌, ◌++◌, Option, Some, None, Result, Ok, Err, sym, ap, ◌∙◌}
use Rattle.std.specs.Prelude.{IfOk, IfSome}
use Rattle.std.proofs.lemmas.List.{append-nil}
use Rattle.value_bytes.specs.Codec.{Codec}
use Rattle.value_bytes.specs.Laws.{AreBytes, IsCodec}
use Rattle.value_bytes.specs.PairLaws.{some_is}
use Rattle.value_bytes.specs.Reading.{whole_of}

whole_some : {A : Type 0} (o : Option (A × List ℕ)) (x : A) → whole_of o ≡ Some x → o ≡ Some (x, [])
whole_some None x e = absurd cc
whole_some {A} (Some (a, [])) x e = ap (λ (y : A). Some (y, [])) (some_is a x e)
whole_some (Some (a, b ∷ rest)) x e = absurd cc

module _ {A : Type 0} (c : Codec A) (is : IsCodec c) where
  -- what was read is written so
  code_is : (bytes : List ℕ) (x : A) → AreBytes bytes → whole_of (c.read bytes) ≡ Some x → bytes ≡ c.code x
  code_is bytes x are e = (is.reads bytes x [] are (whole_some (c.read bytes) x e)).parts ∙ append-nil (c.code x)

  pub is_found : {E : Type 0} (r : Result (Option A) E) (bytes : List ℕ) → AreBytes bytes → IfOk r (λ o. o ≡ whole_of (c.read bytes)) → IfOk r (λ o. IfSome o c.Fits)
      → IfOk r (λ o. IfSome o (λ x. c.Fits x × (bytes ≡ c.code x)))
  is_found (Ok (Some x)) bytes are e fits = (fits, code_is bytes x are (sym e))
  is_found (Ok None) bytes are e fits = tt
  is_found (Err fault) bytes are e fits = tt

  -- what is written so is read
  again : (bytes : List ℕ) (x : A) → c.Fits x → bytes ≡ c.code x → whole_of (c.read bytes) ≡ Some x
  again bytes x fits e = ap (λ (t : List ℕ). whole_of (c.read t)) (e ∙ sym (append-nil (c.code x))) ∙ ap whole_of (is.again x [] fits)

  pub is_only : {E : Type 0} (r : Result (Option A) E) (bytes : List ℕ) → IfOk r (λ o. o ≡ whole_of (c.read bytes)) → IfOk r (λ o. (x : A) → c.Fits x → bytes ≡ c.code x → o ≡ Some x)
  is_only (Ok o) bytes e = λ x fits is. e ∙ again bytes x fits is
  is_only (Err fault) bytes e = tt

  -- no two values have bytes of which the ones begin the others
  pub one_code : (a b : A) (x y : List ℕ) → c.Fits a → c.Fits b → c.code a ++ x ≡ c.code b ++ y → (a ≡ b) × (x ≡ y)
  one_code a b x y fits_a fits_b e =
      let same : (a, x) ≡ (b, y) = some_is (a, x) (b, y) (sym (is.again a x fits_a) ∙ (ap c.read e ∙ is.again b y fits_b)) in
      (ap (λ (p : A × List ℕ). p.0) same, ap (λ (p : A × List ℕ). p.1) same)

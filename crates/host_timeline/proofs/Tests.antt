-- What two tests together say.
use Rattle.std.proofs.Common.{◌≡◌, ◌&&◌, Bool, true, false, refl, not}

pub and_true : (x : Bool) → (x && true) ≡ x
and_true true = refl
and_true false = refl

pub and_false : (x : Bool) → (x && false) ≡ false
and_false true = refl
and_false false = refl

pub both_true : (x y : Bool) → (x && y) ≡ true → (x ≡ true) × (y ≡ true)
both_true true y is = (refl, is)
both_true false y is = cc

pub not_true : (x : Bool) → not x ≡ true → x ≡ false
not_true true is = cc
not_true false is = refl

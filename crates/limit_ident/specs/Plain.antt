-- Trees without comments, flat trees of whole numbers, and what is known of an answer about one.
use Rattle.std.specs.Prelude.{◌≡◌, ◌≢◌, ℕ, zero, suc, List, false, Result, Ok, Err}
use Rattle.std.specs.Ordering.{nat_cmp}
use Rattle.std.specs.declared.cmp.Ordering.TheVariants.{Less}
use Rattle.std.specs.Cmp.Lexicographic.{slice_cmp}
use Rattle.serde_json.specs.Data.{Data, null, boolean, number, string, array, object, Items, no_items, item, Members, no_members, member}
use Rattle.serde_json.specs.Find.{is_float}
use Rattle.ps_json.specs.Fields.{is_comment}
use Rattle.ps_json.specs.declared.fault.JsonFault.TheVariants.{Memory as json_memory}
use Rattle.limit_ident.specs.declared.fault.LimitFault.{LimitFault}
use Rattle.limit_ident.specs.declared.fault.LimitFault.TheVariants.{Json}

-- each name of the members is above this one
abbrev pub AreAbove : List ℕ → Members → Type 0
AreAbove k no_members = Unit {0}
AreAbove k (member l d ms) = (slice_cmp nat_cmp k l ≡ Less) × AreAbove k ms

-- at every depth names ascend, and none is a comment
abbrev mutual
  pub IsPlain : Data → Type 0
  IsPlain null = Unit {0}
  IsPlain (boolean b) = Unit {0}
  IsPlain (number n) = Unit {0}
  IsPlain (string s) = Unit {0}
  IsPlain (array ds) = ArePlainItems ds
  IsPlain (object ms) = ArePlain ms

  pub ArePlainItems : Items → Type 0
  ArePlainItems no_items = Unit {0}
  ArePlainItems (item d ds) = IsPlain d × ArePlainItems ds

  pub ArePlain : Members → Type 0
  ArePlain no_members = Unit {0}
  ArePlain (member k d ms) = (is_comment k ≡ false) × AreAbove k ms × IsPlain d × ArePlain ms

-- at most so many levels deep, and all numbers whole
abbrev mutual
  pub IsFlat : ℕ → Data → Type 0
  IsFlat n null = Unit {0}
  IsFlat n (boolean b) = Unit {0}
  IsFlat n (number x) = is_float x ≡ false
  IsFlat n (string s) = Unit {0}
  IsFlat zero (array ds) = ⊥
  IsFlat (suc n) (array ds) = AreFlatItems n ds
  IsFlat zero (object ms) = ⊥
  IsFlat (suc n) (object ms) = AreFlat n ms

  pub AreFlatItems : ℕ → Items → Type 0
  AreFlatItems n no_items = Unit {0}
  AreFlatItems n (item d ds) = IsFlat n d × AreFlatItems n ds

  pub AreFlat : ℕ → Members → Type 0
  AreFlat n no_members = Unit {0}
  AreFlat n (member k d ms) = IsFlat n d × AreFlat n ms

-- a refusal that holds a fault of JSON doesn't hide out of memory in it
abbrev pub IsTold : LimitFault → Type 0
IsTold fault = fault ≢ Json json_memory

-- where the answer is a value, this holds; a refusal hides nothing
abbrev pub Gives : {A : Type 0} → Type 0 → Result A LimitFault → Type 0
Gives G (Ok a) = G
Gives G (Err fault) = IsTold fault

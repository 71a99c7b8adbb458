-- The entries of a map as named things: their order.
use Rattle.std.proofs.Common.{◌≡◌, ℕ, List, [], ◌∷◌, Less, string_bytes, string_cmp, nat_cmp, String, Global, refl}
use Rattle.std.specs.Cmp.Lexicographic.{slice_cmp}
use Rattle.std.specs.List.{AllByRecursion}
use Rattle.std.specs.List.Sorted.{IsStrictlySortedBy}
use Rattle.std.specs.Map.{keys_of}
use Rattle.serde_json.specs.View.{members_view}
use Rattle.serde_json.proofs.Views.{Entry}
use Rattle.mesh_parts.specs.Named.{Ascend, names_of, entries_of}

above : (k : List ℕ) (key : String Global) (es : List Entry) → string_bytes key ≡ k → AllByRecursion (λ y. string_cmp key y ≡ Less) (keys_of es) → AllByRecursion (λ y. slice_cmp nat_cmp k y ≡ Less) (names_of (entries_of (members_view es)))
above k key [] is all = tt
above k key (e ∷ es) is all = (rw (← is) all.0, above k key es is all.1)

-- the names ascend as the keys do
pub names_ascend : (es : List Entry) → IsStrictlySortedBy string_cmp (keys_of es) → Ascend (names_of (entries_of (members_view es)))
unfolding IsStrictlySortedBy
names_ascend [] sorted = tt
names_ascend (e ∷ es) sorted = (above (string_bytes e.0) e.0 es refl sorted.0, names_ascend es sorted.1)

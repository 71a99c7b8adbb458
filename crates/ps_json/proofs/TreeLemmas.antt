-- Texts and bytes of trees.
use Rattle.std.proofs.Common.{◌≡◌, ℕ, List, [], ◌∷◌, true, false, Some, Ok, refl, ap, ◌≤◌, nat_lt, arith}
use Rattle.std.proofs.lemmas.Bool.Decides.{nat_tests}
use Rattle.std.specs.Str.{IsUtf8, is_utf8}
use Rattle.std.proofs.lemmas.Str.{IsUtf8-from_is_utf8, is_utf8-from_IsUtf8}
use Rattle.serde_json.specs.Data.{Data, depth}
use Rattle.serde_json.specs.Read.{read}
use Rattle.serde_json.specs.View.{items_of}
use Rattle.ps_json.specs.Kinds.{items_list}
use Rattle.ps_json.specs.Tree.{parsed, tree_of}

-- the test fails on bytes that are no text
pub not_text : (bs : List ℕ) → ¬ IsUtf8 bs → false ≡ is_utf8 bs
not_text bs other =
    let cases = elim (is_utf8 bs) as (λ b. is_utf8 bs ≡ b → false ≡ b) [
      | true ↦ λ yes. absurd (other (IsUtf8-from_is_utf8 bs yes))
      | false ↦ λ _. refl
    ] in
    cases refl

-- a text that the grammar reads is parsed
pub parsed_text : (bs : List ℕ) (d : Data) → IsUtf8 bs → read bs ≡ Some d → parsed bs ≡ Ok d
parsed_text bs d text reads = rw (is_utf8-from_IsUtf8 bs text, reads) refl

-- the items of a list, one after another
pub items_list-items_of : (ds : List Data) → items_list (items_of ds) ≡ ds
items_list-items_of [] = refl
items_list-items_of (d ∷ ds) = ap (λ l. d ∷ l) (items_list-items_of ds)

-- and where it isn't too deep, it is a tree's
pub tree_text : (bs : List ℕ) (d : Data) → IsUtf8 bs → read bs ≡ Some d → depth d ≤ 64 → tree_of bs ≡ Ok d
tree_text bs d text reads shallow =
    let here : nat_lt 64 (depth d) ≡ false = grind (arith, nat_tests) in
    rw (parsed_text bs d text reads, here) refl

-- bytes that are parsed are a text
pub parsed_utf8 : (bs : List ℕ) (d : Data) → parsed bs ≡ Ok d → IsUtf8 bs
parsed_utf8 bs d is =
    let cases = elim (is_utf8 bs) as (λ b. is_utf8 bs ≡ b → is_utf8 bs ≡ true) [
      | true ↦ λ yes. yes
      | false ↦ λ no. let wrong = rw no at is in cc
    ] in
    IsUtf8-from_is_utf8 bs (cases refl)

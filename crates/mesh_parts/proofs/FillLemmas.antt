-- Filling templates, member by member.
use Rattle.std.proofs.Common.{◌≡◌, List, [], ◌∷◌, ◌++◌, true, false, cond, map, Option, Less, Greater, string_bytes, string_cmp, nat_cmp, refl, sym, ap, ◌∙◌}
use Rattle.std.proofs.lemmas.Cmp.{nat_list_cmp_total}
use Rattle.std.specs.Cmp.Lexicographic.{slice_cmp}
use Rattle.std.specs.List.{AllByRecursion}
use Rattle.std.specs.List.Sorted.{IsStrictlySortedBy}
use Rattle.std.specs.Map.{keys_of}
use Rattle.std.specs.Ordering.{ordering_reverse}
use Rattle.serde_json.specs.Data.{Data, item, member, put}
use Rattle.serde_json.specs.View.{view, items_view, items_of, members_view}
use Rattle.serde_json.specs.declared.value.Value.{Value}
use Rattle.serde_json.proofs.Views.{Entry}
use Rattle.ps_json.specs.Fields.{is_comment, with_plain}
use Rattle.mesh_parts.specs.declared.group.Pair.{Pair}
use Rattle.mesh_parts.specs.Fill.{filled, filled_items, filled_members}

below_middle : (first : Entry) (es : List Entry) (e : Entry) (more : List Entry) → AllByRecursion (λ y. string_cmp first.0 y ≡ Less) (keys_of (es ++ e ∷ more)) → string_cmp first.0 e.0 ≡ Less
below_middle first [] e more h = h.0
below_middle first (x ∷ es) e more h = below_middle first es e more h.1

module _ (pair : Option Pair) where
  -- a comment adds nothing
  filled-comment : (done : List Entry) (e : Entry) → is_comment (string_bytes e.0) ≡ true → filled_members pair (members_view (done ++ e ∷ [])) ≡ filled_members pair (members_view done)
  filled-comment [] e comment = rw comment refl
  filled-comment (first ∷ done) e comment =
      ap (λ ms. cond (is_comment (string_bytes first.0)) ms (member (string_bytes first.0) (filled pair (view first.1)) ms)) (filled-comment done e comment)

  -- and another member, whose key is above those before it, goes last
  filled-last : (done : List Entry) (e : Entry) (more : List Entry) → IsStrictlySortedBy string_cmp (keys_of (done ++ e ∷ more)) → is_comment (string_bytes e.0) ≡ false
      → put (string_bytes e.0) (filled pair (view e.1)) (filled_members pair (members_view done)) ≡ filled_members pair (members_view (done ++ e ∷ []))
  unfolding IsStrictlySortedBy
  filled-last [] e more h plain = rw plain refl
  filled-last (first ∷ done) e more h plain =
      let k = string_bytes e.0 in
      let d = filled pair (view e.1) in
      let l = string_bytes first.0 in
      let above : slice_cmp nat_cmp k l ≡ Greater =
      nat_list_cmp_total.antisymm k l ∙ ap ordering_reverse (below_middle first done e more h.0) in
      let later = filled-last done e more h.1 plain in
      let rest = filled_members pair (members_view done) in
      let all = filled_members pair (members_view (done ++ e ∷ [])) in
      let cases = elim (is_comment l) as (λ b. put k d (cond b rest (member l (filled pair (view first.1)) rest)) ≡ cond b all (member l (filled pair (view first.1)) all)) [
        | true ↦ later
        | false ↦ rw above (ap (member l (filled pair (view first.1))) later)
      ] in
      cases

  -- so the next member is put where it belongs
  pub filled-next : (done : List Entry) (e : Entry) (more : List Entry) → IsStrictlySortedBy string_cmp (keys_of (done ++ e ∷ more))
      → with_plain (string_bytes e.0) (filled pair (view e.1)) (filled_members pair (members_view done)) ≡ filled_members pair (members_view (done ++ e ∷ []))
  filled-next done e more sorted =
      let rest = filled_members pair (members_view done) in
      let cases = elim (is_comment (string_bytes e.0)) as (λ b. is_comment (string_bytes e.0) ≡ b → cond b rest (put (string_bytes e.0) (filled pair (view e.1)) rest) ≡ filled_members pair (members_view (done ++ e ∷ []))) [
        | true ↦ λ is. sym (filled-comment done e is)
        | false ↦ λ is. filled-last done e more sorted is
      ] in
      cases refl

  -- ---- the items of a list

  filled_items-map : (ds : List Data) → filled_items pair (items_of ds) ≡ items_of (map (filled pair) ds)
  filled_items-map [] = refl
  filled_items-map (d ∷ ds) = ap (item (filled pair d)) (filled_items-map ds)

  pub items_filled : (made items : List Value) → map view made ≡ map (filled pair) (map view items) → items_view made ≡ filled_items pair (items_view items)
  items_filled made items same = ap items_of same ∙ sym (filled_items-map (map view items))

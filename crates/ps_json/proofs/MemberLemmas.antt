-- The members of an object beside the entries of its map.
use Rattle.std.proofs.Common.{◌≡◌, ℕ, ◌+◌, ◌<◌, List, [], ◌∷◌, Bool, true, false, cond, Option, Some, None, Err, All, String, Global, Ordering, Less, Equal, Greater, string_bytes, string_cmp, nat_cmp, refl, sym, ap, subst, arith}
use Rattle.std.proofs.lemmas.List.Elements.{recursion_from_All}
use Rattle.std.proofs.lemmas.Map.Text.{is_eq-slice_cmp}
use Rattle.std.specs.BTreeMap.{is_at}
use Rattle.std.specs.Cmp.Lexicographic.{slice_cmp}
use Rattle.std.specs.List.{AllByRecursion}
use Rattle.std.specs.List.Sorted.{IsStrictlySortedBy}
use Rattle.std.specs.Map.{keys_of, lookup, remove_entry}
use Rattle.std.specs.Ordering.{match_ordering}
use Rattle.serde_json.specs.Data.{Data, Members, no_members, member}
use Rattle.serde_json.specs.View.{view, members_view}
use Rattle.serde_json.specs.declared.value.Value.{Value}
use Rattle.ps_json.specs.Fields.{without_member, is_comment, least_name, least_unknown, end_of, next_of, behind_next, members_count}
use Rattle.ps_json.specs.declared.fault.JsonFault.TheVariants.{Unknown}

abbrev Entry : Type 0
Entry = String Global × Value

-- whether an entry's key is the name
abbrev pub is_named : List ℕ → String Global → Bool
is_named name = is_at (λ k. slice_cmp nat_cmp name (string_bytes k))

-- a member that isn't there is not left out
without_absent : (name : List ℕ) (es : List Entry) → lookup (is_named name) es ≡ None → without_member name (members_view es) ≡ members_view es
without_absent name [] absent = refl
without_absent name (e ∷ es) absent =
    let rest = members_view es in
    let cases = elim (is_named name e.0) as (λ b. is_named name e.0 ≡ b → cond b (Some e.1) (lookup (is_named name) es) ≡ None → without_member name (members_view (e ∷ es)) ≡ members_view (e ∷ es)) [
      | true ↦ λ is gone. cc
      | false ↦ λ is gone. rw (← is_eq-slice_cmp name (string_bytes e.0), is) (ap (member (string_bytes e.0) (view e.1)) (without_absent name es gone))
    ] in
    cases refl absent

-- the map without the entry of that name is the members without it
pub members_view-remove_entry : (name : List ℕ) (es : List Entry) → lookup (is_named name) (remove_entry (is_named name) es) ≡ None → members_view (remove_entry (is_named name) es) ≡ without_member name (members_view es)
members_view-remove_entry name [] absent = refl
members_view-remove_entry name (e ∷ es) absent =
    let cases = elim (is_named name e.0) as (λ b. is_named name e.0 ≡ b → lookup (is_named name) (cond b es (e ∷ remove_entry (is_named name) es)) ≡ None
    → members_view (cond b es (e ∷ remove_entry (is_named name) es)) ≡ without_member name (members_view (e ∷ es))) [
      | true ↦ λ is gone. rw (← is_eq-slice_cmp name (string_bytes e.0), is) (sym (without_absent name es gone))
      | false ↦ λ is gone. let left : lookup (is_named name) (remove_entry (is_named name) es) ≡ None = rw is at gone in
          rw (← is_eq-slice_cmp name (string_bytes e.0), is) (ap (member (string_bytes e.0) (view e.1)) (members_view-remove_entry name es left))
    ] in
    cases refl absent

-- k is below the name, if there is one
abbrev Below : List ℕ → Option (List ℕ) → Type 0
Below k None = Unit {0}
Below k (Some name) = slice_cmp nat_cmp k name ≡ Less

below_one : (o : Ordering) (k name other : List ℕ) → slice_cmp nat_cmp k name ≡ Less → slice_cmp nat_cmp k other ≡ Less → slice_cmp nat_cmp k (match_ordering o name name other) ≡ Less
below_one Less k name other here there = here
below_one Equal k name other here there = here
below_one Greater k name other here there = there

below_least : (k name : List ℕ) (o : Option (List ℕ)) → slice_cmp nat_cmp k name ≡ Less → Below k o → slice_cmp nat_cmp k (least_name name o) ≡ Less
below_least k name None here there = here
below_least k name (Some other) here there = below_one (slice_cmp nat_cmp name other) k name other here there

-- a key below all others is below the least of them
below_unknown : (key : String Global) (es : List Entry) → AllByRecursion (λ y. string_cmp key y ≡ Less) (keys_of es) → Below (string_bytes key) (least_unknown (members_view es))
below_unknown key [] all = tt
below_unknown key (e ∷ es) all =
    elim (is_comment (string_bytes e.0)) as (λ b. Below (string_bytes key) (cond b (least_unknown (members_view es)) (Some (least_name (string_bytes e.0) (least_unknown (members_view es)))))) [
      | true ↦ below_unknown key es all.1
      | false ↦ below_least _ _ (least_unknown (members_view es)) all.0 (below_unknown key es all.1)
    ]

least_below : (k : List ℕ) (o : Option (List ℕ)) → Below k o → least_name k o ≡ k
least_below k None below = refl
least_below k (Some name) below = rw below refl

-- an entry below all others that is no comment has the least name
least_unknown-above : (e : Entry) (es : List Entry) → AllByRecursion (λ y. string_cmp e.0 y ≡ Less) (keys_of es) → is_comment (string_bytes e.0) ≡ false → least_unknown (members_view (e ∷ es)) ≡ Some (string_bytes e.0)
least_unknown-above e es above unknown = rw (unknown, least_below _ _ (below_unknown e.0 es above)) refl

-- so has the first of entries in order
least_unknown-first : (e : Entry) (es : List Entry) → IsStrictlySortedBy string_cmp (keys_of (e ∷ es)) → is_comment (string_bytes e.0) ≡ false → least_unknown (members_view (e ∷ es)) ≡ Some (string_bytes e.0)
unfolding IsStrictlySortedBy
least_unknown-first e es sorted unknown = least_unknown-above e es sorted.0 unknown

least_unknown-comment : (e : Entry) (es : List Entry) → is_comment (string_bytes e.0) ≡ true → least_unknown (members_view (e ∷ es)) ≡ least_unknown (members_view es)
least_unknown-comment e es comment = rw comment refl

sorted_rest : (e : Entry) (es : List Entry) → IsStrictlySortedBy string_cmp (keys_of (e ∷ es)) → IsStrictlySortedBy string_cmp (keys_of es)
unfolding IsStrictlySortedBy
sorted_rest e es sorted = sorted.1

module _ (left : Members) (entries : List Entry) (e : Entry) (es : List Entry) (steps : entries ≡ e ∷ es) (least : least_unknown left ≡ least_unknown (members_view entries)) (sorted : IsStrictlySortedBy string_cmp (keys_of entries)) where
  -- an entry that is no comment is what `end` tells
  pub end_of-unknown : is_comment (string_bytes e.0) ≡ false → end_of left ≡ Err (Unknown (string_bytes e.0))
  end_of-unknown unknown =
      let in_order : IsStrictlySortedBy string_cmp (keys_of (e ∷ es)) = rw steps at sorted in
      rw (least, steps, least_unknown-first e es in_order unknown) refl

  -- and a comment is passed over
  pub least_unknown-passed : is_comment (string_bytes e.0) ≡ true → least_unknown left ≡ least_unknown (members_view es)
  least_unknown-passed comment = rw (least, steps, least_unknown-comment e es comment) refl

  pub sorted-passed : IsStrictlySortedBy string_cmp (keys_of es)
  sorted-passed =
      let in_order : IsStrictlySortedBy string_cmp (keys_of (e ∷ es)) = rw steps at sorted in
      sorted_rest e es in_order

-- where there is a next member, fewer stand behind it
fewer_behind : (ms : Members) (m : List ℕ × Data) → next_of ms ≡ Some m → members_count (behind_next ms) < members_count ms
fewer_behind no_members m is = absurd cc
fewer_behind (member k d ms) m is =
    let cases = elim (is_comment k) as (λ b. cond b (next_of ms) (Some (k, d)) ≡ Some m → members_count (cond b (behind_next ms) ms) < members_count ms + 1) [
      | true ↦ λ later. let fewer = fewer_behind ms m later in omega arith
      | false ↦ λ here. omega arith
    ] in
    cases is

-- an entry that leaves the front of a map and is no comment is the next member, and has the least name
module _ (left : Members) (entries : List Entry) (e : Entry) (es : List Entry) (steps : entries ≡ e ∷ es) (unknown : is_comment (string_bytes e.0) ≡ false) where
  next_of-first : next_of left ≡ next_of (members_view entries) → next_of left ≡ Some (string_bytes e.0, view e.1)
  next_of-first is = rw (is, steps, unknown) refl

  behind_next-first : behind_next left ≡ behind_next (members_view entries) → behind_next left ≡ members_view es
  behind_next-first is = rw (is, steps, unknown) refl

  pub least_unknown-next : All (λ y. string_cmp e.0 y ≡ Less) (keys_of es) → least_unknown left ≡ least_unknown (members_view entries) → least_unknown left ≡ Some (string_bytes e.0)
  least_unknown-next above is = rw (is, steps) (least_unknown-above e es (recursion_from_All _ _ above) unknown)

  pub fewer_next : next_of left ≡ next_of (members_view entries) → behind_next left ≡ behind_next (members_view entries) → members_count (members_view es) < members_count left
  fewer_next found rest =
      subst (λ ms. members_count ms < members_count left) (behind_next-first rest) (fewer_behind left _ (next_of-first found))

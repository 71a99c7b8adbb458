-- Leaving comments out, member by member, and once more.
use Rattle.std.proofs.Common.{◌≡◌, ℕ, List, [], ◌∷◌, ◌++◌, Bool, true, false, cond, map, Less, Equal, Greater, string_bytes, string_cmp, nat_cmp, refl, sym, ap, ◌∙◌}
use Rattle.std.proofs.lemmas.Cmp.{nat_list_cmp_total}
use Rattle.std.specs.Cmp.Lexicographic.{slice_cmp}
use Rattle.std.specs.List.{AllByRecursion}
use Rattle.std.specs.List.Sorted.{IsStrictlySortedBy}
use Rattle.std.specs.Map.{keys_of}
use Rattle.std.specs.Ordering.{ordering_reverse}
use Rattle.serde_json.specs.Data.{Data, null, boolean, number, string, array, object, Items, no_items, item, Members, no_members, member, put}
use Rattle.serde_json.specs.View.{view, items_view, items_of, members_view}
use Rattle.serde_json.specs.declared.value.Value.{Value}
use Rattle.serde_json.proofs.Views.{Entry}
use Rattle.ps_json.specs.Fields.{is_comment, with_plain}
use Rattle.std.specs.Ordering.{match_ordering}
use Rattle.limit_ident.specs.Plain.{AreAbove, IsPlain, ArePlainItems, ArePlain}
use Rattle.limit_apply.specs.Bare.{bare, bare_items, bare_members}

-- ---- comments are left out once

kept_twice : (k : List ℕ) (d : Data) (ms : Members) → bare d ≡ d → bare_members ms ≡ ms → (b : Bool) → is_comment k ≡ b
    → bare_members (cond b ms (member k d ms)) ≡ cond b ms (member k d ms)
kept_twice k d ms one rest true is = rest
kept_twice k d ms one rest false is = rw is (λ i. member k (one i) (rest i))

mutual
  pub bare-bare : (d : Data) → bare (bare d) ≡ bare d
  bare-bare null = refl
  bare-bare (boolean b) = refl
  bare-bare (number n) = refl
  bare-bare (string s) = refl
  bare-bare (array ds) = ap array (bare_items-bare ds)
  bare-bare (object ms) = ap object (bare_members-bare ms)

  bare_items-bare : (ds : Items) → bare_items (bare_items ds) ≡ bare_items ds
  bare_items-bare no_items = refl
  bare_items-bare (item d ds) = λ i. item (bare-bare d i) (bare_items-bare ds i)

  bare_members-bare : (ms : Members) → bare_members (bare_members ms) ≡ bare_members ms
  bare_members-bare no_members = refl
  bare_members-bare (member k d ms) = kept_twice k (bare d) (bare_members ms) (bare-bare d) (bare_members-bare ms) (is_comment k) refl

-- ---- the members of a map, one after another

below_middle : (first : Entry) (es : List Entry) (e : Entry) (more : List Entry) → AllByRecursion (λ y. string_cmp first.0 y ≡ Less) (keys_of (es ++ e ∷ more)) → string_cmp first.0 e.0 ≡ Less
below_middle first [] e more h = h.0
below_middle first (x ∷ es) e more h = below_middle first es e more h.1

-- a comment adds nothing
bare-comment : (done : List Entry) (e : Entry) → is_comment (string_bytes e.0) ≡ true → bare_members (members_view (done ++ e ∷ [])) ≡ bare_members (members_view done)
bare-comment [] e comment = rw comment refl
bare-comment (first ∷ done) e comment =
    ap (λ ms. cond (is_comment (string_bytes first.0)) ms (member (string_bytes first.0) (bare (view first.1)) ms)) (bare-comment done e comment)

-- and another member, whose key is above those before it, goes last
bare-last : (done : List Entry) (e : Entry) (more : List Entry) → IsStrictlySortedBy string_cmp (keys_of (done ++ e ∷ more)) → is_comment (string_bytes e.0) ≡ false
    → put (string_bytes e.0) (bare (view e.1)) (bare_members (members_view done)) ≡ bare_members (members_view (done ++ e ∷ []))
unfolding IsStrictlySortedBy
bare-last [] e more h plain = rw plain refl
bare-last (first ∷ done) e more h plain =
    let k = string_bytes e.0 in
    let d = bare (view e.1) in
    let l = string_bytes first.0 in
    let above : slice_cmp nat_cmp k l ≡ Greater =
    nat_list_cmp_total.antisymm k l ∙ ap ordering_reverse (below_middle first done e more h.0) in
    let later = bare-last done e more h.1 plain in
    let rest = bare_members (members_view done) in
    let all = bare_members (members_view (done ++ e ∷ [])) in
    let cases = elim (is_comment l) as (λ b. put k d (cond b rest (member l (bare (view first.1)) rest)) ≡ cond b all (member l (bare (view first.1)) all)) [
      | true ↦ later
      | false ↦ rw above (ap (member l (bare (view first.1))) later)
    ] in
    cases

-- so the next member is put where it belongs
pub bare-next : (done : List Entry) (e : Entry) (more : List Entry) → IsStrictlySortedBy string_cmp (keys_of (done ++ e ∷ more))
    → with_plain (string_bytes e.0) (bare (view e.1)) (bare_members (members_view done)) ≡ bare_members (members_view (done ++ e ∷ []))
bare-next done e more sorted =
    let rest = bare_members (members_view done) in
    let cases = elim (is_comment (string_bytes e.0)) as (λ b. is_comment (string_bytes e.0) ≡ b → cond b rest (put (string_bytes e.0) (bare (view e.1)) rest) ≡ bare_members (members_view (done ++ e ∷ []))) [
      | true ↦ λ is. sym (bare-comment done e is)
      | false ↦ λ is. bare-last done e more sorted is
    ] in
    cases refl

-- ---- the items of a list

bare_items-map : (ds : List Data) → bare_items (items_of ds) ≡ items_of (map bare ds)
bare_items-map [] = refl
bare_items-map (d ∷ ds) = ap (item (bare d)) (bare_items-map ds)

pub items_copied : (made items : List Value) → map view made ≡ map bare (map view items) → items_view made ≡ bare_items (items_view items)
items_copied made items same = ap items_of same ∙ sym (bare_items-map (map view items))

-- ---- what is copied is plain: names ascend, and none is a comment

above_all : (k l : List ℕ) (ms : Members) → slice_cmp nat_cmp k l ≡ Less → AreAbove l ms → AreAbove k ms
above_all k l no_members below above = tt
above_all k l (member n d ms) below above = (nat_list_cmp_total.trans k l n below above.0, above_all k l ms below above.1)

above_put : (j k : List ℕ) (d : Data) (ms : Members) → slice_cmp nat_cmp j k ≡ Less → AreAbove j ms → AreAbove j (put k d ms)
above_put j k d no_members below above = (below, tt)
above_put j k d (member l e ms) below above =
    elim (slice_cmp nat_cmp k l) as (λ o. AreAbove j (match_ordering o (member k d (member l e ms)) (member l d ms) (member l e (put k d ms)))) [
      | Less ↦ (below, above)
      | Equal ↦ above
      | Greater ↦ (above.0, above_put j k d ms below above.1)
    ]

plain_put : (k : List ℕ) (d : Data) (ms : Members) → is_comment k ≡ false → IsPlain d → ArePlain ms → ArePlain (put k d ms)
plain_put k d no_members plain one all = (plain, tt, one, tt)
plain_put k d (member l e ms) plain one all =
    let cases = elim (slice_cmp nat_cmp k l) as (λ o. slice_cmp nat_cmp k l ≡ o → ArePlain (match_ordering o (member k d (member l e ms)) (member l d ms) (member l e (put k d ms)))) [
      | Less ↦ λ is. (plain, (is, above_all k l ms is all.1), one, all)
      | Equal ↦ λ is. (all.0, all.1, one, all.3)
      | Greater ↦ λ is. let below : slice_cmp nat_cmp l k ≡ Less = nat_list_cmp_total.antisymm l k ∙ ap ordering_reverse is in
          (all.0, above_put l k d ms below all.1, all.2, plain_put k d ms plain one all.3)
    ] in
    cases refl

pub plain_with : (k : List ℕ) (d : Data) (ms : Members) → IsPlain d → ArePlain ms → ArePlain (with_plain k d ms)
plain_with k d ms one all =
    let cases = elim (is_comment k) as (λ b. is_comment k ≡ b → ArePlain (cond b ms (put k d ms))) [
      | true ↦ λ is. all
      | false ↦ λ is. plain_put k d ms is one all
    ] in
    cases refl

pub plain_items-push : (vs : List Value) (v : Value) → ArePlainItems (items_view vs) → IsPlain (view v) → ArePlainItems (items_view (vs ++ v ∷ []))
plain_items-push [] v all one = (one, tt)
plain_items-push (x ∷ vs) v all one = (all.0, plain_items-push vs v all.1 one)

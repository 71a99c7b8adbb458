-- What is left of the members after one was taken.
use Rattle.std.proofs.Common.{◌≡◌, ◌≢◌, ℕ, List, Bool, true, false, cond, Option, Some, None, Ordering, Less, Equal, Greater, nat_cmp, is_eq, bytes_eq, refl, sym, ap, ◌∙◌, true≢false}
use Rattle.std.proofs.lemmas.Map.Text.{is_eq-slice_cmp}
use Rattle.std.proofs.lemmas.Slice.Eq.{bytes_eq-Decides}
use Rattle.std.specs.Cmp.Lexicographic.{slice_cmp}
use Rattle.std.specs.Ordering.{match_ordering}
use Rattle.serde_json.specs.Data.{Data, Members, no_members, member}
use Rattle.serde_json.specs.Find.{get_member}
use Rattle.ps_json.specs.Fields.{without_member}

passed_at : (o : Ordering) (a b : Option Data) → is_eq o ≡ false → match_ordering o a b a ≡ a
passed_at Less a b differ = refl
passed_at Equal a b differ = absurd (true≢false differ)
passed_at Greater a b differ = refl

-- a member of another name is passed over
passed : (name k : List ℕ) (d : Data) (ms : Members) → bytes_eq name k ≡ false → get_member name (member k d ms) ≡ get_member name ms
passed name k d ms differ = passed_at (slice_cmp nat_cmp name k) _ _ (is_eq-slice_cmp name k ∙ differ)

differ_by : (xs ys : List ℕ) (b : Bool) → bytes_eq xs ys ≡ b → xs ≢ ys → b ≡ false
differ_by xs ys true same other = absurd (other ((bytes_eq-Decides xs ys).0 same))
differ_by xs ys false same other = refl

pub get_member-without : (name : List ℕ) (ms : Members) → get_member name (without_member name ms) ≡ None
get_member-without name no_members = refl
get_member-without name (member k d ms) =
    let cases = elim (bytes_eq name k) as (λ b. bytes_eq name k ≡ b → get_member name (cond b (without_member name ms) (member k d (without_member name ms))) ≡ None) [
      | true ↦ λ _. get_member-without name ms
      | false ↦ λ differ. passed name k d _ differ ∙ get_member-without name ms
    ] in
    cases refl

pub get_member-without_other : (name other : List ℕ) (ms : Members) → other ≢ name → get_member other (without_member name ms) ≡ get_member other ms
get_member-without_other name other no_members apart = refl
get_member-without_other name other (member k d ms) apart =
    let later = get_member-without_other name other ms apart in
    let cases = elim (bytes_eq name k) as (λ b. bytes_eq name k ≡ b → get_member other (cond b (without_member name ms) (member k d (without_member name ms))) ≡ get_member other (member k d ms)) [
      | true ↦ λ same. let here : name ≡ k = (bytes_eq-Decides name k).0 same in
          later ∙ sym (passed other k d ms (differ_by other k _ refl (λ e. apart (e ∙ sym here))))
      | false ↦ λ _. ap (λ r. match_ordering (slice_cmp nat_cmp other k) r (Some d) r) later
    ] in
    cases refl

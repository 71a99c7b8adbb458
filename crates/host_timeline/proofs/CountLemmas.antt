-- How many bookings pass a test, after an edit of their list.
use Rattle.std.proofs.Common.{◌≡◌, ◌∙◌, ◌≤◌, ◌+◌, List, [], ◌∷◌, length, Bool, true, false, cond, not, ◌&&◌, eqb, map, Some, None, refl, sym, ap, arith}
use Rattle.std.specs.List.{filter, list_all, AllByRecursion}
use Rattle.std.specs.Ordering.{match_ordering, is_eq}
use Rattle.std.specs.declared.cmp.Ordering.{Ordering}
use Rattle.std.specs.declared.cmp.Ordering.TheVariants.{Less, Equal, Greater}
use Rattle.std.proofs.lemmas.Bool.Decides.{nat_tests}
use Rattle.ps_time.specs.Sorted.{find_key, insert_key}
use Rattle.host_timeline.specs.declared.booking.Booking.{Booking}
use Rattle.host_timeline.specs.Lane.{how_many}

module _ (q : Booking → Bool) where
  pub count_filter : (p : Booking → Bool) (bs : List Booking) → how_many q (filter p bs) ≡ how_many (λ b. p b && q b) bs
  count_filter p [] = refl
  count_filter p (b ∷ bs) =
      let rest = count_filter p bs in
      elim (p b) as (λ x. how_many q (cond x (b ∷ filter p bs) (filter p bs)) ≡ (cond (x && q b) 1 0) + how_many (λ b. p b && q b) bs) [
        | true ↦ ap (λ n. (cond (q b) 1 0) + n) rest
        | false ↦ rest ∙ omega arith
      ]

  pub count_map : (f : Booking → Booking) (bs : List Booking) → how_many q (map f bs) ≡ how_many (λ b. q (f b)) bs
  count_map f [] = refl
  count_map f (b ∷ bs) = ap (λ n. (cond (q (f b)) 1 0) + n) (count_map f bs)

  pub count_insert : {K : Type 0} (cmp : K → K → Ordering) (key : Booking → K) (bs : List Booking) (y : Booking) → how_many q (insert_key cmp key bs y) ≡ (cond (q y) 1 0) + how_many q bs
  count_insert cmp key [] y = refl
  count_insert cmp key (b ∷ bs) y =
      let later : (cond (q b) 1 0) + how_many q (insert_key cmp key bs y) ≡ (cond (q y) 1 0) + ((cond (q b) 1 0) + how_many q bs) = ap (λ n. (cond (q b) 1 0) + n) (count_insert cmp key bs y) ∙ omega arith in
      elim (cmp (key b) (key y)) as (λ c. how_many q (match_ordering c (b ∷ insert_key cmp key bs y) (b ∷ insert_key cmp key bs y) (y ∷ b ∷ bs)) ≡ (cond (q y) 1 0) + ((cond (q b) 1 0) + how_many q bs)) [
        | Less ↦ later
        | Equal ↦ later
        | Greater ↦ refl
      ]

  -- all pass where as many as none fail
  pub all_none : (bs : List Booking) → list_all q bs ≡ eqb (how_many (λ b. not (q b)) bs) 0
  all_none [] = refl
  all_none (b ∷ bs) =
      let rest = how_many (λ b. not (q b)) bs in
      let some : eqb (1 + rest) 0 ≡ false = grind (arith, nat_tests) in
      let none : eqb rest 0 ≡ eqb (0 + rest) 0 = ap (λ n. eqb n 0) (omega arith) in
      elim (q b) as (λ x. (x && list_all q bs) ≡ eqb ((cond (not x) 1 0) + rest) 0) [
        | true ↦ all_none bs ∙ none
        | false ↦ sym some
      ]

pub count_all : (bs : List Booking) → how_many (λ b. true) bs ≡ length bs
count_all [] = refl
count_all (b ∷ bs) = ap (λ n. 1 + n) (count_all bs) ∙ omega arith

module _ (p q : Booking → Bool) where
  pub count_same : (bs : List Booking) → AllByRecursion (λ b. p b ≡ q b) bs → how_many p bs ≡ how_many q bs
  count_same [] all = refl
  count_same (b ∷ bs) all = rw (all.0, count_same bs all.1) refl

  pub count_alike : ((b : Booking) → p b ≡ q b) → (bs : List Booking) → how_many p bs ≡ how_many q bs
  count_alike same [] = refl
  count_alike same (b ∷ bs) = rw (same b, count_alike same bs) refl

  pub count_less : ((b : Booking) → p b ≡ true → q b ≡ true) → (bs : List Booking) → how_many p bs ≤ how_many q bs
  count_less implies [] = omega arith
  count_less implies (b ∷ bs) =
      let rest = count_less implies bs in
      let cases = elim (p b) as (λ x. (x ≡ true → q b ≡ true) → (cond x 1 0) + how_many p bs ≤ (cond (q b) 1 0) + how_many q bs) [
        | true ↦ λ f. rw (f refl) (omega (arith, rest))
        | false ↦ λ f. omega (arith, rest)
      ] in
      cases (implies b)

module _ {K : Type 0} (cmp : K → K → Ordering) (key : Booking → K) (k : K) where
  -- nothing is found where none has the key
  pub found_none : (bs : List Booking) → find_key cmp key bs k ≡ None → how_many (λ b. is_eq (cmp (key b) k)) bs ≡ 0
  found_none [] none = refl
  found_none (b ∷ bs) none =
      let cases = elim (is_eq (cmp (key b) k)) as (λ x. cond x (Some b) (find_key cmp key bs k) ≡ None → (cond x 1 0) + how_many (λ b. is_eq (cmp (key b) k)) bs ≡ 0) [
        | true ↦ λ e. cc
        | false ↦ λ e. omega (arith, found_none bs e)
      ] in
      cases none

  pub none_found : (bs : List Booking) → how_many (λ b. is_eq (cmp (key b) k)) bs ≡ 0 → find_key cmp key bs k ≡ None
  none_found [] none = refl
  none_found (b ∷ bs) none =
      let cases = elim (is_eq (cmp (key b) k)) as (λ x. (cond x 1 0) + how_many (λ b. is_eq (cmp (key b) k)) bs ≡ 0 → cond x (Some b) (find_key cmp key bs k) ≡ None) [
        | true ↦ λ e. absurd (omega (arith, e))
        | false ↦ λ e. none_found bs (omega (arith, e))
      ] in
      cases none

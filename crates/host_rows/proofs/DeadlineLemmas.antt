-- Deadlines in order: what a search finds, which are there as one comes or goes, and which have come.
use Rattle.std.proofs.Common.{◌≡◌, ◌+◌, ◌<◌, ◌≤◌, ◌==◌, ◌||◌, ◌∙◌, ◌⊎◌, inl, inr, ℕ, suc, Bool, true, false, cond, not, List, [], ◌∷◌, length, drop, get_or, nat_le, Option, Some, None, IfSome, refl, ap, ap₂, sym, subst, drop-cons, add-one, arith, rules}
use Rattle.std.proofs.Math.Bool.{or-true}
use Rattle.std.proofs.Math.ListN.{drop_of_length-le}
use Rattle.std.proofs.lemmas.Bool.{cases_lt}
use Rattle.std.proofs.lemmas.Bool.Decides.{nat_tests}
use Rattle.std.proofs.lemmas.Cmp.{tied_itself}
use Rattle.std.proofs.lemmas.List.{get_or_default}
use Rattle.std.specs.Cmp.{Equal-is, IsTotalOrder}
use Rattle.std.specs.Cmp.Rules.{comparing}
use Rattle.std.specs.List.{list_any, insert, remove, AllByRecursion}
use Rattle.std.specs.List.Sorted.{IsPartitionedBy, IsPartitionPoint}
use Rattle.std.specs.Option.{option_eq}
use Rattle.std.specs.Ordering.{is_eq, is_lt, match_ordering, nat_cmp, ordering_then}
use Rattle.std.specs.declared.cmp.Ordering.{Ordering}
use Rattle.std.specs.declared.cmp.Ordering.TheVariants.{Less, Equal, Greater}
use Rattle.ps_time.specs.Key.{key_cmp}
use Rattle.ps_time.specs.Sorted.{replace_key}
use Rattle.ps_time.specs.declared.key.RunKey.{RunKey}
use Rattle.ps_time.proofs.KeyLemmas.{key_cmp_same, same_key}
use Rattle.ps_time.proofs.SortedLemmas.{ascending_at, find_in_gap, insert_in_gap, insert-without, find_at, without_at, without_in_gap, ascending-without, ascending-insert}
use Rattle.host_rows.specs.Deadlines.{deadline_cmp, drop_deadline, due_keys, filed, has_deadline, is_among, is_before, lifted, one_if, refiled, with_deadline, IsAscendingDeadlines, IsGapFor, IsPlaceOf}
use Rattle.host_rows.specs.declared.deadlines.Deadline.{Deadline}

-- ---- the order
pub deadline_cmp_total : IsTotalOrder deadline_cmp
deadline_cmp_total = search (comparing, rules) depth 9

abbrev of : ℕ → RunKey → Deadline
of m k = record { moment = m; key = k }

same_deadline : (a b : Deadline) → deadline_cmp a b ≡ Equal → a ≡ b
same_deadline a b same = go (nat_cmp a.moment b.moment) refl same
  where
    go : (c : Ordering) → nat_cmp a.moment b.moment ≡ c → ordering_then c (key_cmp a.key b.key) ≡ Equal → a ≡ b
    go Less is e = cc
    go Greater is e = cc
    go Equal is e = let moment : a.moment ≡ b.moment = grind (arith, nat_tests) in ap₂ (λ m k. of m k) moment (same_key a.key b.key e)

deadline_is : (a b : Deadline) → is_eq (deadline_cmp a b) ≡ true → a ≡ b
deadline_is a b e = same_deadline a b ((Equal-is (deadline_cmp a b)).0 e)

itself : (d : Deadline) → is_eq (deadline_cmp d d) ≡ true
itself d = ap is_eq (tied_itself deadline_cmp_total d)

-- ---- what a search finds, and an edit at that place
abbrev own : Deadline → Deadline
own d = d

is_less : (o : Ordering) → is_lt o ≡ true → o ≡ Less
is_less Less is = refl
is_less Equal is = cc
is_less Greater is = cc

-- so many stand before the deadline
abbrev pub Parts : List Deadline → Deadline → ℕ → Type 0
Parts ds d at = IsPartitionPoint (λ e. is_before d e ≡ true) (λ e. is_before d e ≡ false) ds at

module _ (ds : List Deadline) (up : IsAscendingDeadlines ds) (d : Deadline) where
  pub before_parted : IsPartitionedBy (is_before d) ds
  before_parted i j e le within before = go (cases_lt i j)
    where
      go : (i < j) ⊎ (j ≤ i) → is_before d (get_or ds i e) ≡ true
      go (inl less) =
          ap is_lt (deadline_cmp_total.trans (get_or ds i e) (get_or ds j e) d (ascending_at deadline_cmp_total own ds up i j e less within) (is_less (deadline_cmp (get_or ds j e) d) before))
      go (inr same) = subst (λ n. is_before d (get_or ds n e) ≡ true) (omega (arith, le, same)) before

  -- one that equals it is the first that doesn't stand before it
  pub parted_at : (at i : ℕ) (e : Deadline) → Parts ds d at → i < length ds → deadline_cmp (get_or ds i e) d ≡ Equal → at ≡ i
  parted_at at i e parts within same = go (cases_lt i at) (cases_lt at i)
    where
      go : (i < at) ⊎ (at ≤ i) → (at < i) ⊎ (i ≤ at) → at ≡ i
      go (inl less) c = let wrong = sym (ap is_lt same) ∙ parts.0 i e (omega arith) less in cc
      go (inr le) (inl less) =
          let below = ascending_at deadline_cmp_total own ds up at i e less within in
          let before = subst (λ x. deadline_cmp (get_or ds at e) x ≡ Less) (same_deadline (get_or ds i e) d same) below in
          let wrong = sym (ap is_lt before) ∙ parts.1 at e (omega arith) (omega (arith, less, within)) in cc
      go (inr le) (inr ge) = omega (arith, le, ge)

  pub gap_found : (at : ℕ) → at ≤ length ds → Parts ds d at → (at < length ds → (e : Deadline) → is_eq (deadline_cmp (get_or ds at e) d) ≡ false) → IsGapFor ds d at
  gap_found at within parts other = record {
    within = within;
    parted = (λ i e low high. is_less (deadline_cmp (get_or ds i e) d) (parts.0 i e low high), λ i e low high. above i e high (parts.1 i e low high) (deadline_cmp (get_or ds i e) d) refl);
  }
    where
      above : (i : ℕ) (e : Deadline) → i < length ds → is_before d (get_or ds i e) ≡ false → (o : Ordering) → deadline_cmp (get_or ds i e) d ≡ o → o ≡ Greater
      above i e high late Less is = let wrong = sym (ap is_lt is) ∙ late in cc
      above i e high late Equal is =
          let here : at ≡ i = parted_at at i e parts high is in
          let wrong = sym (ap (λ n. is_eq (deadline_cmp (get_or ds n e) d)) here ∙ ap is_eq is) ∙ other (omega (arith, here, high)) e in cc
      above i e high late Greater is = refl

  pub drop_place : (i : ℕ) → IsPlaceOf ds d i → drop_deadline ds d ≡ remove ds i
  drop_place i place = without_at deadline_cmp_total own ds d i d up place.within (place.same d)

  replaced : (es : List Deadline) → replace_key deadline_cmp own es d d ≡ es
  replaced [] = refl
  replaced (e ∷ es) = ap₂ (λ x l. x ∷ l) (go (is_eq (deadline_cmp e d)) refl) (replaced es)
    where
      go : (b : Bool) → is_eq (deadline_cmp e d) ≡ b → cond b d e ≡ e
      go true same = sym (deadline_is e d same)
      go false other = refl

  -- what is put where it is already stays
  pub put_place : (i : ℕ) → IsPlaceOf ds d i → with_deadline (drop_deadline ds d) d ≡ ds
  put_place i place = insert-without deadline_cmp_total own ds d (get_or ds i d) d up (find_at deadline_cmp_total own ds d i d up place.within (place.same d)) (tied_itself deadline_cmp_total d) ∙ replaced ds

-- one that stands at two places stands at one
pub one_place : (ds : List Deadline) → IsAscendingDeadlines ds → (i j : ℕ) (a b : Deadline) → i < length ds → j < length ds → a ≡ get_or ds i a → b ≡ get_or ds j b → is_eq (deadline_cmp a b) ≡ true → i ≡ j
one_place ds up i j a b first second at_i at_j same = go (cases_lt i j) (cases_lt j i)
  where
    here : a ≡ b
    here = deadline_is a b same

    apart : (k l : ℕ) → k < l → l < length ds → a ≡ get_or ds k a → a ≡ get_or ds l a → ⊥
    apart k l less within low high =
        let lower = ascending_at deadline_cmp_total own ds up k l a less within in
        let tied = ap₂ deadline_cmp (sym low) (sym high) ∙ tied_itself deadline_cmp_total a in
        cc (lower, tied)

    at_j_too : a ≡ get_or ds j a
    at_j_too = subst (λ x. x ≡ get_or ds j x) (sym here) at_j

    go : (i < j) ⊎ (j ≤ i) → (j < i) ⊎ (i ≤ j) → i ≡ j
    go (inl less) c = absurd (apart i j less second at_i at_j_too)
    go (inr le) (inl less) = absurd (apart j i less first at_j_too at_i)
    go (inr le) (inr ge) = omega (arith, le, ge)

pub drop_gap : (ds : List Deadline) (d : Deadline) (i : ℕ) → IsGapFor ds d i → drop_deadline ds d ≡ ds
drop_gap ds d i gap = without_in_gap deadline_cmp_total own ds d i gap.parted

pub put_gap : (ds : List Deadline) (d : Deadline) (i : ℕ) → IsGapFor ds d i → with_deadline (drop_deadline ds d) d ≡ insert ds i d
put_gap ds d i gap = ap (λ l. with_deadline l d) (drop_gap ds d i gap) ∙ insert_in_gap deadline_cmp_total own ds d i gap.within gap.parted

pub ascending_put : (ds : List Deadline) (d : Deadline) (i : ℕ) → IsAscendingDeadlines ds → IsGapFor ds d i → IsAscendingDeadlines (insert ds i d)
ascending_put ds d i up gap = rw (← insert_in_gap deadline_cmp_total own ds d i gap.within gap.parted) (ascending-insert deadline_cmp_total own ds d up (find_in_gap deadline_cmp_total own ds d i gap.parted))

pub ascending_remove : (ds : List Deadline) (i : ℕ) (d : Deadline) → IsAscendingDeadlines ds → i < length ds → IsAscendingDeadlines (remove ds i)
ascending_remove ds i d up within =
    let e = get_or ds i d in
    let place : IsPlaceOf ds e i = record { within = within; same = λ x. ap (λ y. deadline_cmp y e) (get_or_default ds i x d within) ∙ tied_itself deadline_cmp_total e } in
    rw (← drop_place ds up e i place) (ascending-without deadline_cmp_total own ds e up)

-- ---- which are there
pub swap : (a b c : Bool) → (a || (b || c)) ≡ (b || (a || c))
swap true true c = refl
swap true false c = refl
swap false true c = refl
swap false false c = refl

any_with : (p : Deadline → Bool) (ds : List Deadline) (d : Deadline) → list_any p (with_deadline ds d) ≡ (p d || list_any p ds)
any_with p [] d = refl
any_with p (x ∷ xs) d = go (deadline_cmp x d) (ap (λ t. p x || t) (any_with p xs d) ∙ swap (p x) (p d) (list_any p xs))
  where
    go : (c : Ordering) → list_any p (x ∷ with_deadline xs d) ≡ (p d || list_any p (x ∷ xs)) → list_any p (match_ordering c (x ∷ with_deadline xs d) (x ∷ with_deadline xs d) (d ∷ x ∷ xs)) ≡ (p d || list_any p (x ∷ xs))
    go Less later = later
    go Equal later = later
    go Greater later = refl

has_dropped : (ds : List Deadline) (d e : Deadline) → is_eq (deadline_cmp d e) ≡ false → has_deadline ds e ≡ true → has_deadline (drop_deadline ds d) e ≡ true
has_dropped [] d e other has = cc
has_dropped (x ∷ xs) d e other has = go (is_eq (deadline_cmp x d)) refl has (has_dropped xs d e other)
  where
    stays : (b : Bool) → (b || has_deadline xs e) ≡ true → (has_deadline xs e ≡ true → has_deadline (drop_deadline xs d) e ≡ true) → (b || has_deadline (drop_deadline xs d) e) ≡ true
    stays true there later = refl
    stays false there later = later there

    go : (b : Bool) → is_eq (deadline_cmp x d) ≡ b → (is_eq (deadline_cmp x e) || has_deadline xs e) ≡ true → (has_deadline xs e ≡ true → has_deadline (drop_deadline xs d) e ≡ true)
        → has_deadline (cond (not b) (x ∷ drop_deadline xs d) (drop_deadline xs d)) e ≡ true
    go true is there later =
        let off : is_eq (deadline_cmp x e) ≡ false = ap (λ y. is_eq (deadline_cmp y e)) (deadline_is x d is) ∙ other in
        later (ap (λ b. b || has_deadline xs e) (sym off) ∙ there)
    go false is there later = stays (is_eq (deadline_cmp x e)) there later

length_with : (ds : List Deadline) (d : Deadline) → length (with_deadline ds d) ≡ suc (length ds)
length_with [] d = refl
length_with (x ∷ xs) d =
    let later = ap suc (length_with xs d) in
    elim (deadline_cmp x d) as (λ c. length (match_ordering c (x ∷ with_deadline xs d) (x ∷ with_deadline xs d) (d ∷ x ∷ xs)) ≡ suc (suc (length xs))) [
      | Less ↦ later
      | Equal ↦ later
      | Greater ↦ refl
    ]

length_dropped : (ds : List Deadline) (d : Deadline) → length (drop_deadline ds d) ≤ length ds
length_dropped [] d = omega arith
length_dropped (x ∷ xs) d = go (is_eq (deadline_cmp x d)) (length_dropped xs d)
  where
    go : (b : Bool) → length (drop_deadline xs d) ≤ length xs → length (cond (not b) (x ∷ drop_deadline xs d) (drop_deadline xs d)) ≤ suc (length xs)
    go true later = omega (arith, later)
    go false later = omega (arith, later)

length_without : (ds : List Deadline) (d : Deadline) → has_deadline ds d ≡ true → length (drop_deadline ds d) + 1 ≤ length ds
length_without [] d has = cc
length_without (x ∷ xs) d has = go (is_eq (deadline_cmp x d)) has (length_dropped xs d) (length_without xs d)
  where
    go : (b : Bool) → (b || has_deadline xs d) ≡ true → length (drop_deadline xs d) ≤ length xs → (has_deadline xs d ≡ true → length (drop_deadline xs d) + 1 ≤ length xs) → length (cond (not b) (x ∷ drop_deadline xs d) (drop_deadline xs d)) + 1 ≤ suc (length xs)
    go true there less later = omega (arith, less)
    go false there less later = let fewer = later there in omega (arith, fewer)

-- ---- one key's deadline comes and goes
module _ (k : RunKey) where
  other : (m : ℕ) (e : Deadline) → is_eq (key_cmp e.key k) ≡ false → is_eq (deadline_cmp (of m k) e) ≡ false
  other m e off = go (is_eq (deadline_cmp (of m k) e)) refl
    where
      go : (b : Bool) → is_eq (deadline_cmp (of m k) e) ≡ b → b ≡ false
      go false is = refl
      go true is =
          let same : e.key ≡ k = sym (ap (λ (d : Deadline). d.key) (deadline_is (of m k) e is)) in
          let yes : is_eq (key_cmp e.key k) ≡ true = ap (λ j. is_eq (key_cmp j k)) same ∙ ap is_eq (key_cmp_same k) in
          sym yes ∙ off

  pub lifted_keeps : (o : Option ℕ) (ds : List Deadline) (e : Deadline) → is_eq (key_cmp e.key k) ≡ false → has_deadline ds e ≡ true → has_deadline (lifted k o ds) e ≡ true
  lifted_keeps None ds e off has = has
  lifted_keeps (Some m) ds e off has = has_dropped ds (of m k) e (other m e off) has

  pub filed_keeps : (o : Option ℕ) (ds : List Deadline) (e : Deadline) → has_deadline ds e ≡ true → has_deadline (filed k o ds) e ≡ true
  filed_keeps None ds e has = has
  filed_keeps (Some m) ds e has = any_with (λ x. is_eq (deadline_cmp x e)) (drop_deadline ds (of m k)) (of m k) ∙ go (is_eq (deadline_cmp (of m k) e)) refl
    where
      go : (b : Bool) → is_eq (deadline_cmp (of m k) e) ≡ b → (b || has_deadline (drop_deadline ds (of m k)) e) ≡ true
      go true is = refl
      go false is = has_dropped ds (of m k) e is has

  filed_own : (m : ℕ) (ds : List Deadline) → has_deadline (filed k (Some m) ds) (of m k) ≡ true
  filed_own m ds = any_with (λ x. is_eq (deadline_cmp x (of m k))) (drop_deadline ds (of m k)) (of m k) ∙ ap (λ b. b || has_deadline (drop_deadline ds (of m k)) (of m k)) (itself (of m k))

  pub length_lifted : (o : Option ℕ) (ds : List Deadline) → length (lifted k o ds) ≤ length ds
  length_lifted None ds = omega arith
  length_lifted (Some m) ds = length_dropped ds (of m k)

  -- the deadline is there, where there is one
  abbrev pub IsThere : Option ℕ → List Deadline → Type 0
  IsThere o ds = IfSome o (λ m. has_deadline ds (record { moment = m; key = k }) ≡ true)

  pub length_lifted_own : (o : Option ℕ) (ds : List Deadline) → IsThere o ds → length (lifted k o ds) + one_if o ≤ length ds
  length_lifted_own None ds there = omega arith
  length_lifted_own (Some m) ds there = length_without ds (of m k) there

  pub length_filed : (o : Option ℕ) (ds : List Deadline) → length (filed k o ds) ≤ length ds + one_if o
  length_filed None ds = omega arith
  length_filed (Some m) ds = let more = length_with (drop_deadline ds (of m k)) (of m k) in let less = length_dropped ds (of m k) in omega (arith, more, less)

  same_moment : (a b : Option ℕ) → option_eq (λ x y. x == y) a b ≡ true → a ≡ b
  same_moment None None e = refl
  same_moment None (Some y) e = cc
  same_moment (Some x) None e = cc
  same_moment (Some x) (Some y) e = let is : x ≡ y = grind (arith, nat_tests) in ap Some is

  module _ (before after : Option ℕ) (ds : List Deadline) where
    abbrev alike : Bool
    alike = option_eq (λ a b. a == b) before after

    pub refiled_keeps : (e : Deadline) → is_eq (key_cmp e.key k) ≡ false → has_deadline ds e ≡ true → has_deadline (refiled k before after ds) e ≡ true
    refiled_keeps e off has = elim alike as (λ b. has_deadline (cond b ds (filed k after (lifted k before ds))) e ≡ true) [
      | true ↦ has
      | false ↦ filed_keeps after (lifted k before ds) e (lifted_keeps before ds e off has)
    ]

    pub refiled_own : IsThere before ds → IsThere after (refiled k before after ds)
    refiled_own there = go alike refl
      where
        new : (o : Option ℕ) (es : List Deadline) → IsThere o (filed k o es)
        new None es = tt
        new (Some m) es = filed_own m es

        go : (b : Bool) → alike ≡ b → IsThere after (cond b ds (filed k after (lifted k before ds)))
        go true is = subst (λ o. IsThere o ds) (same_moment before after is) there
        go false is = new after (lifted k before ds)

    pub length_refiled : IsThere before ds → length (refiled k before after ds) + one_if before ≤ length ds + one_if after
    length_refiled there = go alike refl
      where
        go : (b : Bool) → alike ≡ b → length (cond b ds (filed k after (lifted k before ds))) + one_if before ≤ length ds + one_if after
        go true is = let same = ap one_if (same_moment before after is) in omega (arith, same)
        go false is = let less = length_lifted_own before ds there in let more = length_filed after (lifted k before ds) in omega (arith, less, more)

  -- one that comes, where there was none
  pub refiled_more : (after : Option ℕ) (ds : List Deadline) (e : Deadline) → has_deadline ds e ≡ true → has_deadline (refiled k None after ds) e ≡ true
  refiled_more after ds e has = elim (option_eq (λ a b. a == b) None after) as (λ b. has_deadline (cond b ds (filed k after ds)) e ≡ true) [ true ↦ has | false ↦ filed_keeps after ds e has ]

  -- one that goes, and none comes
  pub refiled_none : (before : Option ℕ) (ds : List Deadline) → lifted k before ds ≡ refiled k before None ds
  refiled_none None ds = refl
  refiled_none (Some m) ds = refl

-- ---- which have come
module _ (m : ℕ) where
  pub due_step : (ds : List Deadline) (i : ℕ) (d : Deadline) → i < length ds → d ≡ get_or ds i d → due_keys m (drop i ds) ≡ cond (nat_le d.moment m) (d.key ∷ due_keys m (drop (i + 1) ds)) []
  due_step ds i d within is =
      let left : drop i ds ≡ d ∷ drop (suc i) ds = drop-cons ds i d within ∙ ap (λ x. x ∷ drop (suc i) ds) (sym is) in
      ap (due_keys m) left ∙ ap (λ n. cond (nat_le d.moment m) (d.key ∷ due_keys m (drop n ds)) []) (sym (add-one i))

  pub due_end : (ds : List Deadline) (i : ℕ) → length ds ≤ i → due_keys m (drop i ds) ≡ []
  due_end ds i past = ap (due_keys m) (drop_of_length-le ds past)

  -- a deadline that is among some in order is due where it has come
  later_ones : (d : Deadline) (ds : List Deadline) (e : Deadline) → AllByRecursion (λ y. deadline_cmp d y ≡ Less) ds → has_deadline ds e ≡ true → d.moment ≤ e.moment
  later_ones d [] e above has = cc
  later_ones d (x ∷ xs) e above has = go (is_eq (deadline_cmp x e)) refl has (later_ones d xs e above.1)
    where
      no_earlier : deadline_cmp d x ≡ Less → d.moment ≤ x.moment
      no_earlier less = grind (arith, nat_tests)

      go : (b : Bool) → is_eq (deadline_cmp x e) ≡ b → (b || has_deadline xs e) ≡ true → (has_deadline xs e ≡ true → d.moment ≤ e.moment) → d.moment ≤ e.moment
      go true is there later = subst (λ y. d.moment ≤ y.moment) (deadline_is x e is) (no_earlier above.0)
      go false is there later = later there

  pub in_due : (ds : List Deadline) → IsAscendingDeadlines ds → (e : Deadline) → has_deadline ds e ≡ true → e.moment ≤ m → is_among e.key (due_keys m ds) ≡ true
  in_due [] up e has come = cc
  in_due (d ∷ ds) up e has come = go (nat_le d.moment m) refl (is_eq (deadline_cmp d e)) refl has (in_due ds up.1 e)
    where
      go : (t : Bool) → nat_le d.moment m ≡ t → (b : Bool) → is_eq (deadline_cmp d e) ≡ b → (b || has_deadline ds e) ≡ true → (has_deadline ds e ≡ true → e.moment ≤ m → is_among e.key (due_keys m ds) ≡ true)
          → is_among e.key (cond t (d.key ∷ due_keys m ds) []) ≡ true
      go true here true is there later =
          let same : is_eq (key_cmp d.key e.key) ≡ true = ap (λ (x : Deadline). is_eq (key_cmp x.key e.key)) (deadline_is d e is) ∙ ap is_eq (key_cmp_same e.key) in
          ap (λ b. b || is_among e.key (due_keys m ds)) same
      go true here false is there later = ap (λ b. is_eq (key_cmp d.key e.key) || b) (later there come) ∙ or-true (is_eq (key_cmp d.key e.key))
      go false here true is there later = let same = ap (λ (x : Deadline). x.moment) (deadline_is d e is) in absurd (grind (arith, nat_tests))
      go false here false is there later = let low = later_ones d ds e up.0 there in absurd (grind (arith, nat_tests))

  -- the first that has come goes
  module _ (k : RunKey) (ks : List RunKey) where
    pub passed : (ds : List Deadline) → due_keys m ds ≡ k ∷ ks → (e : Deadline) → (e.moment ≤ m → is_eq (key_cmp e.key k) ≡ false) → has_deadline ds e ≡ true → has_deadline (drop 1 ds) e ≡ true
    passed [] due e stays has = cc
    passed (d ∷ ds) due e stays has = go (nat_le d.moment m) refl due (is_eq (deadline_cmp d e)) refl has
      where
        go : (t : Bool) → nat_le d.moment m ≡ t → cond t (d.key ∷ due_keys m ds) [] ≡ k ∷ ks → (b : Bool) → is_eq (deadline_cmp d e) ≡ b → (b || has_deadline ds e) ≡ true → has_deadline ds e ≡ true
        go false here due b is there = cc
        go true here due false is there = there
        go true here due true is there =
            let same : d ≡ e = deadline_is d e is in
            let first : d.key ≡ k = cc in
            let come : e.moment ≤ m = subst (λ (x : Deadline). x.moment ≤ m) same (grind (arith, nat_tests)) in
            let key : e.key ≡ k = sym (ap (λ (x : Deadline). x.key) same) ∙ first in
            let yes : is_eq (key_cmp e.key k) ≡ true = ap (λ j. is_eq (key_cmp j k)) key ∙ ap is_eq (key_cmp_same k) in
            let off : is_eq (key_cmp e.key k) ≡ false = stays come in cc

    pub passed_length : (ds : List Deadline) → due_keys m ds ≡ k ∷ ks → length (drop 1 ds) + 1 ≡ length ds
    passed_length [] due = cc
    passed_length (d ∷ ds) due = omega arith

-- The keys of the live rows with those of the called ones are the keys of the rows that are live by the moment.
use Rattle.std.specs.List.{AllByRecursion}
use Rattle.std.specs.Ordering.{is_eq, ordering_reverse}
use Rattle.std.specs.declared.cmp.Ordering.{Ordering}
use Rattle.std.specs.declared.cmp.Ordering.TheVariants.{Less, Equal, Greater}
use Rattle.std.proofs.Common.{◌≡◌, ℕ, ◌+◌, ◌≤◌, Bool, true, false, not, cond, ◌&&◌, ◌||◌, nat_lt, min, List, [], ◌∷◌, Option, Some, None, IfSome, is_some, All, refl, ap, ap₂, sym, ◌∙◌, arith, if◌then◌else◌}
use Rattle.std.proofs.Math.Bool.{and-false, or-false}
use Rattle.std.proofs.lemmas.Bool.Decides.{nat_tests}
use Rattle.std.proofs.lemmas.List.Elements.{recursion_from_All}
use Rattle.ps_time.specs.Key.{key_cmp}
use Rattle.ps_time.specs.Numbers.{grace}
use Rattle.ps_time.specs.Span.{Span}
use Rattle.ps_time.specs.declared.key.RunKey.{RunKey}
use Rattle.ps_time.proofs.KeyLemmas.{key_cmp_total}
use Rattle.run_states.specs.Life.{lapse_missed, lapse_of, HasMoments, IsInTime}
use Rattle.run_states.specs.Rows.{change_row, find_row, lift_row, put_row, IsAscendingRows}
use Rattle.run_states.specs.declared.row.RunRow.{RunRow}
use Rattle.run_states.specs.declared.why.Closing.{Closing}
use Rattle.run_states.specs.declared.why.Why.TheVariants.{Missed}
use Rattle.run_states.proofs.Place.{key_is, put_back}
use Rattle.host_rows.specs.LiveKeys.{drop_key, marked, with_key}
use Rattle.host_rows.specs.Still.{has_come, is_called, is_live, is_live_by, is_waiting, keys_live_by, live_keys}
use Rattle.host_rows.proofs.WaitLemmas.{both, waiting_lapse, waiting_parts}
use Rattle.host_rows.specs.Called.{added_if, is_called_at, last_deadline, with_called}
use Rattle.host_rows.specs.Deadlines.{due_keys, is_among, latest, IsAscendingDeadlines, IsDue, Waits}
use Rattle.host_rows.specs.declared.deadlines.Deadline.{Deadline}
use Rattle.host_rows.proofs.FiledLemmas.{all_due}
use Rattle.host_rows.proofs.LiveLemmas.{keys_cons, keys_lifted, keys_passing, marked_put}
use Rattle.host_rows.proofs.RowLemmas.{change_found, each_found, found_is}

-- ---- keys
same_either : (a b : RunKey) → is_eq (key_cmp a b) ≡ is_eq (key_cmp b a)
same_either a b = ap is_eq (key_cmp_total.antisymm a b) ∙ go (key_cmp b a)
  where
    go : (o : Ordering) → is_eq (ordering_reverse o) ≡ is_eq o
    go Less = refl
    go Equal = refl
    go Greater = refl

-- rows that pass the one test pass the other
passing_same : (p q : RunRow → Bool) (rows : List RunRow) → AllByRecursion (λ r. p r ≡ q r) rows → keys_passing p rows ≡ keys_passing q rows
passing_same p q [] all = refl
passing_same p q (r ∷ rs) all = keys_cons p r rs ∙ (ap₂ (λ b ks. cond b (r.key ∷ ks) ks) all.0 (passing_same p q rs all.1) ∙ sym (keys_cons q r rs))

each_by : (P Q : RunRow → Type 0) → ((r : RunRow) → P r → Q r) → (rows : List RunRow) → AllByRecursion P rows → AllByRecursion Q rows
each_by P Q step [] all = tt
each_by P Q step (r ∷ rs) all = (step r all.0, each_by P Q step rs all.1)

-- ---- one key more
module _ (p : RunRow → Bool) (k : RunKey) where
  abbrev or_own : RunRow → Bool
  or_own x = p x || is_eq (key_cmp x.key k)

  others_same : (rows : List RunRow) → keys_passing or_own (lift_row rows k) ≡ keys_passing p (lift_row rows k)
  others_same [] = refl
  others_same (x ∷ xs) = go (is_eq (key_cmp x.key k)) refl (others_same xs)
    where
      go : (b : Bool) → is_eq (key_cmp x.key k) ≡ b → keys_passing or_own (lift_row xs k) ≡ keys_passing p (lift_row xs k) → keys_passing or_own (cond (not b) (x ∷ lift_row xs k) (lift_row xs k)) ≡ keys_passing p (cond (not b) (x ∷ lift_row xs k) (lift_row xs k))
      go true own ih = ih
      go false other ih =
          let same : or_own x ≡ p x = ap (λ b. p x || b) other ∙ or-false (p x) in
          keys_cons or_own x (lift_row xs k) ∙ (ap₂ (λ b ks. cond b (x.key ∷ ks) ks) same ih ∙ sym (keys_cons p x (lift_row xs k)))

  unchanged : (rows : List RunRow) → change_row (λ y. y) rows k ≡ rows
  unchanged [] = refl
  unchanged (x ∷ xs) = ap₂ (λ y ys. y ∷ ys) (go (is_eq (key_cmp x.key k))) (unchanged xs)
    where
      go : (b : Bool) → cond b x x ≡ x
      go true = refl
      go false = refl

  -- the key of a row comes
  one_marked : (rows : List RunRow) (r : RunRow) → IsAscendingRows rows → find_row rows k ≡ Some r → marked true (keys_passing p rows) k ≡ keys_passing or_own rows
  one_marked rows r up at =
      let own : r.key ≡ k = key_is r.key k (found_is k rows r at) in
      let back : put_row (lift_row rows k) r ≡ rows = put_back rows k r r up at own ∙ (sym (change_found (λ y. y) k r rows up at) ∙ unchanged rows) in
      let passes : or_own r ≡ true = go (p r) (found_is k rows r at) in
      let left : drop_key (keys_passing or_own rows) k ≡ drop_key (keys_passing p rows) k = sym (keys_lifted or_own rows k) ∙ (others_same rows ∙ keys_lifted p rows k) in
      sym (ap (keys_passing or_own) (sym back) ∙ (marked_put or_own rows k r up own ∙ (ap (λ b. marked b (keys_passing or_own rows) k) passes ∙ ap (λ ks. with_key ks k) left)))
    where
      go : (b : Bool) → is_eq (key_cmp r.key k) ≡ true → (b || is_eq (key_cmp r.key k)) ≡ true
      go true is = refl
      go false is = is

-- ---- all keys
module _ (m : ℕ) (rows : List RunRow) (up : IsAscendingRows rows) where
  abbrev IsFound : RunRow → Type 0
  IsFound x = find_row rows x.key ≡ Some x

  abbrev or_called : (RunRow → Bool) → List RunKey → RunRow → Bool
  or_called p due x = p x || (is_called m x && is_among x.key due)

  -- where the first key isn't that of a called row
  passed_over : (p : RunRow → Bool) (k : RunKey) (due : List RunKey) → is_called_at m (find_row rows k) ≡ false → (x : RunRow) → IsFound x → or_called p due x ≡ or_called p (k ∷ due) x
  passed_over p k due out x found = ap (λ b. p x || b) (go (is_eq (key_cmp k x.key)) refl)
    where
      go : (b : Bool) → is_eq (key_cmp k x.key) ≡ b → (is_called m x && is_among x.key due) ≡ (is_called m x && (b || is_among x.key due))
      go false other = refl
      go true same =
          let idle : is_called m x ≡ false = ap (is_called_at m) (sym found ∙ ap (find_row rows) (sym (key_is k x.key same))) ∙ out in
          ap (λ b. b && is_among x.key due) idle ∙ sym (ap (λ b. b && true) idle)

  -- where it is
  taken_in : (p : RunRow → Bool) (k : RunKey) (due : List RunKey) → is_called_at m (find_row rows k) ≡ true → (x : RunRow) → IsFound x → or_called (or_own p k) due x ≡ or_called p (k ∷ due) x
  taken_in p k due is x found = ap (λ b. (p x || b) || (is_called m x && is_among x.key due)) (same_either x.key k) ∙ go (is_eq (key_cmp k x.key)) refl
    where
      either : (a b : Bool) → b ≡ true → ((a || true) || b) ≡ (a || b)
      either true b e = refl
      either false b e = sym e

      none : (a b : Bool) → ((a || false) || b) ≡ (a || b)
      none true b = refl
      none false b = refl

      joined : (a called among : Bool) → called ≡ true → ((a || true) || (called && among)) ≡ (a || (called && true))
      joined true called among e = refl
      joined false true among e = refl
      joined false false among e = cc

      go : (b : Bool) → is_eq (key_cmp k x.key) ≡ b → ((p x || b) || (is_called m x && is_among x.key due)) ≡ (p x || (is_called m x && (b || is_among x.key due)))
      go false other = none (p x) (is_called m x && is_among x.key due)
      go true same = joined (p x) (is_called m x) (is_among x.key due) (ap (is_called_at m) (sym found ∙ ap (find_row rows) (sym (key_is k x.key same))) ∙ is)

  all_called : (due : List RunKey) (p : RunRow → Bool) → with_called m rows due (keys_passing p rows) ≡ keys_passing (or_called p due) rows
  all_called [] p = passing_same p (or_called p []) rows (each_by IsFound (λ x. p x ≡ or_called p [] x) (λ x found. sym (ap (λ b. p x || b) (and-false (is_called m x)) ∙ or-false (p x))) rows (each_found rows up))
  all_called (k ∷ due) p = go (find_row rows k) refl (is_called_at m (find_row rows k)) refl (all_called due)
    where
      go : (o : Option RunRow) → find_row rows k ≡ o → (b : Bool) → is_called_at m (find_row rows k) ≡ b → ((q : RunRow → Bool) → with_called m rows due (keys_passing q rows) ≡ keys_passing (or_called q due) rows)
          → with_called m rows due (added_if b (keys_passing p rows) k) ≡ keys_passing (or_called p (k ∷ due)) rows
      go o at false out ih = ih p ∙ passing_same (or_called p due) (or_called p (k ∷ due)) rows (each_by IsFound (λ x. or_called p due x ≡ or_called p (k ∷ due) x) (passed_over p k due out) rows (each_found rows up))
      go None at true is ih = let never : false ≡ true = sym (ap (is_called_at m) at) ∙ is in cc
      go (Some r) at true is ih =
          ap (with_called m rows due) (one_marked p k rows r up at)
          ∙ (ih (or_own p k) ∙ passing_same (or_called (or_own p k) due) (or_called p (k ∷ due)) rows (each_by IsFound (λ x. or_called (or_own p k) due x ≡ or_called p (k ∷ due) x) (taken_in p k due is) rows (each_found rows up)))

-- ---- a called row is due
missed_by : (m : ℕ) (o : Option Span) → has_come m o ≡ true → IfSome o IsInTime → is_some (lapse_missed (last_deadline m) o) ≡ true
missed_by m None come in_time = cc
missed_by m (Some s) come in_time =
    let start = in_time.0 in
    let past : nat_lt (s.start + 15) (min (m + 16) 18_446_744_073_709_551_615) ≡ true = grind (arith, nat_tests, come, start) in
    let closing : Closing = record { moment = s.start + (grace + 1); why = Missed } in
    ap (λ b. is_some (if b then Some closing else None)) past

called_lapses : (m : ℕ) (r : RunRow) → HasMoments r → is_called m r ≡ true → is_some (lapse_of (last_deadline m) r) ≡ true
called_lapses m r moments called =
    let parts = both (is_waiting r) (has_come m r.interval) called in
    ap is_some (waiting_lapse (last_deadline m) r (waiting_parts r parts.0)) ∙ missed_by m r.interval parts.1 moments.interval

-- ---- so the rows that are live by the moment are these
pub called_live : (n m : ℕ) (rows : List RunRow) (ds : List Deadline) → IsAscendingRows rows → All HasMoments rows → IsAscendingDeadlines ds → All (Waits ds) rows
    → with_called m rows (due_keys (last_deadline m) ds) (live_keys n rows) ≡ keys_live_by n m rows
called_live n m rows ds up moments ds_up waits =
    let due : List RunKey = due_keys (last_deadline m) ds in
    let within : last_deadline m ≤ latest = omega arith in
    let lapsing : AllByRecursion (IsDue (last_deadline m) due) rows = recursion_from_All (IsDue (last_deadline m) due) rows (all_due (last_deadline m) ds within ds_up rows waits) in
    all_called m rows up due (is_live n) ∙ passing_same (or_called m rows up (is_live n) due) (is_live_by n m) rows (same due rows lapsing (recursion_from_All HasMoments rows moments))
  where
    one : (r : RunRow) (due : List RunKey) → IsDue (last_deadline m) due r → HasMoments r → (b : Bool) → is_called m r ≡ b → (is_live n r || (b && is_among r.key due)) ≡ (is_live n r || b)
    one r due here moments false is = refl
    one r due here moments true is = ap (λ b. is_live n r || b) (here (called_lapses m r moments is))

    same : (due : List RunKey) (rs : List RunRow) → AllByRecursion (IsDue (last_deadline m) due) rs → AllByRecursion HasMoments rs → AllByRecursion (λ r. (is_live n r || (is_called m r && is_among r.key due)) ≡ is_live_by n m r) rs
    same due [] here moments = tt
    same due (r ∷ rs) here moments = (one r due here.0 moments.0 (is_called m r) refl, same due rs here.1 moments.1)

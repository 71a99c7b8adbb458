-- Before which moment no row that is still may go, as rows change, come and go.
use Rattle.std.specs.Ordering.{is_eq, match_ordering}
use Rattle.std.specs.declared.cmp.Ordering.{Ordering}
use Rattle.std.specs.declared.cmp.Ordering.TheVariants.{Less, Equal, Greater}
use Rattle.std.proofs.Common.{◌≡◌, ℕ, suc, ◌+◌, ◌<◌, ◌≤◌, ◌⊎◌, inl, inr, Bool, true, false, not, cond, ◌||◌, List, [], ◌∷◌, get_or, length, Option, Some, None, IfSome, All, refl, ap, ap₂, sym, subst, ◌∙◌, arith}
use Rattle.std.proofs.Math.Bool.{or-true}
use Rattle.std.proofs.lemmas.Bool.{cases_lt}
use Rattle.std.proofs.lemmas.Bool.Decides.{nat_tests}
use Rattle.std.proofs.lemmas.List.{get_or_default}
use Rattle.std.proofs.lemmas.List.Edits.{get_or-insert_below, length-insert}
use Rattle.std.proofs.lemmas.List.Elements.{All-filter, All-from_recursion, All-weaker}
use Rattle.ps_time.specs.Key.{key_cmp}
use Rattle.ps_time.specs.declared.key.RunKey.{RunKey}
use Rattle.ps_time.proofs.KeyLemmas.{key_cmp_same, key_cmp_total}
use Rattle.ps_time.proofs.SortedLemmas.{ascending_at}
use Rattle.std.specs.List.{insert}
use Rattle.run_states.specs.Purging.{is_later, is_purgeable}
use Rattle.run_states.specs.Rows.{change_row, find_row, lift_row, put_row, IsAscendingRows, IsGapFor, IsPlaceOf}
use Rattle.run_states.specs.TaskRows.{is_of_task}
use Rattle.run_states.specs.declared.row.RunRow.{RunRow}
use Rattle.run_states.proofs.Place.{changed_all, key_is, own_place, put_gap}
use Rattle.run_states.proofs.TaskLemmas.{any_later_at, next_there}
use Rattle.host_rows.proofs.LaterLemmas.{by_later, fewer_stay, has_later, later_lifted, later_put}
use Rattle.host_rows.specs.Ledger.{StaysUntil}
use Rattle.host_rows.proofs.LedgerLemmas.{all_put}
use Rattle.host_rows.proofs.LiveLemmas.{found_put}
use Rattle.host_rows.proofs.RowLemmas.{each_found, either_key, own_row}

-- ---- one row
pub stays_less : (self : ℕ) (rows : List RunRow) (a b : ℕ) (r : RunRow) → a ≤ b → StaysUntil self rows b r → StaysUntil self rows a r
stays_less self rows a b r low stays m before still = stays m (omega (arith, before, low)) still

pub stays_less_if : (self : ℕ) (rows : List RunRow) (a b : ℕ) (o : Option RunRow) → a ≤ b → IfSome o (StaysUntil self rows b) → IfSome o (StaysUntil self rows a)
stays_less_if self rows a b None low stays = tt
stays_less_if self rows a b (Some r) low stays = stays_less self rows a b r low stays

pub all_found : (rows : List RunRow) → IsAscendingRows rows → All (λ x. find_row rows x.key ≡ Some x) rows
all_found rows up = All-from_recursion (λ x. find_row rows x.key ≡ Some x) rows (each_found rows up)

-- where those before a place stay, and the one at it, those up to it do
pub one_more_stays : (self : ℕ) (rows : List RunRow) → IsAscendingRows rows → (place next until : ℕ) → until ≤ next → place < length rows → ((i : ℕ) (d : RunRow) → i < place → StaysUntil self rows next (get_or rows i d))
    → ((k : RunKey) → IsPlaceOf rows k place → IfSome (find_row rows k) (StaysUntil self rows until)) → (i : ℕ) (d : RunRow) → i < place + 1 → StaysUntil self rows until (get_or rows i d)
one_more_stays self rows up place next until earlier within before here i d low = go (cases_lt i place)
  where
    go : (i < place) ⊎ (place ≤ i) → StaysUntil self rows until (get_or rows i d)
    go (inl less) = stays_less self rows until next (get_or rows i d) earlier (before i d less)
    go (inr ge) =
        let same : i ≡ place = omega (arith, low, ge) in
        let there : i < length rows = omega (arith, same, within) in
        let own : IsPlaceOf rows (get_or rows i d).key i = own_place rows i (get_or rows i d) there (get_or_default rows i d (get_or rows i d) there) in
        subst (λ o. IfSome o (StaysUntil self rows until)) (all_found rows up i d there) (here (get_or rows i d).key (subst (λ j. IsPlaceOf rows (get_or rows i d).key j) same own))

-- ---- a row changes
module _ (f : RunRow → RunRow) (same : (r : RunRow) → (f r).key ≡ r.key) where
  later_changed : (j k : RunKey) (rows : List RunRow) → has_later j (change_row f rows k) ≡ has_later j rows
  later_changed j k [] = refl
  later_changed j k (r ∷ rs) = ap₂ (λ i t. is_later j i || t) (either_key f same (is_eq (key_cmp r.key k)) r) (later_changed j k rs)

  pub stays_changed : (self : ℕ) (rows : List RunRow) (k : RunKey) (until next : ℕ) → IsAscendingRows rows → next ≤ until → All (StaysUntil self rows until) rows
      → IfSome (find_row (change_row f rows k) k) (StaysUntil self (change_row f rows k) next) → All (StaysUntil self (change_row f rows k) next) (change_row f rows k)
  stays_changed self rows k until next up earlier stay here =
      let now : List RunRow = change_row f rows k in
      changed_all (StaysUntil self rows until) (StaysUntil self now next)
      (λ r stays m before still. by_later self m now rows r (later_changed r.key k rows) ∙ stays m (omega (arith, before, earlier)) still)
      f k (λ r. StaysUntil self now next (f r)) (λ r own stays. own) rows up (own_row f same (StaysUntil self now next) rows k (find_row rows k) refl here) stay

-- ---- a row goes
pub stays_lifted : (self : ℕ) (rows : List RunRow) (k : RunKey) (until : ℕ) → All (StaysUntil self rows until) rows → All (StaysUntil self (lift_row rows k) until) (lift_row rows k)
stays_lifted self rows k until stay =
    let now : List RunRow = lift_row rows k in
    All-filter (λ r. not (is_eq (key_cmp r.key k))) (StaysUntil self now until) rows
    (All-weaker (StaysUntil self rows until) (StaysUntil self now until) (λ r stays m before still. fewer_stay self m rows now r (later_lifted r.key k rows) (stays m before still)) rows stay)

-- ---- a row comes
kept_put : (k : RunKey) (rows : List RunRow) (n : RunRow) → is_eq (key_cmp n.key k) ≡ false → find_row (put_row rows n) k ≡ find_row rows k
kept_put k [] n other = ap (λ b. cond b (Some n) None) other
kept_put k (x ∷ xs) n other = go (key_cmp x.key n.key) (ap (λ o. cond (is_eq (key_cmp x.key k)) (Some x) o) (kept_put k xs n other))
  where
    go : (c : Ordering) → find_row (x ∷ put_row xs n) k ≡ find_row (x ∷ xs) k → find_row (match_ordering c (x ∷ put_row xs n) (x ∷ put_row xs n) (n ∷ x ∷ xs)) k ≡ find_row (x ∷ xs) k
    go Less later = later
    go Equal later = later
    go Greater later = ap (λ b. cond b (Some n) (find_row (x ∷ xs) k)) other

other_key : (rows : List RunRow) (n r : RunRow) → find_row rows n.key ≡ None → find_row rows r.key ≡ Some r → is_eq (key_cmp n.key r.key) ≡ false
other_key rows n r none at = go (is_eq (key_cmp n.key r.key)) refl
  where
    go : (b : Bool) → is_eq (key_cmp n.key r.key) ≡ b → b ≡ false
    go false is = refl
    go true is = let found : None ≡ Some r = sym none ∙ (ap (λ k. find_row rows k) (key_is n.key r.key is) ∙ at) in cc

lower_key : (a c : RunKey) → is_later a c ≡ true → key_cmp a c ≡ Less
lower_key a c later = grind (arith, nat_tests)

amid : (a c : RunKey) (x : RunRow) → is_later a c ≡ true → key_cmp a x.key ≡ Less → key_cmp x.key c ≡ Less → is_of_task a.lead a.task x ≡ true
amid a c x later low high = grind (arith, nat_tests)

-- the last row of a task before a gap for a later one stands right before it
module _ (rows : List RunRow) (up : IsAscendingRows rows) (k : RunKey) (p : ℕ) (gap : IsGapFor rows k p) (i : ℕ) (d : RunRow) (lt : i < length rows) where
  abbrev at_i : RunRow
  at_i = get_or rows i d

  right_before : has_later at_i.key rows ≡ false → is_later at_i.key k ≡ true → i + 1 ≡ p
  right_before none later = go (cases_lt i p) (cases_lt (suc i) p)
    where
      next_other : suc i < p → suc i < length rows → is_of_task at_i.key.lead at_i.key.task (get_or rows (suc i) d) ≡ false
      next_other low within =
          sym (next_there at_i.key rows (suc i) d within)
          ∙ (sym (any_later_at at_i.key rows i up lt (λ e. ap (λ (y : RunRow). key_cmp y.key at_i.key) (get_or_default rows i e d lt) ∙ key_cmp_same at_i.key)) ∙ none)

      go : (i < p) ⊎ (p ≤ i) → (suc i < p) ⊎ (p ≤ suc i) → i + 1 ≡ p
      go (inl low) (inr high) = omega (arith, low, high)
      go (inr high) c = let above = gap.parted.1 i d high lt in let below = lower_key at_i.key k later in cc
      go (inl low) (inl more) =
          let within : suc i < length rows = let all = gap.within in omega (arith, more, all) in
          let above : key_cmp at_i.key (get_or rows (suc i) d).key ≡ Less = ascending_at key_cmp_total (λ r. r.key) rows up i (suc i) d (omega arith) within in
          let below : key_cmp (get_or rows (suc i) d).key k ≡ Less = gap.parted.0 (suc i) d (omega arith) more in
          let wrong = sym (next_other more within) ∙ amid at_i.key k (get_or rows (suc i) d) later above below in cc

-- so of the rows before only that one may come to go, where a later one comes
module _ (self : ℕ) (rows : List RunRow) (n : RunRow) (p : ℕ) (until next : ℕ) (up : IsAscendingRows rows) (none : find_row rows n.key ≡ None) (gap : IsGapFor rows n.key p) (earlier : next ≤ until)
    (before : (i : ℕ) (k : RunKey) → i + 1 ≡ p → IsPlaceOf (put_row rows n) k i → IfSome (find_row (put_row rows n) k) (StaysUntil self (put_row rows n) next)) where
  abbrev now : List RunRow
  now = put_row rows n

  older_stays : (i : ℕ) (d : RunRow) → i < length rows → StaysUntil self rows until (get_or rows i d) → StaysUntil self now next (get_or rows i d)
  older_stays i d lt stays m sooner still = go (has_later (get_or rows i d).key rows) refl (is_later (get_or rows i d).key n.key) refl
    where
      at : find_row rows (get_or rows i d).key ≡ Some (get_or rows i d)
      at = all_found rows up i d lt

      alike : has_later (get_or rows i d).key now ≡ has_later (get_or rows i d).key rows → is_purgeable self m now (get_or rows i d) ≡ false
      alike is = by_later self m now rows (get_or rows i d) is ∙ stays m (omega (arith, sooner, earlier)) still

      place : i + 1 ≡ p → IsPlaceOf now (get_or rows i d).key i
      place next_one =
          let low : i < p = omega (arith, next_one) in
          let is : (get_or rows i d) ≡ get_or (insert rows p n) i (get_or rows i d) = sym (get_or-insert_below rows p n (get_or rows i d) i low gap.within ∙ get_or_default rows i (get_or rows i d) d lt) in
          subst (λ l. IsPlaceOf l (get_or rows i d).key i) (sym (put_gap rows n p gap)) (own_place (insert rows p n) i (get_or rows i d) (let many = length-insert rows p n gap.within in omega (arith, many, lt)) is)

      go : (t : Bool) → has_later (get_or rows i d).key rows ≡ t → (b : Bool) → is_later (get_or rows i d).key n.key ≡ b → is_purgeable self m now (get_or rows i d) ≡ false
      go true is b new = alike (later_put (get_or rows i d).key rows n ∙ (ap (λ t. is_later (get_or rows i d).key n.key || t) is ∙ (or-true (is_later (get_or rows i d).key n.key) ∙ sym is)))
      go false is false new = alike (later_put (get_or rows i d).key rows n ∙ ap (λ b. b || has_later (get_or rows i d).key rows) new)
      go false is true new =
          let next_one : i + 1 ≡ p = right_before rows up n.key p gap i d lt is new in
          let found : find_row now (get_or rows i d).key ≡ Some (get_or rows i d) = kept_put (get_or rows i d).key rows n (other_key rows n (get_or rows i d) none at) ∙ at in
          subst (λ o. IfSome o (StaysUntil self now next)) found (before i (get_or rows i d).key next_one (place next_one)) m sooner still

  pub stays_put : All (StaysUntil self rows until) rows → IfSome (find_row now n.key) (StaysUntil self now next) → All (StaysUntil self now next) now
  stays_put stay here = all_put (StaysUntil self now next) n rows (subst (λ o. IfSome o (StaysUntil self now next)) (found_put self rows n none) here) (λ i d lt. older_stays i d lt (stay i d lt))

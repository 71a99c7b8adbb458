-- The deadlines of rows, as rows change, come, go and close, and which rows lapse by a moment.
use Rattle.std.specs.Ordering.{is_eq}
use Rattle.std.proofs.Common.{◌≡◌, ◌+◌, ◌++◌, ◌<◌, ◌≤◌, ◌∙◌, ℕ, suc, Bool, true, false, cond, not, List, [], ◌∷◌, length, drop, get_or, nat_le, take, drop-cons, add-one, Option, Some, None, IfSome, is_some, option_and_then, option_map, All, refl, ap, sym, subst, arith}
use Rattle.std.proofs.lemmas.Bool.Decides.{nat_tests}
use Rattle.std.proofs.lemmas.List.{take_more}
use Rattle.std.proofs.lemmas.List.Elements.{All-filter, All-map, All-push, All-weaker}
use Rattle.ps_time.specs.Key.{key_cmp}
use Rattle.ps_time.specs.declared.key.RunKey.{RunKey}
use Rattle.ps_time.proofs.KeyLemmas.{key_cmp_same, key_cmp_total}
use Rattle.ps_time.proofs.SortedLemmas.{ascending-change, ascending-insert, ascending-without}
use Rattle.run_states.specs.Life.{close_row, lapse_of, settled_rows}
use Rattle.run_states.specs.Rows.{change_row, find_row, lift_row, put_row, IsAscendingRows}
use Rattle.run_states.specs.declared.row.RunRow.{RunRow}
use Rattle.run_states.specs.declared.why.Closing.{Closing}
use Rattle.run_states.proofs.Place.{find_lifted, key_is}
use Rattle.host_rows.specs.Deadlines.{deadline_at, deadline_of, due_keys, has_deadline, is_among, latest, lifted, one_if, refiled, waiting, Deadlines, IsAscendingDeadlines, IsDue, IsFiled, Waits}
use Rattle.host_rows.specs.Ledger.{counted_at}
use Rattle.host_rows.specs.declared.deadlines.Deadline.{Deadline}
use Rattle.host_rows.proofs.DeadlineLemmas.{in_due, length_lifted_own, length_refiled, passed, passed_length, refiled_keeps, refiled_more, refiled_own, IsThere}
use Rattle.host_rows.proofs.LapseLemmas.{closed_none, none_before, none_yet, settled_same, some_since}
use Rattle.host_rows.proofs.LedgerLemmas.{all_put, found_if}
use Rattle.host_rows.proofs.LiveLemmas.{found_put}
use Rattle.host_rows.proofs.RowLemmas.{count_changed, count_cons, count_lifted, count_put, found_change, found_is}
use Rattle.host_rows.proofs.StayLemmas.{all_found}

-- ---- how many rows wait
abbrev one : RunRow → ℕ
one r = one_if (deadline_of r)

one_at : (o : Option RunRow) → counted_at one o ≡ one_if (deadline_at o)
one_at None = refl
one_at (Some r) = refl

pub waiting_few : (rows : List RunRow) → waiting rows ≤ length rows
waiting_few [] = omega arith
waiting_few (r ∷ rs) = go (deadline_of r) (count_cons one r rs) (waiting_few rs)
  where
    go : (o : Option ℕ) → waiting (r ∷ rs) ≡ one_if o + waiting rs → waiting rs ≤ length rs → waiting (r ∷ rs) ≤ suc (length rs)
    go None all less = omega (arith, all, less)
    go (Some m) all less = omega (arith, all, less)

-- ---- one row
-- a row that is closed doesn't wait
pub closed_waits_not : (c : Closing) (r : RunRow) → deadline_of (close_row c r) ≡ None
closed_waits_not c r = ap (option_map (λ x. x.moment)) (closed_none latest r c r.closed)

-- the deadline of the row that the key finds is there
pub found_waits : (ds : List Deadline) (k : RunKey) (rows : List RunRow) → All (Waits ds) rows → IsThere k (deadline_at (find_row rows k)) ds
found_waits ds k rows all = go (find_row rows k) refl
  where
    go : (o : Option RunRow) → find_row rows k ≡ o → IsThere k (deadline_at o) ds
    go None at = tt
    go (Some r) at =
        let own : Waits ds r = subst (λ o. IfSome o (Waits ds)) at (found_if (Waits ds) k rows all) in
        subst (λ j. IsThere j (deadline_of r) ds) (key_is r.key k (found_is k rows r at)) own

-- a row that hasn't lapsed by a moment has its deadline later
waits_later : (m : ℕ) (r : RunRow) (t : ℕ) → deadline_of r ≡ Some t → lapse_of m r ≡ None → m < t
waits_later m r t at none = go (lapse_of latest r) refl at
  where
    go : (o : Option Closing) → lapse_of latest r ≡ o → option_map (λ c. c.moment) o ≡ Some t → m < t
    go None is e = cc
    go (Some c) is e = let own : c.moment ≡ t = cc in come (nat_le c.moment m) refl own
      where
        come : (b : Bool) → nat_le c.moment m ≡ b → c.moment ≡ t → m < t
        come true le own = let there = some_since m latest r c (grind (arith, nat_tests)) is in let never : Some c ≡ None = sym there ∙ none in cc
        come false le own = grind (arith, nat_tests)

-- ---- all rows but one
abbrev pub Other : RunKey → (RunRow → Type 0) → RunRow → Type 0
Other k P r = is_eq (key_cmp r.key k) ≡ false → P r

no_other : (P : RunRow → Type 0) (k : RunKey) (r : RunRow) → is_eq (key_cmp r.key k) ≡ true → Other k P r
no_other P k r same off = let never : true ≡ false = sym same ∙ off in cc

-- what holds of the others, and of the row of the key, holds of all
pub all_but : (P : RunRow → Type 0) (k : RunKey) (rows : List RunRow) → IsAscendingRows rows → All (Other k P) rows → IfSome (find_row rows k) P → All P rows
all_but P k rows up others here i d lt = go (is_eq (key_cmp (get_or rows i d).key k)) refl
  where
    go : (b : Bool) → is_eq (key_cmp (get_or rows i d).key k) ≡ b → P (get_or rows i d)
    go false off = others i d lt off
    go true same =
        let found : find_row rows k ≡ Some (get_or rows i d) = ap (λ j. find_row rows j) (sym (key_is (get_or rows i d).key k same)) ∙ all_found rows up i d lt in
        subst (λ o. IfSome o P) found here

-- the rows that one change makes of others: how many wait changes as the row of the key does, and the others still wait
pub record Moves (ds : List Deadline) (rows now : List RunRow) (k : RunKey) : Type 0 where
  pub up : IsAscendingRows now
  pub others : All (Other k (Waits ds)) now
  pub count : waiting now + one_if (deadline_at (find_row rows k)) ≡ waiting rows + one_if (deadline_at (find_row now k))

pub moves_changed : (f : RunRow → RunRow) → ((r : RunRow) → (f r).key ≡ r.key) → (ds : List Deadline) (rows : List RunRow) (k : RunKey) → IsAscendingRows rows → All (Waits ds) rows → Moves ds rows (change_row f rows k) k
moves_changed f same ds rows k up all = record {
  up = ascending-change key_cmp_total (λ r. r.key) f same rows k up;
  others = All-map (Other k (Waits ds)) (λ r. cond (is_eq (key_cmp r.key k)) (f r) r) rows (λ i d lt. one_of (is_eq (key_cmp (get_or rows i d).key k)) (get_or rows i d) refl (all i d lt));
  count =
      let all_ones = count_changed f same one rows k up in
      let before = one_at (find_row rows k) in
      let after = one_at (find_row (change_row f rows k) k) in
      omega (arith, all_ones, before, after);
}
  where
    one_of : (b : Bool) (r : RunRow) → is_eq (key_cmp r.key k) ≡ b → Waits ds r → Other k (Waits ds) (cond b (f r) r)
    one_of true r is waits = no_other (Waits ds) k (f r) (ap (λ j. is_eq (key_cmp j k)) (same r) ∙ is)
    one_of false r is waits = λ off. waits

pub moves_put : (ds : List Deadline) (rows : List RunRow) (r : RunRow) → IsAscendingRows rows → find_row rows r.key ≡ None → All (Waits ds) rows → Moves ds rows (put_row rows r) r.key
moves_put ds rows r up none all = record {
  up = ascending-insert key_cmp_total (λ x. x.key) rows r up none;
  others = all_put (Other r.key (Waits ds)) r rows (no_other (Waits ds) r.key r (ap is_eq (key_cmp_same r.key))) (All-weaker (Waits ds) (Other r.key (Waits ds)) (λ x waits off. waits) rows all);
  count =
      let all_ones = count_put one rows r in
      let before : one_if (deadline_at (find_row rows r.key)) ≡ 0 = ap (λ o. one_if (deadline_at o)) none in
      let after : one_if (deadline_at (find_row (put_row rows r) r.key)) ≡ one_if (deadline_of r) = ap (λ o. one_if (deadline_at o)) (found_put 0 rows r none) in
      omega (arith, all_ones, before, after);
}

pub moves_lifted : (ds : List Deadline) (rows : List RunRow) (k : RunKey) → IsAscendingRows rows → All (Waits ds) rows → Moves ds rows (lift_row rows k) k
moves_lifted ds rows k up all = record {
  up = ascending-without key_cmp_total (λ x. x.key) rows k up;
  others = All-filter (λ r. not (is_eq (key_cmp r.key k))) (Other k (Waits ds)) rows (All-weaker (Waits ds) (Other k (Waits ds)) (λ x waits off. waits) rows all);
  count =
      let all_ones = count_lifted one rows k up in
      let before = one_at (find_row rows k) in
      let after : one_if (deadline_at (find_row (lift_row rows k) k)) ≡ 0 = ap (λ o. one_if (deadline_at o)) (find_lifted rows k) in
      omega (arith, all_ones, before, after);
}

-- ---- the deadline of the row that changed, came or went
module _ (rows now : List RunRow) (k : RunKey) (ds : Deadlines) (filed : IsFiled rows ds) (moves : Moves ds.list rows now k) (before after : Option ℕ) (was : before ≡ deadline_at (find_row rows k)) (is : after ≡ deadline_at (find_row now k)) where
  there : IsThere k before ds.list
  there = subst (λ o. IsThere k o ds.list) (sym was) (found_waits ds.list k rows filed.waits)

  count : waiting now + one_if before ≡ waiting rows + one_if after
  count = let first = ap one_if was in let second = ap one_if is in let all = moves.count in omega (arith, first, second, all)

  -- a new deadline has a place, as there is one for each row
  pub refile_room : length now ≤ ds.places → IfSome after (λ m. length (lifted k before ds.list) < ds.places)
  refile_room enough =
      let few = filed.few in
      let less = length_lifted_own k before ds.list there in
      let rest = waiting_few now in
      let all = count in
      go after refl (λ one. omega (arith, few, less, rest, all, enough, one))
    where
      go : (o : Option ℕ) → after ≡ o → (one_if after ≡ 1 → length (lifted k before ds.list) < ds.places) → IfSome o (λ m. length (lifted k before ds.list) < ds.places)
      go None e later = tt
      go (Some m) e later = later (ap one_if e)

  waits_on : (list : List Deadline) → list ≡ refiled k before after ds.list → All (Waits list) now
  waits_on list same =
      all_but (Waits list) k now moves.up (All-weaker (Other k (Waits ds.list)) (Other k (Waits list)) (λ r waits off. keeps r (deadline_of r) off (waits off)) now moves.others) (own (find_row now k) refl)
    where
      keeps : (r : RunRow) (o : Option ℕ) → is_eq (key_cmp r.key k) ≡ false → IsThere r.key o ds.list → IsThere r.key o list
      keeps r None off has = tt
      keeps r (Some m) off has = subst (λ l. has_deadline l (record { moment = m; key = r.key }) ≡ true) (sym same) (refiled_keeps k before after ds.list (record { moment = m; key = r.key }) off has)

      own : (o : Option RunRow) → find_row now k ≡ o → IfSome o (Waits list)
      own None at = tt
      own (Some r) at =
          let deadline : after ≡ deadline_of r = is ∙ ap deadline_at at in
          let here : IsThere k after list = subst (IsThere k after) (sym same) (refiled_own k before after ds.list there) in
          subst (λ j. IsThere j (deadline_of r) list) (sym (key_is r.key k (found_is k now r at))) (subst (λ o. IsThere k o list) deadline here)

  pub refiled_filed : (new : Deadlines) → new.list ≡ refiled k before after ds.list → length now ≤ new.places → IsFiled now new
  refiled_filed new same enough = record {
    waits = waits_on new.list same;
    few =
        let few = filed.few in
        let long = ap length same in
        let less = length_refiled k before after ds.list there in
        let all = count in
        omega (arith, few, long, less, all);
    places = enough;
  }

-- ---- the first deadline that has come goes
module _ (m : ℕ) (k : RunKey) (ks : List RunKey) (rows : List RunRow) (ds : Deadlines) (filed : IsFiled rows ds) (up : IsAscendingRows rows) (due : due_keys m ds.list ≡ k ∷ ks) where
  waits_passed : (r : RunRow) (o : Option ℕ) → ((t : ℕ) → o ≡ Some t → t ≤ m → is_eq (key_cmp r.key k) ≡ false) → IsThere r.key o ds.list → IsThere r.key o (drop 1 ds.list)
  waits_passed r None other has = tt
  waits_passed r (Some t) other has = passed m k ks ds.list due (record { moment = t; key = r.key }) (λ come. other t refl come) has

  -- where no row of its key lapses by then
  pub passed_filed : (new : Deadlines) → option_and_then (lapse_of m) (find_row rows k) ≡ None → new.list ≡ drop 1 ds.list → length rows ≤ new.places → IsFiled rows new
  passed_filed new none same enough = record {
    waits = λ i d lt. subst (λ l. Waits l (get_or rows i d)) (sym same) (waits_passed (get_or rows i d) (deadline_of (get_or rows i d)) (λ t at come. other (get_or rows i d) (all_found rows up i d lt) t at come) (filed.waits i d lt));
    few = let few = filed.few in let long = ap length same in let less = passed_length m k ks ds.list due in omega (arith, few, long, less);
    places = enough;
  }
    where
      other : (r : RunRow) → find_row rows r.key ≡ Some r → (t : ℕ) → deadline_of r ≡ Some t → t ≤ m → is_eq (key_cmp r.key k) ≡ false
      other r found t at come = go (is_eq (key_cmp r.key k)) refl
        where
          go : (b : Bool) → is_eq (key_cmp r.key k) ≡ b → b ≡ false
          go false off = refl
          go true own =
              let here : find_row rows k ≡ Some r = ap (λ j. find_row rows j) (sym (key_is r.key k own)) ∙ found in
              let stands : lapse_of m r ≡ None = sym (ap (option_and_then (lapse_of m)) here) ∙ none in
              let later = waits_later m r t at stands in
              absurd (omega (arith, later, come))

-- ---- a row that lapses closes
-- and waits before
lapsing_waits : (m : ℕ) → m ≤ latest → (o : Option RunRow) (c : Closing) → option_and_then (lapse_of m) o ≡ Some c → one_if (deadline_at o) ≡ 1
lapsing_waits m within None c lapses = cc
lapsing_waits m within (Some r) c lapses = go (lapse_of latest r) refl
  where
    go : (o : Option Closing) → lapse_of latest r ≡ o → one_if (option_map (λ x. x.moment) o) ≡ 1
    go None is = let never : Some c ≡ None = sym lapses ∙ none_before m latest r within is in cc
    go (Some e) is = refl

closed_found : (c : Closing) (rows : List RunRow) (k : RunKey) → deadline_at (find_row (change_row (close_row c) rows k) k) ≡ None
closed_found c rows k = ap deadline_at (found_change (close_row c) (λ r. refl) rows k k) ∙ go (find_row rows k) refl
  where
    go : (o : Option RunRow) → find_row rows k ≡ o → deadline_at (option_map (λ r. cond (is_eq (key_cmp r.key k)) (close_row c r) r) o) ≡ None
    go None at = refl
    go (Some r) at = ap (λ b. deadline_of (cond b (close_row c r) r)) (found_is k rows r at) ∙ closed_waits_not c r

-- so its deadline goes, and none comes
pub closed_fewer : (m : ℕ) → m ≤ latest → (rows now : List RunRow) (k : RunKey) (ds : List Deadline) → All (Waits ds) rows → (c : Closing) → option_and_then (lapse_of m) (find_row rows k) ≡ Some c → now ≡ change_row (close_row c) rows k
    → length (refiled k (deadline_at (find_row rows k)) (deadline_at (find_row now k)) ds) < length ds
closed_fewer m within rows now k ds waits c lapses change =
    let before = deadline_at (find_row rows k) in
    let after = deadline_at (find_row now k) in
    let long = length_refiled k before after ds (found_waits ds k rows waits) in
    let one_less = lapsing_waits m within (find_row rows k) c lapses in
    let none = ap one_if (ap (λ l. deadline_at (find_row l k)) change ∙ closed_found c rows k) in
    omega (arith, long, one_less, none)

-- ---- which rows lapse
module _ (m : ℕ) (ds : List Deadline) (within : m ≤ latest) (up : IsAscendingDeadlines ds) where
  -- the key of a row that lapses by a moment is due
  lapsing_due : (r : RunRow) (c : Closing) → Waits ds r → lapse_of m r ≡ Some c → is_among r.key (due_keys m ds) ≡ true
  lapsing_due r c waits some = go (lapse_of latest r) refl waits
    where
      go : (o : Option Closing) → lapse_of latest r ≡ o → IsThere r.key (option_map (λ x. x.moment) o) ds → is_among r.key (due_keys m ds) ≡ true
      go None is has = let never : Some c ≡ None = sym some ∙ none_before m latest r within is in cc
      go (Some e) is has = come (nat_le e.moment m) refl
        where
          come : (b : Bool) → nat_le e.moment m ≡ b → is_among r.key (due_keys m ds) ≡ true
          come true le = in_due m ds up (record { moment = e.moment; key = r.key }) has (grind (arith, nat_tests))
          come false le = let never : Some c ≡ None = sym some ∙ none_yet m latest r e (grind (arith, nat_tests)) is in cc

  pub all_due : (rows : List RunRow) → All (Waits ds) rows → All (IsDue m (due_keys m ds)) rows
  all_due rows waits = All-weaker (Waits ds) (IsDue m (due_keys m ds)) (λ r here lapses. go r here (lapse_of m r) refl lapses) rows waits
    where
      go : (r : RunRow) → Waits ds r → (o : Option Closing) → lapse_of m r ≡ o → is_some o ≡ true → is_among r.key (due_keys m ds) ≡ true
      go r here None is lapses = cc
      go r here (Some c) is lapses = lapsing_due r c here is

  -- where none is due, rows settle as they are
  pub none_due : (rows : List RunRow) → All (Waits ds) rows → due_keys m ds ≡ [] → settled_rows m rows ≡ rows
  none_due rows waits none = settled_same m rows (All-weaker (Waits ds) (λ r. lapse_of m r ≡ None) (λ r here. go r here (lapse_of m r) refl) rows waits)
    where
      go : (r : RunRow) → Waits ds r → (o : Option Closing) → lapse_of m r ≡ o → o ≡ None
      go r here None is = refl
      go r here (Some c) is =
          let named : is_among r.key (due_keys m ds) ≡ true = lapsing_due r c here is in
          let never : false ≡ true = sym (ap (is_among r.key) none) ∙ named in cc

-- ---- the deadlines of rows, filed one after another
pub waiting_step : (rows : List RunRow) (i : ℕ) (r : RunRow) → i < length rows → r ≡ get_or rows i r → waiting (drop i rows) ≡ one_if (deadline_of r) + waiting (drop (i + 1) rows)
waiting_step rows i r within is =
    let left : drop i rows ≡ r ∷ drop (suc i) rows = drop-cons rows i r within ∙ ap (λ x. x ∷ drop (suc i) rows) (sym is) in
    ap waiting left ∙ (count_cons one r (drop (suc i) rows) ∙ ap (λ n. one_if (deadline_of r) + waiting (drop n rows)) (sym (add-one i)))

-- the next one has a place
pub next_room : (rows : List RunRow) (i : ℕ) (r : RunRow) (count places : ℕ) → i < length rows → r ≡ get_or rows i r → count + waiting (drop i rows) ≤ waiting rows → length rows ≤ places → (o : Option ℕ) → o ≡ deadline_of r → IfSome o (λ m. count < places)
next_room rows i r count places within is few enough None same = tt
next_room rows i r count places within is few enough (Some t) same =
    let step = waiting_step rows i r within is in
    let here : 1 ≡ one_if (deadline_of r) = ap one_if same in
    let all = waiting_few rows in
    omega (arith, step, here, few, all, enough)

pub one_more : (rows : List RunRow) (i : ℕ) (r : RunRow) (ds list : List Deadline) → i < length rows → r ≡ get_or rows i r → list ≡ refiled r.key None (deadline_of r) ds → All (Waits ds) (take i rows) → All (Waits list) (take (i + 1) rows)
one_more rows i r ds list within is same all =
    subst (All (Waits list)) (sym (take_more rows i r within ∙ ap (λ x. take i rows ++ x ∷ []) (sym is)))
    (All-push (Waits list) (take i rows) r (All-weaker (Waits ds) (Waits list) (λ x waits. keeps x.key (deadline_of x) waits) (take i rows) all) here)
  where
    here : IsThere r.key (deadline_of r) list
    here = subst (IsThere r.key (deadline_of r)) (sym same) (refiled_own r.key None (deadline_of r) ds tt)

    keeps : (k : RunKey) (o : Option ℕ) → IsThere k o ds → IsThere k o list
    keeps k None has = tt
    keeps k (Some t) has = subst (λ l. has_deadline l (record { moment = t; key = k }) ≡ true) (sym same) (refiled_more r.key (deadline_of r) ds (record { moment = t; key = k }) has)

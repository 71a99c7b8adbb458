-- The keys of the live rows, as rows change, come and go.
use Rattle.std.proofs.Common.{◌≡◌, ℕ, ◌≤◌, ◌<◌, Bool, true, false, not, cond, List, [], ◌∷◌, filter, map, length, suc, Option, Some, None, option_map, refl, ap, ap₂, sym, ◌∙◌, arith}
use Rattle.std.specs.List.{AllByRecursion}
use Rattle.std.specs.Ordering.{is_eq, match_ordering, ordering_reverse}
use Rattle.std.specs.declared.cmp.Ordering.{Ordering}
use Rattle.std.specs.declared.cmp.Ordering.TheVariants.{Less, Equal, Greater}
use Rattle.ps_time.specs.Key.{key_cmp}
use Rattle.ps_time.specs.declared.key.RunKey.{RunKey}
use Rattle.ps_time.proofs.KeyLemmas.{key_cmp_same, key_cmp_total}
use Rattle.ps_time.proofs.SortedLemmas.{ascending-without, below_all, insert_front}
use Rattle.run_states.specs.Rows.{change_row, find_row, lift_row, put_row, IsAscendingRows}
use Rattle.run_states.specs.declared.row.RunRow.{RunRow}
use Rattle.run_states.proofs.Place.{key_is, put_back}
use Rattle.host_rows.specs.LiveKeys.{drop_key, find_own, marked, with_key}
use Rattle.host_rows.specs.Still.{is_live, live_keys, live_rows}
use Rattle.host_rows.specs.Ledger.{is_live_at}
use Rattle.host_rows.proofs.RowLemmas.{change_found, change_none, found_change, found_is}

-- ---- no row has the key
-- ---- no row has the key
pub none_others : (rows : List RunRow) (k : RunKey) → find_row rows k ≡ None → AllByRecursion (λ y. is_eq (key_cmp y.key k) ≡ false) rows
none_others [] k none = tt
none_others (r ∷ rs) k none = go (is_eq (key_cmp r.key k)) refl none (none_others rs k)
  where
    go : (b : Bool) → is_eq (key_cmp r.key k) ≡ b → cond b (Some r) (find_row rs k) ≡ None → (find_row rs k ≡ None → AllByRecursion (λ y. is_eq (key_cmp y.key k) ≡ false) rs) → (is_eq (key_cmp r.key k) ≡ false) × AllByRecursion (λ y. is_eq (key_cmp y.key k) ≡ false) rs
    go true is e later = cc
    go false is e later = (is, later e)

pub lift_none : (rows : List RunRow) (k : RunKey) → AllByRecursion (λ y. is_eq (key_cmp y.key k) ≡ false) rows → lift_row rows k ≡ rows
lift_none [] k all = refl
lift_none (r ∷ rs) k all = ap₂ (λ b l. cond (not b) (r ∷ l) l) all.0 (lift_none rs k all.1)

-- ---- the keys of the rows that pass a test
module _ (p : RunRow → Bool) where
  abbrev pub keys_passing : List RunRow → List RunKey
  keys_passing rows = map (λ r. r.key) (filter p rows)

  -- ---- a row goes or comes
  pub keys_lifted : (rows : List RunRow) (k : RunKey) → keys_passing (lift_row rows k) ≡ drop_key (keys_passing rows) k
  keys_lifted [] k = refl
  keys_lifted (r ∷ rs) k = go (p r) (is_eq (key_cmp r.key k)) refl refl (keys_lifted rs k)
    where
      go : (l b : Bool) → p r ≡ l → is_eq (key_cmp r.key k) ≡ b → keys_passing (lift_row rs k) ≡ drop_key (keys_passing rs) k →
          keys_passing (cond (not b) (r ∷ lift_row rs k) (lift_row rs k)) ≡ drop_key (map (λ x. x.key) (cond l (r ∷ filter p rs) (filter p rs))) k
      go true true live same ih = rw same ih
      go false true live same ih = ih
      go true false live same ih = rw (live, same) (ap (λ ks. r.key ∷ ks) ih)
      go false false live same ih = rw live ih

  above : (k : RunKey) (rows : List RunRow) → AllByRecursion (λ y. key_cmp k y.key ≡ Less) rows → AllByRecursion (λ j. key_cmp k j ≡ Less) (keys_passing rows)
  above k [] all = tt
  above k (r ∷ rs) all = elim (p r) as (λ b. AllByRecursion (λ j. key_cmp k j ≡ Less) (map (λ x. x.key) (cond b (r ∷ filter p rs) (filter p rs)))) [ true ↦ (all.0, above k rs all.1) | false ↦ above k rs all.1 ]

  abbrev front : Bool → RunRow → List RunKey → List RunKey
  front b r ks = cond b (r.key ∷ ks) ks

  pub keys_cons : (r : RunRow) (rs : List RunRow) → keys_passing (r ∷ rs) ≡ front (p r) r (keys_passing rs)
  keys_cons r rs = elim (p r) as (λ b. map (λ x. x.key) (cond b (r ∷ filter p rs) (filter p rs)) ≡ front b r (keys_passing rs)) [ true ↦ refl | false ↦ refl ]

  -- a row that passes brings its key
  put_passing : (rows : List RunRow) (r : RunRow) → IsAscendingRows rows → p r ≡ true → keys_passing (put_row rows r) ≡ with_key (keys_passing rows) r.key
  put_passing [] r up live = keys_cons r [] ∙ ap (λ b. front b r []) live
  put_passing (x ∷ xs) r up live = go (key_cmp x.key r.key) refl (put_passing xs r up.1 live)
    where
      stays : (b : Bool) (c : Ordering) → key_cmp x.key r.key ≡ c → match_ordering c true true false ≡ true → front b x (with_key (keys_passing xs) r.key) ≡ with_key (front b x (keys_passing xs)) r.key
      stays false c is low = refl
      stays true Less is low = rw is refl
      stays true Equal is low = rw is refl
      stays true Greater is low = cc

      later : (c : Ordering) → key_cmp x.key r.key ≡ c → match_ordering c true true false ≡ true → keys_passing (put_row xs r) ≡ with_key (keys_passing xs) r.key → keys_passing (x ∷ put_row xs r) ≡ with_key (keys_passing (x ∷ xs)) r.key
      later c is low ih = keys_cons x (put_row xs r) ∙ (ap (front (p x) x) ih ∙ (stays (p x) c is low ∙ ap (λ ks. with_key ks r.key) (sym (keys_cons x xs))))

      go : (c : Ordering) → key_cmp x.key r.key ≡ c → keys_passing (put_row xs r) ≡ with_key (keys_passing xs) r.key → keys_passing (match_ordering c (x ∷ put_row xs r) (x ∷ put_row xs r) (r ∷ x ∷ xs)) ≡ with_key (keys_passing (x ∷ xs)) r.key
      go Less is ih = later Less is refl ih
      go Equal is ih = later Equal is refl ih
      go Greater is ih =
          let below : key_cmp r.key x.key ≡ Less = key_cmp_total.antisymm r.key x.key ∙ ap ordering_reverse is in
          let others = above r.key (x ∷ xs) (below, below_all key_cmp_total (λ y. y.key) xs r.key x.key below up.0) in
          keys_cons r (x ∷ xs) ∙ (ap (λ b. front b r (keys_passing (x ∷ xs))) live ∙ sym (insert_front key_cmp_total (λ k. k) (keys_passing (x ∷ xs)) r.key others))

  -- another one brings none
  put_other : (rows : List RunRow) (r : RunRow) → p r ≡ false → keys_passing (put_row rows r) ≡ keys_passing rows
  put_other [] r still = keys_cons r [] ∙ ap (λ b. front b r []) still
  put_other (x ∷ xs) r still =
      let later : keys_passing (x ∷ put_row xs r) ≡ keys_passing (x ∷ xs) = keys_cons x (put_row xs r) ∙ (ap (front (p x) x) (put_other xs r still) ∙ sym (keys_cons x xs)) in
      elim (key_cmp x.key r.key) as (λ c. keys_passing (match_ordering c (x ∷ put_row xs r) (x ∷ put_row xs r) (r ∷ x ∷ xs)) ≡ keys_passing (x ∷ xs)) [
        | Less ↦ later
        | Equal ↦ later
        | Greater ↦ keys_cons r (x ∷ xs) ∙ ap (λ b. front b r (keys_passing (x ∷ xs))) still
      ]

  keys_put : (rows : List RunRow) (r : RunRow) → IsAscendingRows rows → keys_passing (put_row rows r) ≡ cond (p r) (with_key (keys_passing rows) r.key) (keys_passing rows)
  keys_put rows r up = go (p r) refl
    where
      go : (b : Bool) → p r ≡ b → keys_passing (put_row rows r) ≡ cond b (with_key (keys_passing rows) r.key) (keys_passing rows)
      go true is = put_passing rows r up is
      go false is = put_other rows r is

  -- a row that is put back
  pub marked_put : (rows : List RunRow) (k : RunKey) (r : RunRow) → IsAscendingRows rows → r.key ≡ k → keys_passing (put_row (lift_row rows k) r) ≡ marked (p r) (keys_passing rows) k
  marked_put rows k r up same = keys_put (lift_row rows k) r (ascending-without key_cmp_total (λ x. x.key) rows k up) ∙ (ap₂ (λ ks j. cond (p r) (with_key ks j) ks) (keys_lifted rows k) same ∙ go (p r))
    where
      go : (b : Bool) → cond b (with_key (drop_key (keys_passing rows) k) k) (drop_key (keys_passing rows) k) ≡ marked b (keys_passing rows) k
      go true = refl
      go false = refl

module _ (n : ℕ) where
  pub live_lifted : (rows : List RunRow) (k : RunKey) → live_keys n (lift_row rows k) ≡ drop_key (live_keys n rows) k
  live_lifted rows k = keys_lifted (is_live n) rows k

  -- ---- a row changes
  pub live_changed : (f : RunRow → RunRow) → ((r : RunRow) → (f r).key ≡ r.key) → (rows : List RunRow) (k : RunKey) → IsAscendingRows rows →
      marked (is_live_at n (find_row (change_row f rows k) k)) (live_keys n rows) k ≡ live_keys n (change_row f rows k)
  live_changed f same rows k up = go (find_row rows k) refl
    where
      go : (o : Option RunRow) → find_row rows k ≡ o → marked (is_live_at n (find_row (change_row f rows k) k)) (live_keys n rows) k ≡ live_keys n (change_row f rows k)
      go None none =
          let others = none_others rows k none in
          let left : change_row f rows k ≡ rows = change_none f k rows others in
          ap (λ l. marked (is_live_at n (find_row l k)) (live_keys n rows) k) left
          ∙ (ap (λ o. marked (is_live_at n o) (live_keys n rows) k) none
          ∙ (sym (live_lifted rows k) ∙ (ap (live_keys n) (lift_none rows k others) ∙ ap (live_keys n) (sym left))))
      go (Some r) at =
          let key : (f r).key ≡ k = same r ∙ key_is r.key k (found_is k rows r at) in
          let found : find_row (change_row f rows k) k ≡ Some (f r) =
          found_change f same rows k k ∙ (ap (option_map (λ y. cond (is_eq (key_cmp y.key k)) (f y) y)) at
          ∙ ap (λ b. Some (cond b (f r) r)) (found_is k rows r at)) in
          ap (λ o. marked (is_live_at n o) (live_keys n rows) k) found
          ∙ (sym (marked_put (is_live n) rows k (f r) up key)
          ∙ ap (live_keys n) (put_back rows k r (f r) up at key ∙ sym (change_found f k r rows up at)))

  -- the key is marked by whether the row is live, after the change and before it
  pub marked_after : (f : RunRow → RunRow) → ((r : RunRow) → (f r).key ≡ r.key) → (rows now : List RunRow) (k : RunKey) → IsAscendingRows rows → now ≡ change_row f rows k → (ks : List RunKey) → ks ≡ live_keys n rows
      → (b : Bool) → b ≡ is_live_at n (find_row now k) → marked b ks k ≡ live_keys n now
  marked_after f same rows now k up change ks keys b is =
      ap₂ (λ c js. marked c js k) is keys ∙ (ap (λ l. marked (is_live_at n (find_row l k)) (live_keys n rows) k) change ∙ (live_changed f same rows k up ∙ ap (live_keys n) (sym change)))

  pub marked_before : (rows : List RunRow) (k : RunKey) → IsAscendingRows rows → (ks : List RunKey) → ks ≡ live_keys n rows → (b : Bool) → b ≡ is_live_at n (find_row rows k) → marked b ks k ≡ ks
  marked_before rows k up ks keys b is = marked_after (λ r. r) (λ r. refl) rows rows k up (sym (kept rows)) ks keys b is ∙ sym keys
    where
      kept : (rs : List RunRow) → change_row (λ r. r) rs k ≡ rs
      kept [] = refl
      kept (r ∷ rs) = ap₂ (λ x l. x ∷ l) (elim (is_eq (key_cmp r.key k)) as (λ c. cond c r r ≡ r) [ true ↦ refl | false ↦ refl ]) (kept rs)

  -- ---- a new row
  pub found_put : (rows : List RunRow) (r : RunRow) → find_row rows r.key ≡ None → find_row (put_row rows r) r.key ≡ Some r
  found_put [] r none = ap (λ c. cond (is_eq c) (Some r) None) (key_cmp_same r.key)
  found_put (x ∷ xs) r none = go (key_cmp x.key r.key) refl none (found_put xs r)
    where
      go : (c : Ordering) → key_cmp x.key r.key ≡ c → cond (is_eq c) (Some x) (find_row xs r.key) ≡ None → (find_row xs r.key ≡ None → find_row (put_row xs r) r.key ≡ Some r) → find_row (match_ordering c (x ∷ put_row xs r) (x ∷ put_row xs r) (r ∷ x ∷ xs)) r.key ≡ Some r
      go Less is e ih = ap (λ c. cond (is_eq c) (Some x) (find_row (put_row xs r) r.key)) is ∙ ih e
      go Equal is e ih = cc
      go Greater is e ih = ap (λ c. cond (is_eq c) (Some r) (find_row (x ∷ xs) r.key)) (key_cmp_same r.key)

  pub live_new : (rows : List RunRow) (r : RunRow) → IsAscendingRows rows → find_row rows r.key ≡ None → marked (is_live_at n (find_row (put_row rows r) r.key)) (live_keys n rows) r.key ≡ live_keys n (put_row rows r)
  live_new rows r up none =
      let found : find_row (put_row rows r) r.key ≡ Some r = found_put rows r none in
      ap (λ o. marked (is_live_at n o) (live_keys n rows) r.key) found
      ∙ (sym (marked_put (is_live n) rows r.key r up refl) ∙ ap (λ l. live_keys n (put_row l r)) (lift_none rows r.key (none_others rows r.key none)))

  -- ---- how many
  pub few : (rows : List RunRow) → length (live_keys n rows) ≤ length rows
  few [] = omega arith
  few (r ∷ rs) = go (is_live n r) (few rs)
    where
      go : (b : Bool) → length (live_keys n rs) ≤ length rs → length (map (λ x. x.key) (cond b (r ∷ live_rows n rs) (live_rows n rs))) ≤ suc (length rs)
      go true later = omega (arith, later)
      go false later = omega (arith, later)

  one_more : (ks : List RunKey) (k : RunKey) → length (with_key ks k) ≡ suc (length ks)
  one_more [] k = refl
  one_more (j ∷ js) k =
      let later = ap suc (one_more js k) in
      elim (key_cmp j k) as (λ c. length (match_ordering c (j ∷ with_key js k) (j ∷ with_key js k) (k ∷ j ∷ js)) ≡ suc (suc (length js))) [
        | Less ↦ later
        | Equal ↦ later
        | Greater ↦ refl
      ]

  drop_none : (ks : List RunKey) (k : RunKey) → find_own ks k ≡ None → drop_key ks k ≡ ks
  drop_none [] k none = refl
  drop_none (j ∷ js) k none = go (is_eq (key_cmp j k)) none (drop_none js k)
    where
      go : (b : Bool) → cond b (Some j) (find_own js k) ≡ None → (find_own js k ≡ None → drop_key js k ≡ js) → cond (not b) (j ∷ drop_key js k) (drop_key js k) ≡ j ∷ js
      go true e later = cc
      go false e later = ap (λ l. j ∷ l) (later e)

  -- a new key has a place, as there is one for each row
  pub room_left : (b : Bool) (ks : List RunKey) (k : RunKey) (rows : List RunRow) (places : ℕ) → marked b ks k ≡ live_keys n rows → length rows ≤ places → b ≡ true → find_own ks k ≡ None → length ks < places
  room_left true ks k rows places is enough on none =
      let count : length (with_key (drop_key ks k) k) ≡ suc (length (drop_key ks k)) = one_more (drop_key ks k) k in
      let same : length (drop_key ks k) ≡ length ks = ap length (drop_none ks k none) in
      let all : length (with_key (drop_key ks k) k) ≡ length (live_keys n rows) = ap length is in
      let low = few rows in
      omega (arith, count, same, all, low, enough)
  room_left false ks k rows places is enough on none = cc

pub length_changed : (f : RunRow → RunRow) (rows : List RunRow) (k : RunKey) → length (change_row f rows k) ≡ length rows
length_changed f [] k = refl
length_changed f (r ∷ rs) k = ap suc (length_changed f rs k)

pub length_lifted : (rows : List RunRow) (k : RunKey) → length (lift_row rows k) ≤ length rows
length_lifted [] k = omega arith
length_lifted (r ∷ rs) k = go (is_eq (key_cmp r.key k)) (length_lifted rs k)
  where
    go : (b : Bool) → length (lift_row rs k) ≤ length rs → length (cond (not b) (r ∷ lift_row rs k) (lift_row rs k)) ≤ suc (length rs)
    go true later = omega (arith, later)
    go false later = omega (arith, later)

pub length_put : (rows : List RunRow) (r : RunRow) → length (put_row rows r) ≡ suc (length rows)
length_put [] r = refl
length_put (x ∷ xs) r =
    let later = ap suc (length_put xs r) in
    elim (key_cmp x.key r.key) as (λ c. length (match_ordering c (x ∷ put_row xs r) (x ∷ put_row xs r) (r ∷ x ∷ xs)) ≡ suc (suc (length xs))) [
      | Less ↦ later
      | Equal ↦ later
      | Greater ↦ refl
    ]

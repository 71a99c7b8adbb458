-- Which row a key finds: one that lies over the book's, or the book's.
use Rattle.std.proofs.Common.{◌≡◌, ℕ, Bool, true, false, cond, filter, ◌++◌, ◌||◌, List, [], ◌∷◌, Option, Some, None, option_map, is_some, refl, ap, ap₂, sym, subst, ◌∙◌}
use Rattle.std.specs.Ordering.{is_eq, ordering_reverse}
use Rattle.std.specs.declared.cmp.Ordering.{Ordering}
use Rattle.std.specs.declared.cmp.Ordering.TheVariants.{Less, Equal, Greater}
use Rattle.ps_time.specs.Key.{key_cmp}
use Rattle.ps_time.specs.declared.key.RunKey.{RunKey}
use Rattle.ps_time.proofs.KeyLemmas.{key_cmp_total}
use Rattle.run_states.specs.declared.row.RunRow.{RunRow}
use Rattle.run_states.specs.declared.why.Closing.{Closing}
use Rattle.run_states.specs.Life.{first_there, closed_by, lapse_of, settled_row}
use Rattle.run_states.specs.Rows.{find_row, put_row, lift_row, change_row}
use Rattle.run_states.proofs.Place.{find_lifted, key_is}
use Rattle.host_book.specs.Reservations.{lapses}
use Rattle.host_model.specs.Apply.{put_new}
use Rattle.host_model.specs.Book.{keys_of_rows}
use Rattle.host_model.proofs.Keyed
use Rattle.host_model.proofs.Placed.{find_row-key, lift_from, lift_keeps}
use Rattle.host_model.proofs.Standing.{find_row-map}
use Rattle.draft_parts.specs.Overlay.{below, lapsed_copy, lapsed_over, named, over}

-- ---- first ----
pub first_none : {A : Type 0} (o : Option A) → first_there o None ≡ o
first_none None = refl
first_none (Some a) = refl

first_assoc : {A : Type 0} (a b c : Option A) → first_there (first_there a b) c ≡ first_there a (first_there b c)
first_assoc None b c = refl
first_assoc (Some x) b c = refl

first_twice : {A : Type 0} (a o : Option A) → first_there (first_there a o) o ≡ first_there a o
first_twice (Some x) o = refl
first_twice None None = refl
first_twice None (Some x) = refl

-- ---- keys ----
reverse_eq : (c : Ordering) → is_eq (ordering_reverse c) ≡ is_eq c
reverse_eq Less = refl
reverse_eq Equal = refl
reverse_eq Greater = refl

pub eq_turned : (a b : RunKey) → is_eq (key_cmp a b) ≡ is_eq (key_cmp b a)
eq_turned a b = ap is_eq (key_cmp_total.antisymm a b) ∙ reverse_eq (key_cmp b a)

-- ---- a row that may come ----
pub find_row-put : (n : RunRow) (rows : List RunRow) (k : RunKey) → find_row rows n.key ≡ None → find_row (put_row rows n) k ≡ cond (is_eq (key_cmp n.key k)) (Some n) (find_row rows k)
find_row-put n rows k e = Keyed.at-put (λ r. r.key) n rows k e

pub found_new : (n : RunRow) (ts : List RunRow) (k : RunKey) → find_row (put_new (Some n) ts) k ≡ first_there (find_row ts k) (cond (is_eq (key_cmp n.key k)) (Some n) None)
found_new n ts k = at (is_eq (key_cmp n.key k)) refl (find_row ts n.key) refl
  where
    at : (b : Bool) → is_eq (key_cmp n.key k) ≡ b → (o : Option RunRow) → find_row ts n.key ≡ o
        → find_row (cond (is_some o) ts (put_row ts n)) k ≡ first_there (find_row ts k) (cond b (Some n) None)
    at false e (Some x) h = sym (first_none (find_row ts k))
    at false e None h = find_row-put n ts k h ∙ (ap (λ b. cond b (Some n) (find_row ts k)) e ∙ sym (first_none (find_row ts k)))
    at true e (Some x) h =
        let there : find_row ts k ≡ Some x = subst (λ j. find_row ts j ≡ Some x) (key_is n.key k e) h in
        there ∙ ap (λ o. first_there o (Some n)) (sym there)
    at true e None h =
        let gone : find_row ts k ≡ None = subst (λ j. find_row ts j ≡ None) (key_is n.key k e) h in
        find_row-put n ts k h ∙ (ap (λ b. cond b (Some n) (find_row ts k)) e ∙ ap (λ o. first_there o (Some n)) (sym gone))

pub none_there : (o : Option RunRow) → is_some o ≡ false → o ≡ None
none_there None e = refl
none_there (Some r) e = cc

-- ---- lapsed rows ----
closed_key : (o : Option Closing) (r : RunRow) → (closed_by o r).key ≡ r.key
closed_key None r = refl
closed_key (Some c) r = refl

pub settled_key : (m : ℕ) (r : RunRow) → (settled_row m r).key ≡ r.key
settled_key m r = closed_key (lapse_of m r) r

pub new_settled : (m : ℕ) (r : RunRow) (ts : List RunRow) → find_row ts r.key ≡ None → put_new (Some (settled_row m r)) ts ≡ put_row ts (settled_row m r)
new_settled m r ts none = ap (λ o. cond (is_some o) ts (put_row ts (settled_row m r))) (ap (find_row ts) (settled_key m r) ∙ none)

-- ---- copies of rows that lie below ----
same_either : {A : Type 0} (b : Bool) (x : A) → cond b x x ≡ x
same_either true x = refl
same_either false x = refl

module _ (under : RunKey → Option RunRow) (own : (k : RunKey) (r : RunRow) → under k ≡ Some r → r.key ≡ k) where
  -- a copy of the row of a key
  pub new_at : (ts : List RunRow) (j k : RunKey) → find_row (put_new (under j) ts) k ≡ first_there (find_row ts k) (cond (is_eq (key_cmp j k)) (under j) None)
  new_at ts j k = go (under j) refl
    where
      go : (o : Option RunRow) → under j ≡ o → find_row (put_new o ts) k ≡ first_there (find_row ts k) (cond (is_eq (key_cmp j k)) o None)
      go None e = sym (ap (first_there (find_row ts k)) (same_either (is_eq (key_cmp j k)) None) ∙ first_none (find_row ts k))
      go (Some r) e = found_new r ts k ∙ ap (λ i. first_there (find_row ts k) (cond (is_eq (key_cmp i k)) (Some r) None)) (own j r e)

  -- it changes nothing of what is found
  pub found_touched : (ts : List RunRow) (j k : RunKey) → first_there (find_row (put_new (under j) ts) k) (under k) ≡ first_there (find_row ts k) (under k)
  found_touched ts j k = ap (λ o. first_there o (under k)) (new_at ts j k) ∙ go (is_eq (key_cmp j k)) refl
    where
      go : (b : Bool) → is_eq (key_cmp j k) ≡ b → first_there (first_there (find_row ts k) (cond b (under j) None)) (under k) ≡ first_there (find_row ts k) (under k)
      go true e = ap (λ i. first_there (first_there (find_row ts k) (under i)) (under k)) (key_is j k e) ∙ first_twice (find_row ts k) (under k)
      go false e = ap (λ o. first_there o (under k)) (first_none (find_row ts k))

  -- ---- a change of one row ----
  module _ (f : RunRow → RunRow) (same : (r : RunRow) → (f r).key ≡ r.key) where
    abbrev at_key : RunKey → RunKey → RunRow → RunRow
    at_key j k r = cond (is_eq (key_cmp k j)) (f r) r

    kept_key : (j : RunKey) (r : RunRow) → (cond (is_eq (key_cmp r.key j)) (f r) r).key ≡ r.key
    kept_key j r = elim (is_eq (key_cmp r.key j)) as (λ b. (cond b (f r) r).key ≡ r.key) [ true ↦ same r | false ↦ refl ]

    found_change : (rows : List RunRow) (j k : RunKey) → find_row (change_row f rows j) k ≡ option_map (at_key j k) (find_row rows k)
    found_change rows j k = find_row-map (λ r. cond (is_eq (key_cmp r.key j)) (f r) r) (kept_key j) rows k ∙ go (find_row rows k) refl
      where
        go : (o : Option RunRow) → find_row rows k ≡ o → option_map (λ r. cond (is_eq (key_cmp r.key j)) (f r) r) o ≡ option_map (at_key j k) o
        go None e = refl
        go (Some r) e = ap (λ i. Some (cond (is_eq (key_cmp i j)) (f r) r)) (find_row-key rows k r e)

    -- the row changes where it was touched
    pub found_marked : (now ts : List RunRow) (j : RunKey) → ((k : RunKey) → find_row now k ≡ first_there (find_row ts k) (under k))
        → (k : RunKey) → find_row (change_row f now j) k ≡ first_there (find_row (change_row f (put_new (under j) ts) j) k) (under k)
    found_marked now ts j found k =
        found_change now j k
        ∙ (ap (option_map (at_key j k)) (found k)
        ∙ (go (is_eq (key_cmp k j)) refl
        ∙ sym (ap (λ o. first_there o (under k)) (found_change (put_new (under j) ts) j k ∙ ap (option_map (at_key j k)) (new_at ts j k)))))
      where
        other : (o : Option RunRow) → option_map (λ (r : RunRow). r) o ≡ o
        other None = refl
        other (Some r) = refl

        changed : (a o : Option RunRow) → option_map f (first_there a o) ≡ first_there (option_map f (first_there a o)) o
        changed (Some r) o = refl
        changed None None = refl
        changed None (Some r) = refl

        go : (b : Bool) → is_eq (key_cmp k j) ≡ b
            → option_map (at_key j k) (first_there (find_row ts k) (under k)) ≡ first_there (option_map (at_key j k) (first_there (find_row ts k) (cond (is_eq (key_cmp j k)) (under j) None))) (under k)
        go true e =
            let turn : is_eq (key_cmp j k) ≡ true = eq_turned j k ∙ e in
            let here : j ≡ k = sym (key_is k j e) in
            ap (λ b. option_map (λ r. cond b (f r) r) (first_there (find_row ts k) (under k))) e
            ∙ (changed (find_row ts k) (under k)
            ∙ sym (ap₂ (λ b x. first_there (option_map (λ r. cond b (f r) r) (first_there (find_row ts k) (cond x (under j) None))) (under k)) e turn
            ∙ ap (λ i. first_there (option_map f (first_there (find_row ts k) (under i))) (under k)) here))
        go false e =
            let turn : is_eq (key_cmp j k) ≡ false = eq_turned j k ∙ e in
            ap (λ b. option_map (λ r. cond b (f r) r) (first_there (find_row ts k) (under k))) e
            ∙ (other (first_there (find_row ts k) (under k))
            ∙ sym (ap₂ (λ b x. first_there (option_map (λ r. cond b (f r) r) (first_there (find_row ts k) (cond x (under j) None))) (under k)) e turn
            ∙ (ap (λ o. first_there o (under k)) (other (first_there (find_row ts k) None)) ∙ ap (λ o. first_there o (under k)) (first_none (find_row ts k)))))

-- ---- lapsed rows of some keys
module _ (m : ℕ) (book : List RunRow) where
  abbrev lapsed_at : RunKey → Option RunRow
  lapsed_at k = lapsed_copy m (find_row book k)

  lapsed_own : (k : RunKey) (r : RunRow) → lapsed_at k ≡ Some r → r.key ≡ k
  lapsed_own k r e = go (find_row book k) refl e
    where
      one : (x : RunRow) → find_row book k ≡ Some x → (b : Bool) → cond b (Some (settled_row m x)) None ≡ Some r → r.key ≡ k
      one x at true is = let same : settled_row m x ≡ r = cc in ap (λ y. y.key) (sym same) ∙ (settled_key m x ∙ find_row-key book k x at)
      one x at false is = cc

      go : (o : Option RunRow) → find_row book k ≡ o → lapsed_copy m o ≡ Some r → r.key ≡ k
      go None at is = cc
      go (Some x) at is = one x at (lapses m x) is

  one_of : (j k : RunKey) (n : Bool) (b : Bool) → is_eq (key_cmp j k) ≡ b → first_there (cond b (lapsed_at j) None) (cond n (lapsed_at k) None) ≡ cond (b || n) (lapsed_at k) None
  one_of j k n false e = refl
  one_of j k n true e = ap (λ i. first_there (lapsed_at i) (cond n (lapsed_at k) None)) (key_is j k e) ∙ twice (lapsed_at k) n
    where
      twice : (o : Option RunRow) (n : Bool) → first_there o (cond n o None) ≡ o
      twice (Some r) n = refl
      twice None true = refl
      twice None false = refl

  pub found_lapsed : (ks : List RunKey) (ts : List RunRow) (k : RunKey) → find_row (lapsed_over m book ks ts) k ≡ first_there (find_row ts k) (cond (named k ks) (lapsed_at k) None)
  found_lapsed [] ts k = sym (first_none (find_row ts k))
  found_lapsed (j ∷ js) ts k =
      found_lapsed js (put_new (lapsed_at j) ts) k
      ∙ (ap (λ o. first_there o (cond (named k js) (lapsed_at k) None)) (new_at lapsed_at lapsed_own ts j k)
      ∙ (first_assoc (find_row ts k) (cond (is_eq (key_cmp j k)) (lapsed_at j) None) (cond (named k js) (lapsed_at k) None)
      ∙ ap (first_there (find_row ts k)) (one_of j k (named k js) (is_eq (key_cmp j k)) refl)))

-- ---- keys of rows that pass a test
-- the key of a row that is found and passes is among them
pub named_passing : (p : RunRow → Bool) (rows : List RunRow) (j : RunKey) (r : RunRow) → find_row rows j ≡ Some r → p r ≡ true → named j (keys_of_rows (filter p rows)) ≡ true
named_passing p [] j r at is = cc
named_passing p (x ∷ xs) j r at is = go (is_eq (key_cmp x.key j)) refl at (named_passing p xs j r)
  where
    rest : List RunKey
    rest = keys_of_rows (filter p xs)

    here : (b : Bool) → is_eq (key_cmp x.key j) ≡ true → b ≡ true → named j (keys_of_rows (cond b (x ∷ filter p xs) (filter p xs))) ≡ true
    here true same on = ap (λ t. t || named j (keys_of_rows (filter p xs))) same
    here false same on = cc

    later : (b : Bool) → named j (keys_of_rows (filter p xs)) ≡ true → named j (keys_of_rows (cond b (x ∷ filter p xs) (filter p xs))) ≡ true
    later true on = either (is_eq (key_cmp x.key j)) on
      where
        either : (t : Bool) → named j (keys_of_rows (filter p xs)) ≡ true → (t || named j (keys_of_rows (filter p xs))) ≡ true
        either true on = refl
        either false on = on
    later false on = on

    go : (b : Bool) → is_eq (key_cmp x.key j) ≡ b → cond b (Some x) (find_row xs j) ≡ Some r → (find_row xs j ≡ Some r → p r ≡ true → named j (keys_of_rows (filter p xs)) ≡ true) → named j (keys_of_rows (filter p (x ∷ xs))) ≡ true
    go true same at ih = let own : r ≡ x = cc in here (p x) same (subst (λ y. p y ≡ true) own is)
    go false same at ih = later (p x) (ih at is)

-- what lies below has its key
pub below_own : (gone : List RunKey) (book : List RunRow) (k : RunKey) (r : RunRow) → below gone book k ≡ Some r → r.key ≡ k
below_own gone book k r e = go (named k gone) e
  where
    go : (b : Bool) → cond b None (find_row book k) ≡ Some r → r.key ≡ k
    go true is = cc
    go false is = find_row-key book k r is

-- ---- a row that goes ----
-- one more key that went
named_last : (k j : RunKey) (gone : List RunKey) → named k (gone ++ j ∷ []) ≡ (is_eq (key_cmp j k) || named k gone)
named_last k j [] = refl
named_last k j (g ∷ gs) = ap (λ b. is_eq (key_cmp g k) || b) (named_last k j gs) ∙ turned (is_eq (key_cmp g k)) (is_eq (key_cmp j k)) (named k gs)
  where
    turned : (a b c : Bool) → (a || (b || c)) ≡ (b || (a || c))
    turned true true c = refl
    turned true false c = refl
    turned false b c = refl

-- which row is found after one went
found_lifted : (rows : List RunRow) (j k : RunKey) → find_row (lift_row rows j) k ≡ cond (is_eq (key_cmp j k)) None (find_row rows k)
found_lifted rows j k = one (is_eq (key_cmp j k)) refl
  where
    one : (b : Bool) → is_eq (key_cmp j k) ≡ b → find_row (lift_row rows j) k ≡ cond b None (find_row rows k)
    one true e = ap (find_row (lift_row rows j)) (sym (key_is j k e)) ∙ find_lifted rows j
    one false e = both (find_row rows k) (find_row (lift_row rows j) k) refl refl
      where
        other : is_eq (key_cmp k j) ≡ false
        other = eq_turned k j ∙ e

        both : (o p : Option RunRow) → find_row rows k ≡ o → find_row (lift_row rows j) k ≡ p → find_row (lift_row rows j) k ≡ find_row rows k
        both (Some r) p f g = lift_keeps j k other rows r f ∙ sym f
        both None None f g = g ∙ sym f
        both None (Some r) f g = let there : find_row rows k ≡ Some r = lift_from j k rows r g in cc

-- the row of the key goes
pub found_gone : (now ts : List RunRow) (gone : List RunKey) (book : List RunRow) (j : RunKey) → ((k : RunKey) → find_row now k ≡ over ts gone book k)
    → (k : RunKey) → find_row (lift_row now j) k ≡ over (lift_row ts j) (gone ++ j ∷ []) book k
found_gone now ts gone book j found k =
    found_lifted now j k
    ∙ (go (is_eq (key_cmp j k))
    ∙ sym (ap₂ (λ o b. first_there o (cond b None (find_row book k))) (found_lifted ts j k) (named_last k j gone)))
  where
    go : (b : Bool) → cond b None (find_row now k) ≡ first_there (cond b None (find_row ts k)) (cond (b || named k gone) None (find_row book k))
    go true = refl
    go false = found k

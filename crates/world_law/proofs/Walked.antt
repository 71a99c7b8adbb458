-- All changes of a step, one after another: what became of the row of each key, and which rows are gone.
use Rattle.std.specs.Ordering.{is_eq}
use Rattle.std.specs.List.{AllByRecursion, list_any}
use Rattle.std.proofs.Common.{◌≡◌, ◌≤◌, ◌⊎◌, ◌==◌, ◌||◌, inl, inr, ◌+◌, ℕ, Bool, true, false, cond, not, IsTrue, List, [], ◌∷◌, map, Option, Some, None, is_lt, is_some, nat_le, option_map, refl, sym, ap, ◌∙◌, subst, arith}
use Rattle.std.proofs.lemmas.Bool.Decides.{nat_tests}
use Rattle.std.proofs.lemmas.List.Elements.{recursion_from_All}
use Rattle.std.specs.declared.cmp.Ordering.{Ordering}
use Rattle.std.specs.declared.cmp.Ordering.TheVariants.{Less, Equal, Greater}
use Rattle.ps_time.specs.Key.{key_cmp}
use Rattle.ps_time.specs.Numbers.{keeping}
use Rattle.ps_time.specs.Sorted.{find_key, without_key}
use Rattle.ps_time.specs.declared.key.RunKey.{RunKey}
use Rattle.ps_time.proofs.KeyLemmas.{key_cmp_same, key_cmp_total}
use Rattle.ps_time.proofs.PictureLemmas.{and_true}
use Rattle.run_states.specs.Purging.{is_archived, is_later, is_led_out, is_long_past, is_purgeable, rest_of}
use Rattle.run_states.specs.Rows.{IsAscendingRows, find_row}
use Rattle.run_states.specs.declared.row.RunRow.{RunRow}
use Rattle.host_model.specs.Apply.{apply, apply_all}
use Rattle.host_model.specs.Book.{Book, epoch_of, find_pair}
use Rattle.host_model.specs.Effect.{has_key}
use Rattle.host_model.specs.Granting.{AcceptsGranted}
use Rattle.host_model.specs.Grown.{Remains}
use Rattle.host_model.specs.Lawful.{Lawful}
use Rattle.host_model.specs.MayFollow.{CanApply}
use Rattle.host_model.specs.declared.change.Change.{Change}
use Rattle.host_model.specs.declared.change.Change.TheVariants.{Posted, TaskClosed, LimitsSet, Purged}
use Rattle.host_model.specs.declared.config.Config.{Config}
use Rattle.host_model.specs.declared.input.Input.{Input}
use Rattle.host_model.proofs.Evolve.{Remains-refl, Remains-trans}
use Rattle.host_model.proofs.Placed.{find_row-key, lift_from, lift_keeps}
use Rattle.host_model.proofs.RowLemmas.{all_of_found}
use Rattle.host_model.proofs.Standing.{changed_row, changed_key, find_row-map}
use Rattle.host_model.proofs.WalkLemmas.{AllAlong}
use Rattle.host_model.proofs.Keyed
use Rattle.world_law.proofs.Allowed.{Allows, Newer}
use Rattle.world_law.proofs.Carries.{Carries, carries_refl, carries_trans}
use Rattle.world_law.proofs.Changed.{IsIdle, IsStaying, IsSteady, change_moved, with_found}
use Rattle.world_law.proofs.Moves.{Moved, moved_refl, moved_trans}

abbrev pub IsPurge : Change → Type 0
IsPurge (Purged k) = Unit {0}
IsPurge c = ⊥

-- what goes does so last
abbrev pub PurgesLast : List Change → Type 0
PurgesLast [] = Unit {0}
PurgesLast (c ∷ cs) = (IsPurge c × AllByRecursion IsPurge cs) ⊎ (IsStaying c × PurgesLast cs)

-- ---- tasks and epochs
steady_one : (m : ℕ) (ch : Change) (a : Book) → IsSteady ch → ((apply m ch a).epochs ≡ a.epochs) × ((apply m ch a).tasks ≡ a.tasks)
steady_one m (Posted t) a s = absurd s
steady_one m (TaskClosed serial) a s = absurd s
steady_one m (LimitsSet l) a s = absurd s
steady_one m ch a s = (refl, refl)

pub steady_end : (m : ℕ) (cs : List Change) (a : Book) → AllByRecursion IsSteady cs → ((apply_all m cs a).epochs ≡ a.epochs) × ((apply_all m cs a).tasks ≡ a.tasks)
steady_end m [] a all = (refl, refl)
steady_end m (ch ∷ cs) a all = let x = steady_end m cs (apply m ch a) all.1 in let y = steady_one m ch a all.0 in (x.0 ∙ y.0, x.1 ∙ y.1)

-- ---- one row goes
lifted_none : {X : Type 0} (key : X → RunKey) (j : RunKey) (xs : List X) → find_key key_cmp key (without_key key_cmp key xs j) j ≡ None
lifted_none key j [] = refl
lifted_none key j (x ∷ xs) = go (is_eq (key_cmp (key x) j)) refl (lifted_none key j xs)
  where
    go : (b : Bool) → is_eq (key_cmp (key x) j) ≡ b → find_key key_cmp key (without_key key_cmp key xs j) j ≡ None → find_key key_cmp key (cond (not b) (x ∷ without_key key_cmp key xs j) (without_key key_cmp key xs j)) j ≡ None
    go true h ih = ih
    go false h ih = ap (λ t. cond t (Some x) (find_key key_cmp key (without_key key_cmp key xs j) j)) h ∙ ih

module _ (m : ℕ) (j : RunKey) (a : Book) where
  abbrev f : RunRow → RunRow
  f = changed_row m a.tasks (Purged j) a.rows

  same_row : (r : RunRow) → f r ≡ r
  same_row r = go (has_key r.key (Some j))
    where
      go : (b : Bool) → cond b r r ≡ r
      go true = refl
      go false = refl

  same_found : (k : RunKey) → find_row (map f a.rows) k ≡ find_row a.rows k
  same_found k = find_row-map f (changed_key m a.tasks (Purged j) a.rows) a.rows k ∙ go (find_row a.rows k)
    where
      go : (o : Option RunRow) → option_map f o ≡ o
      go None = refl
      go (Some r) = ap Some (same_row r)

  purge_from : (k : RunKey) (r : RunRow) → find_row (apply m (Purged j) a).rows k ≡ Some r → find_row a.rows k ≡ Some r
  purge_from k r e = sym (same_found k) ∙ lift_from j k (map f a.rows) r e

  purge_stays : (k : RunKey) (r : RunRow) → is_eq (key_cmp k j) ≡ false → find_row a.rows k ≡ Some r → find_row (apply m (Purged j) a).rows k ≡ Some r
  purge_stays k r other e = lift_keeps j k other (map f a.rows) r (same_found k ∙ e)

  -- what stands has another key
  purge_other : (k : RunKey) (r : RunRow) → find_row (apply m (Purged j) a).rows k ≡ Some r → is_eq (key_cmp k j) ≡ false
  purge_other k r e = go (is_eq (key_cmp k j)) refl
    where
      go : (b : Bool) → is_eq (key_cmp k j) ≡ b → b ≡ false
      go false h = refl
      go true h =
          let none : find_row (apply m (Purged j) a).rows j ≡ None = lifted_none (λ r. r.key) j (map f a.rows) in
          let some : find_row (apply m (Purged j) a).rows j ≡ Some r = subst (λ x. find_row (apply m (Purged j) a).rows x ≡ Some r) (Keyed.key_is k j h) e in
          cc

  purge_epoch : (k : RunKey) → is_eq (key_cmp k j) ≡ false → Remains (epoch_of a k) (epoch_of (apply m (Purged j) a) k)
  purge_epoch k other = go (find_pair a.pairs k) refl
    where
      go : (o : Option (RunKey × ℕ)) → find_pair a.pairs k ≡ o → Remains (option_map (λ p. p.1) o) (epoch_of (apply m (Purged j) a) k)
      go None e n g = cc
      go (Some p) e n g = ap (option_map (λ p. p.1)) (Keyed.without_keeps (λ p. p.0) j k other a.pairs p e) ∙ g

-- ---- rows of the same task
less_not_same : (k j : RunKey) → key_cmp k j ≡ Less → k ≡ j → ⊥
less_not_same k j less same = let equal : key_cmp k k ≡ Equal = key_cmp_same k in let here : key_cmp k k ≡ Less = subst (λ x. key_cmp k x ≡ Less) (sym same) less in cc

is_less : (o : Ordering) → is_lt o ≡ true → o ≡ Less
is_less Less e = refl
is_less Equal e = cc
is_less Greater e = cc

-- a row of these passes the test
abbrev Found : (RunRow → Bool) → List RunRow → Type 0
Found t rows = (r : RunRow) × (find_row rows r.key ≡ Some r) × (t r ≡ true)

abbrev Finds : (RunRow → Bool) → List RunRow → RunRow → Type 0
Finds t rows r = t r ≡ true → Found t rows

any_found : (t : RunRow → Bool) (rows : List RunRow) → IsAscendingRows rows → list_any t rows ≡ true → Found t rows
any_found t rows up some = pick rows (recursion_from_All (Finds t rows) rows (all_of_found (Finds t rows) rows up (λ r at e. (r, at, e)))) some
  where
    pick : (xs : List RunRow) → AllByRecursion (Finds t rows) xs → list_any t xs ≡ true → Found t rows
    pick [] all e = cc
    pick (x ∷ xs) all e = go (t x) refl e (pick xs all.1)
      where
        go : (b : Bool) → t x ≡ b → (b || list_any t xs) ≡ true → (list_any t xs ≡ true → Found t rows) → Found t rows
        go true f g rest = all.0 f
        go false f g rest = rest g

-- a row that this host leads and that may go isn't the newest of its task
led_newer : (self m : ℕ) (a : Book) (r : RunRow) → IsAscendingRows a.rows → is_purgeable self m a.rows r ≡ true → r.key.lead ≡ self → Newer r.key a.rows
led_newer self m a r up may own =
    let out : (not (r.key.lead == self) || is_led_out a.rows r) ≡ true = (and_true (is_long_past m r) _ may).1 in
    let led : is_led_out a.rows r ≡ true = no (r.key.lead == self) (grind (arith, nat_tests)) out in
    let x = any_found (λ s. is_later r.key s.key) a.rows up (and_true (is_archived r) _ led).1 in
    let lead = and_true (x.0.key.lead == r.key.lead) _ x.2 in
    let task = and_true (x.0.key.task == r.key.task) _ lead.1 in
    record { key = x.0.key; row = x.0; at = x.1; lead = grind (arith, nat_tests, lead.0); task = grind (arith, nat_tests, task.0); later = is_less _ task.1 }
  where
    no : (b : Bool) → b ≡ true → (not b || is_led_out a.rows r) ≡ true → is_led_out a.rows r ≡ true
    no true e f = f
    no false e f = cc

-- a row that goes is long at rest
long_past : (self m : ℕ) (rows : List RunRow) (r : RunRow) → is_purgeable self m rows r ≡ true → rest_of r + keeping ≤ m
long_past self m rows r may = let t : nat_le (rest_of r + keeping) m ≡ true = (and_true (is_some r.closed || is_some r.ended) _ (and_true (is_long_past m r) _ may).0).1 in grind (arith, nat_tests)

-- a row that is gone: long at rest, and at its lead a newer one of its task stands
pub record Left (self m : ℕ) (d : Book) (k : RunKey) (r : RunRow) : Type 0 where
  pub row : RunRow
  pub carries : Carries r row
  pub past : rest_of row + keeping ≤ m
  pub newer : k.lead ≡ self → Newer k d.rows

-- of a host with this number in a world with these names, at m, for an input
module _ (names : ℕ → List ℕ) (self m : ℕ) (i : Input) (c : Config) where
  -- what is known of each change, at the book to which it is made
  abbrev pub Guarded : Book → Change → Type 0
  Guarded a ch = CanApply a ch × Lawful self a × Allows names self m i a ch × AcceptsGranted c a ch

  -- ---- rows only go
  abbrev purgeable_row : (a : Book) (j : RunKey) → Guarded a (Purged j) → (r : RunRow) → find_row a.rows j ≡ Some r → is_purgeable self m a.rows r ≡ true
  purgeable_row a j g r at = with_found a j (λ r. IsTrue (is_purgeable self m a.rows r)) r g.2 at

  -- a newer row stays, or a still newer one does
  newer_after : (a : Book) (j : RunKey) → Guarded a (Purged j) → (k : RunKey) → k.lead ≡ self → Newer k a.rows → Newer k (apply m (Purged j) a).rows
  newer_after a j g k own n = go (is_eq (key_cmp n.key j)) refl
    where
      keep : (x : Newer k a.rows) → is_eq (key_cmp x.key j) ≡ false → Newer k (apply m (Purged j) a).rows
      keep x other = record { key = x.key; row = x.row; at = purge_stays m j a x.key x.row other x.at; lead = x.lead; task = x.task; later = x.later }

      apart : (j : RunKey) (x : Newer j a.rows) → is_eq (key_cmp x.key j) ≡ false
      apart j x = no (is_eq (key_cmp x.key j)) refl
        where
          no : (b : Bool) → is_eq (key_cmp x.key j) ≡ b → b ≡ false
          no false e = refl
          no true e = absurd (less_not_same j x.key x.later (sym (Keyed.key_is x.key j e)))

      by_later : (x : Newer j a.rows) → key_cmp k j ≡ Less → j.lead ≡ k.lead → j.task ≡ k.task → Newer k (apply m (Purged j) a).rows
      by_later x less lead task = keep (record { key = x.key; row = x.row; at = x.at; lead = x.lead ∙ lead; task = x.task ∙ task; later = key_cmp_total.trans k j x.key less x.later }) (apart j x)

      go : (b : Bool) → is_eq (key_cmp n.key j) ≡ b → Newer k (apply m (Purged j) a).rows
      go false e = keep n e
      go true e =
          let same : n.key ≡ j = Keyed.key_is n.key j e in
          let at : find_row a.rows j ≡ Some n.row = subst (λ x. find_row a.rows x ≡ Some n.row) same n.at in
          let key : n.row.key ≡ j = find_row-key a.rows j n.row at in
          let next : Newer n.row.key a.rows = led_newer self m a n.row g.1.ascending (purgeable_row a j g n.row at) (ap (λ x. x.lead) (key ∙ sym same) ∙ n.lead ∙ own) in
          let later : Newer j a.rows = subst (λ x. Newer x a.rows) key next in
          by_later later (subst (λ x. key_cmp k x ≡ Less) same n.later) (ap (λ x. x.lead) (sym same) ∙ n.lead) (ap (λ x. x.task) (sym same) ∙ n.task)

  newer_end : (cs : List Change) (a : Book) → AllByRecursion IsPurge cs → AllAlong Guarded m a cs → (k : RunKey) → k.lead ≡ self → Newer k a.rows → Newer k (apply_all m cs a).rows
  newer_end [] a all g k own n = n
  newer_end (Purged j ∷ cs) a all g k own n = newer_end cs (apply m (Purged j) a) all.1 g.1 k own (newer_after a j g.0 k own n)
  newer_end (ch ∷ cs) a all g k own n = absurd all.0

  stands_end : (cs : List Change) (a : Book) → AllByRecursion IsPurge cs → (k : RunKey) (r : RunRow) → find_row (apply_all m cs a).rows k ≡ Some r → (find_row a.rows k ≡ Some r) × Remains (epoch_of a k) (epoch_of (apply_all m cs a) k)
  stands_end [] a all k r e = (e, Remains-refl (epoch_of a k))
  stands_end (Purged j ∷ cs) a all k r e =
      let x = stands_end cs (apply m (Purged j) a) all.1 k r e in
      (purge_from m j a k r x.0, Remains-trans (epoch_of a k) (epoch_of (apply m (Purged j) a) k) (epoch_of (apply_all m (Purged j ∷ cs) a) k) (purge_epoch m j a k (purge_other m j a k r x.0)) x.1)
  stands_end (ch ∷ cs) a all k r e = absurd all.0

  gone_end : (cs : List Change) (a : Book) → AllByRecursion IsPurge cs → AllAlong Guarded m a cs → (k : RunKey) (r : RunRow) → find_row a.rows k ≡ Some r → find_row (apply_all m cs a).rows k ≡ None → Left self m (apply_all m cs a) k r
  gone_end [] a all g k r e n = cc
  gone_end (Purged j ∷ cs) a all g k r e n = go (is_eq (key_cmp k j)) refl (λ at. gone_end cs (apply m (Purged j) a) all.1 g.1 k r at n)
    where
      go : (b : Bool) → is_eq (key_cmp k j) ≡ b → (find_row (apply m (Purged j) a).rows k ≡ Some r → Left self m (apply_all m (Purged j ∷ cs) a) k r) → Left self m (apply_all m (Purged j ∷ cs) a) k r
      go false h later = later (purge_stays m j a k r h e)
      go true h later =
          let same : k ≡ j = Keyed.key_is k j h in
          let at : find_row a.rows j ≡ Some r = subst (λ x. find_row a.rows x ≡ Some r) same e in
          let may = purgeable_row a j g.0 r at in
          let key : r.key ≡ k = find_row-key a.rows k r e in
          record {
            row = r;
            carries = carries_refl r;
            past = long_past self m a.rows r may;
            newer = λ own. newer_end (Purged j ∷ cs) a all g k own (subst (λ x. Newer x a.rows) key (led_newer self m a r g.0.1.ascending may (ap (λ x. x.lead) key ∙ own)));
          }
  gone_end (ch ∷ cs) a all g k r e n = absurd all.0

  -- ---- all changes
  pub record Walked (a d : Book) : Type 0 where
    pub stands : (k : RunKey) (r : RunRow) → find_row d.rows k ≡ Some r → Moved names self m i c d a k (Some r) (epoch_of d k)
    pub gone : (k : RunKey) (r : RunRow) → find_row a.rows k ≡ Some r → find_row d.rows k ≡ None → Left self m d k r

  walked_purges : (cs : List Change) (a : Book) → AllByRecursion IsPurge cs → AllAlong Guarded m a cs → Walked a (apply_all m cs a)
  walked_purges cs a all g = record {
    stands = λ k r e. let x = stands_end cs a all k r e in stood k r x.0 x.1;
    gone = λ k r e n. gone_end cs a all g k r e n;
  }
    where
      accepts : (r s : RunRow) → Some r ≡ Some s → IsTrue (is_some s.accepted) → IsTrue (is_some r.accepted)
      accepts r s f g = let same : s ≡ r = cc in subst (λ x. IsTrue (is_some x.accepted)) same g

      stood : (k : RunKey) (r : RunRow) → find_row a.rows k ≡ Some r → Remains (epoch_of a k) (epoch_of (apply_all m cs a) k) → Moved names self m i c (apply_all m cs a) a k (Some r) (epoch_of (apply_all m cs a) k)
      stood k r e kept =
          let x = moved_refl names self m i c (apply_all m cs a) a k in
          let y : Moved names self m i c (apply_all m cs a) a k (Some r) (epoch_of a k) = subst (λ o. Moved names self m i c (apply_all m cs a) a k o (epoch_of a k)) e x in
          record {
            grown = y.grown;
            epoch = kept;
            born = y.born;
            accepted = λ s f g. inl (r, e, accepts r s f g);
            confirmed = y.confirmed;
            flag = y.flag;
            question = y.question;
            short = y.short;
            timed = y.timed;
          }

  steady_head : (cs : List Change) (a d : Book) → (AllByRecursion IsSteady cs) ⊎ (AllByRecursion IsIdle cs) → (ch : Change) (rest : List Change) → cs ≡ ch ∷ rest → apply_all m cs a ≡ d → IsIdle ch ⊎ ((a.epochs ≡ d.epochs) × (a.tasks ≡ d.tasks))
  steady_head cs a d (inl all) ch rest e f = let x = steady_end m cs a all in inr (sym x.0 ∙ ap (λ b. b.epochs) f, sym x.1 ∙ ap (λ b. b.tasks) f)
  steady_head cs a d (inr all) ch rest e f = inl (subst (AllByRecursion IsIdle) e all).0

  steady_tail : (ch : Change) (cs : List Change) → (AllByRecursion IsSteady (ch ∷ cs)) ⊎ (AllByRecursion IsIdle (ch ∷ cs)) → (AllByRecursion IsSteady cs) ⊎ (AllByRecursion IsIdle cs)
  steady_tail ch cs (inl all) = inl all.1
  steady_tail ch cs (inr all) = inr all.1

  pub walked : (cs : List Change) (a : Book) → PurgesLast cs → AllAlong Guarded m a cs → (AllByRecursion IsSteady cs) ⊎ (AllByRecursion IsIdle cs) → Walked a (apply_all m cs a)
  walked [] a last g steady = walked_purges [] a tt g
  walked (ch ∷ cs) a (inl purges) g steady = walked_purges (ch ∷ cs) a purges g
  walked (ch ∷ cs) a (inr staying) g steady = joined (walked cs b staying.1 g.1 (steady_tail ch cs steady))
    where
      b : Book
      b = apply m ch a

      d : Book
      d = apply_all m cs b

      head : (k : RunKey) → Moved names self m i c d a k (find_row b.rows k) (epoch_of b k)
      head k = change_moved names self m i c d a ch staying.0 g.0.1 g.0.0 g.0.2 g.0.3 (steady_head (ch ∷ cs) a d steady ch cs refl refl) k

      joined : Walked b d → Walked a d
      joined w = record {
        stands = λ k r e. moved_trans names self m i c d a b (λ j. (head j).grown) k (Some r) (epoch_of d k) (head k) (w.stands k r e);
        gone = λ k r e n. left k r n ((head k).grown r e);
      }
        where
          left : (k : RunKey) (r : RunRow) → find_row d.rows k ≡ None → (s : RunRow) × (find_row b.rows k ≡ Some s) × Carries r s → Left self m d k r
          left k r n (s, at, on) = let x = w.gone k s at n in record { row = x.row; carries = carries_trans r s x.row on x.carries; past = x.past; newer = x.newer }

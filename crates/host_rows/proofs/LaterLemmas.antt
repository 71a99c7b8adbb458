-- What whether a row may go takes from the other rows: no more than whether a later one of its task is there.
use Rattle.std.specs.List.{AllByRecursion, last_or, list_any}
use Rattle.std.specs.Ordering.{is_eq, is_lt, match_ordering}
use Rattle.std.specs.declared.cmp.Ordering.{Ordering}
use Rattle.std.specs.declared.cmp.Ordering.TheVariants.{Less, Equal, Greater}
use Rattle.std.specs.Prelude.{◌==◌}
use Rattle.std.proofs.Common.{◌≡◌, ℕ, Bool, true, false, not, cond, ◌&&◌, ◌||◌, List, [], ◌∷◌, Option, Some, None, refl, ap, ap₂, sym, subst, ◌∙◌, arith}
use Rattle.std.proofs.Math.Bool.{and-false, and-true, or-true}
use Rattle.std.proofs.lemmas.Bool.Decides.{nat_tests}
use Rattle.ps_time.specs.Key.{key_cmp}
use Rattle.ps_time.specs.declared.key.RunKey.{RunKey}
use Rattle.run_states.specs.Purging.{is_archived, is_later, is_long_past, is_purgeable}
use Rattle.run_states.specs.Rows.{find_row, lift_row, put_row, IsAscendingRows}
use Rattle.run_states.specs.TaskRows.{is_of_task, newest_row, rows_of_task}
use Rattle.run_states.specs.declared.row.RunRow.{RunRow}

-- a later run of the key's task is among these
abbrev pub has_later : RunKey → List RunRow → Bool
has_later k rows = list_any (λ s. is_later k s.key) rows

pub by_later : (self m : ℕ) (a b : List RunRow) (r : RunRow) → has_later r.key a ≡ has_later r.key b → is_purgeable self m a r ≡ is_purgeable self m b r
by_later self m a b r same = ap (λ t. is_long_past m r && (not (r.key.lead == self) || (is_archived r && t))) same

less : (past other archived was is : Bool) → (is ≡ true → was ≡ true) → (past && (other || (archived && was))) ≡ false → (past && (other || (archived && is))) ≡ false
less past other archived was true up e = ap (λ t. past && (other || (archived && t))) (sym (up refl)) ∙ e
less false other archived was false up e = refl
less true true archived was false up e = cc
less true false archived was false up e = and-false archived

-- what may not go among these may not go among others that have no later one beside
pub fewer_stay : (self m : ℕ) (a b : List RunRow) (r : RunRow) → (has_later r.key b ≡ true → has_later r.key a ≡ true) → is_purgeable self m a r ≡ false → is_purgeable self m b r ≡ false
fewer_stay self m a b r fewer stays = less (is_long_past m r) (not (r.key.lead == self)) (is_archived r) (has_later r.key a) (has_later r.key b) fewer stays

-- a row goes
pub later_lifted : (j k : RunKey) (rows : List RunRow) → has_later j (lift_row rows k) ≡ true → has_later j rows ≡ true
later_lifted j k [] e = e
later_lifted j k (r ∷ rs) e = go (is_eq (key_cmp r.key k)) e (later_lifted j k rs)
  where
    either : (own : Bool) → (own || has_later j (lift_row rs k)) ≡ true → (has_later j (lift_row rs k) ≡ true → has_later j rs ≡ true) → (own || has_later j rs) ≡ true
    either true e later = refl
    either false e later = later e

    go : (gone : Bool) → has_later j (cond (not gone) (r ∷ lift_row rs k) (lift_row rs k)) ≡ true → (has_later j (lift_row rs k) ≡ true → has_later j rs ≡ true) → (is_later j r.key || has_later j rs) ≡ true
    go false e later = either (is_later j r.key) e later
    go true e later = ap (λ t. is_later j r.key || t) (later e) ∙ or-true (is_later j r.key)

-- ---- a row comes
swap : (a b c : Bool) → (a || (b || c)) ≡ (b || (a || c))
swap true true c = refl
swap true false c = refl
swap false true c = refl
swap false false c = refl

pub later_put : (j : RunKey) (rows : List RunRow) (n : RunRow) → has_later j (put_row rows n) ≡ (is_later j n.key || has_later j rows)
later_put j [] n = refl
later_put j (x ∷ xs) n = go (key_cmp x.key n.key) (ap (λ t. is_later j x.key || t) (later_put j xs n) ∙ swap (is_later j x.key) (is_later j n.key) (has_later j xs))
  where
    go : (c : Ordering) → has_later j (x ∷ put_row xs n) ≡ (is_later j n.key || has_later j (x ∷ xs))
        → has_later j (match_ordering c (x ∷ put_row xs n) (x ∷ put_row xs n) (n ∷ x ∷ xs)) ≡ (is_later j n.key || has_later j (x ∷ xs))
    go Less later = later
    go Equal later = later
    go Greater later = refl

-- ---- the row of a task that has no later one is its newest
own_later : (k : RunKey) (r : RunRow) → key_cmp k r.key ≡ Less → is_later k r.key ≡ is_of_task k.lead k.task r
own_later k r above = ap (λ c. (r.key.lead == k.lead) && ((r.key.task == k.task) && is_lt c)) above ∙ ap (λ b. (r.key.lead == k.lead) && b) (and-true (r.key.task == k.task))

none_above : (k : RunKey) (rows : List RunRow) → AllByRecursion (λ y. key_cmp k y.key ≡ Less) rows → has_later k rows ≡ false → rows_of_task k.lead k.task rows ≡ []
none_above k [] above none = refl
none_above k (r ∷ rs) above none = go (is_of_task k.lead k.task r) (sym (ap (λ b. b || has_later k rs) (own_later k r above.0)) ∙ none) (none_above k rs above.1)
  where
    go : (b : Bool) → (b || has_later k rs) ≡ false → (has_later k rs ≡ false → rows_of_task k.lead k.task rs ≡ []) → cond b (r ∷ rows_of_task k.lead k.task rs) (rows_of_task k.lead k.task rs) ≡ []
    go true e later = cc
    go false e later = later e

second_false : (a b : Bool) → (a || b) ≡ false → b ≡ false
second_false true b e = cc
second_false false b e = e

of_own_task : (r : RunRow) → is_of_task r.key.lead r.key.task r ≡ true
of_own_task r = grind (arith, nat_tests)

module _ (r : RunRow) where
  abbrev task_rows : List RunRow → List RunRow
  task_rows rows = rows_of_task r.key.lead r.key.task rows

  newest_is : (rows : List RunRow) → IsAscendingRows rows → find_row rows r.key ≡ Some r → has_later r.key rows ≡ false → (o : Option RunRow) → last_or o (task_rows rows) ≡ Some r
  newest_is [] up at none o = cc
  newest_is (x ∷ xs) up at none o =
      let rest : has_later r.key xs ≡ false = second_false (is_later r.key x.key) (has_later r.key xs) none in
      go (is_eq (key_cmp x.key r.key)) at rest (λ found p. newest_is xs up.1 found rest p)
    where
      here : x ≡ r → has_later r.key xs ≡ false → last_or o (task_rows (x ∷ xs)) ≡ Some r
      here same rest =
          let above : AllByRecursion (λ y. key_cmp r.key y.key ≡ Less) xs = subst (λ y. AllByRecursion (λ z. key_cmp y.key z.key ≡ Less) xs) same up.0 in
          let own : is_of_task r.key.lead r.key.task x ≡ true = ap (is_of_task r.key.lead r.key.task) same ∙ of_own_task r in
          ap₂ (λ b l. last_or o (cond b (x ∷ l) l)) own (none_above r.key xs above rest) ∙ ap (λ y. Some y) same

      there : ((p : Option RunRow) → last_or p (task_rows xs) ≡ Some r) → (b : Bool) → last_or o (cond b (x ∷ task_rows xs) (task_rows xs)) ≡ Some r
      there later true = later (Some x)
      there later false = later o

      go : (b : Bool) → cond b (Some x) (find_row xs r.key) ≡ Some r → has_later r.key xs ≡ false → (find_row xs r.key ≡ Some r → (p : Option RunRow) → last_or p (task_rows xs) ≡ Some r) → last_or o (task_rows (x ∷ xs)) ≡ Some r
      go true found rest later = let own : x ≡ r = cc in here own rest
      go false found rest later = there (later found) (is_of_task r.key.lead r.key.task x)

of_lead : (k j : RunKey) → is_later k j ≡ true → j.lead ≡ k.lead
of_lead k j later = grind (arith, nat_tests)

of_task : (k j : RunKey) → is_later k j ≡ true → j.task ≡ k.task
of_task k j later = grind (arith, nat_tests)

-- of the task of a later run
pub newest_beside : (r : RunRow) (k : RunKey) (rows : List RunRow) → IsAscendingRows rows → find_row rows r.key ≡ Some r → has_later r.key rows ≡ false → is_later r.key k ≡ true → newest_row k.lead k.task rows ≡ Some r
newest_beside r k rows up at none later = ap₂ (λ lead task. newest_row lead task rows) (of_lead r.key k later) (of_task r.key k later) ∙ newest_is r rows up at none None

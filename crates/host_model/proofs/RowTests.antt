-- A test of all rows that stand ascending by key decides what holds of each row that a key finds.
use Rattle.std.specs.Bool.{Decides}
use Rattle.std.specs.List.{list_all}
use Rattle.std.specs.Ordering.{int_cmp, is_lt}
use Rattle.std.proofs.Common.{◌≡◌, ◌&&◌, ◌||◌, ◌+◌, ℕ, ℤ, Bool, true, false, not, is_some, nat_lt, List, All, Option, Some, None, refl, sym, ap, ◌∙◌}
use Rattle.std.proofs.lemmas.Bool.{and_parts, and_from, ltb-true, lt-ltb}
use Rattle.std.proofs.lemmas.Bool.Decides.{Decides-by_and, Decides-like}
use Rattle.ps_time.specs.Class.{conflicting_classes}
use Rattle.ps_time.specs.Numbers.{on_deck}
use Rattle.ps_time.specs.Span.{Span}
use Rattle.ps_time.specs.declared.class.Class.{Class}
use Rattle.ps_time.specs.declared.key.RunKey.{RunKey}
use Rattle.plugin_core.specs.TestSpec.{test_class}
use Rattle.run_states.specs.Conflict.{blocks, clashes}
use Rattle.run_states.specs.Life.{is_booked}
use Rattle.run_states.specs.Preemption.{starts_after, yields}
use Rattle.run_states.specs.Rows.{IsAscendingRows, find_row}
use Rattle.run_states.specs.declared.row.RunRow.{RunRow}
use Rattle.host_model.specs.Conflicting.{Conflicts, MayPreempt}
use Rattle.host_model.proofs.Deciding.{lower_decided}
use Rattle.host_model.proofs.RowLemmas.{all_of_found, found_of_all}

-- ---- all rows, and each that is found
module _ (test : RunRow → Bool) (P : RunRow → Type 0) (each : (r : RunRow) → Decides (test r) (P r)) (rows : List RunRow) (up : IsAscendingRows rows) where
  every : Decides (list_all test rows) (All P rows)
  every = Decides-by_and test P (list_all test) each refl (λ _ _. refl) rows

  found_each : All P rows → (k : RunKey) (r : RunRow) → find_row rows k ≡ Some r → P r
  found_each all k r e = found_of_all P k r rows all e

  from_each : ((k : RunKey) (r : RunRow) → find_row rows k ≡ Some r → P r) → All P rows
  from_each found = all_of_found P rows up (λ r e. found r.key r e)

  pub rows_decided : Decides (list_all test rows) ((k : RunKey) (r : RunRow) → find_row rows k ≡ Some r → P r)
  rows_decided = Decides-like (list_all test rows) found_each from_each every

-- ---- one row
none_of : {A : Type 0} (o : Option A) → not (is_some o) ≡ true → o ≡ None
none_of None e = refl
none_of (Some x) e = cc

not_some : {A : Type 0} (o : Option A) → o ≡ None → not (is_some o) ≡ true
not_some None e = refl
not_some (Some x) e = cc

module _ (class : Class) (wanted : Span) (r : RunRow) where
  conflicts_from : is_booked r ≡ true → (o : Option Span) → r.interval ≡ o → clashes class wanted (test_class r.test) o ≡ true → (i : Span) × Conflicts class wanted r i
  conflicts_from booked None at e = cc
  conflicts_from booked (Some i) at e =
      let life = and_parts (is_some r.accepted) (not (is_some r.closed)) booked in
      let both = and_parts (conflicting_classes class (test_class r.test)) (nat_lt wanted.start i.end && nat_lt i.start wanted.end) e in
      let apart = and_parts (nat_lt wanted.start i.end) (nat_lt i.start wanted.end) both.1 in (
        i,
        record {
          accepted = life.0;
          unclosed = none_of r.closed life.1;
          reserved = at;
          classes = both.0;
          before_end = ltb-true wanted.start i.end apart.0;
          after_start = ltb-true i.start wanted.end apart.1;
        },
      )

  to_conflicts : blocks class wanted r ≡ true → (i : Span) × Conflicts class wanted r i
  to_conflicts e =
      let both = and_parts (is_booked r) (clashes class wanted (test_class r.test) r.interval) e in
      conflicts_from both.0 r.interval refl both.1

  of_conflicts : (i : Span) × Conflicts class wanted r i → blocks class wanted r ≡ true
  of_conflicts x =
      let f = x.1 in
      let booked : is_booked r ≡ true = and_from _ _ f.accepted (not_some r.closed f.unclosed) in
      let crossed = and_from _ _ (lt-ltb wanted.start x.0.end f.before_end) (lt-ltb x.0.start wanted.end f.after_start) in
      let clash : clashes class wanted (test_class r.test) (Some x.0) ≡ true = and_from _ _ f.classes crossed in
      and_from _ _ booked (ap (clashes class wanted (test_class r.test)) f.reserved ∙ clash)

  -- a row blocks a run exactly where it is in conflict with it
  pub blocks_decided : Decides (blocks class wanted r) ((i : Span) × Conflicts class wanted r i)
  blocks_decided = (to_conflicts, of_conflicts)

-- ---- what gives way
module _ (priority : ℤ) (m : ℕ) (r : RunRow) (i : Span) (at : r.interval ≡ Some i) where
  to_preempt : yields priority m r ≡ true → MayPreempt priority m r i
  to_preempt e =
      let both = and_parts (is_lt (int_cmp r.priority priority)) (not (is_some r.started) && starts_after (m + on_deck) r.interval) e in
      let later = and_parts (not (is_some r.started)) (starts_after (m + on_deck) r.interval) both.1 in
      record {
        lower = (lower_decided r.priority priority).0 both.0;
        waiting = none_of r.started later.0;
        not_on_deck = ltb-true (m + on_deck) i.start (sym (ap (starts_after (m + on_deck)) at) ∙ later.1);
      }

  of_preempt : MayPreempt priority m r i → yields priority m r ≡ true
  of_preempt f =
      let start : starts_after (m + on_deck) (Some i) ≡ true = lt-ltb (m + on_deck) i.start f.not_on_deck in
      and_from _ _ ((lower_decided r.priority priority).1 f.lower) (and_from _ _ (not_some r.started f.waiting) (ap (starts_after (m + on_deck)) at ∙ start))

  -- a row yields exactly where it may be preempted
  pub yields_decided : Decides (yields priority m r) (MayPreempt priority m r i)
  yields_decided = (to_preempt, of_preempt)

-- what blocks the run yields to it, exactly where each row in conflict may be preempted
module _ (class : Class) (wanted : Span) (priority : ℤ) (m : ℕ) (r : RunRow) where
  abbrev pub GivesWay : Type 0
  GivesWay = (i : Span) → Conflicts class wanted r i → MayPreempt priority m r i

  to_way : (not (blocks class wanted r) || yields priority m r) ≡ true → GivesWay
  to_way e i f =
      let against : blocks class wanted r ≡ true = (blocks_decided class wanted r).1 (i, f) in
      let yield : yields priority m r ≡ true = ap (λ b. not b || yields priority m r) (sym against) ∙ e in
      (yields_decided priority m r i f.reserved).0 yield

  of_way_at : (b : Bool) → blocks class wanted r ≡ b → GivesWay → (not b || yields priority m r) ≡ true
  of_way_at false e way = refl
  of_way_at true e way = let x = (blocks_decided class wanted r).0 e in (yields_decided priority m r x.0 x.1.reserved).1 (way x.0 x.1)

  pub way_decided : Decides (not (blocks class wanted r) || yields priority m r) GivesWay
  way_decided = (to_way, of_way_at (blocks class wanted r) refl)

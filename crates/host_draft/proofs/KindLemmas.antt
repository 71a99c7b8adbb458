-- What each change that is read on brings, and does to the rows.
use Rattle.std.specs.Prelude.{IsTrue, MatchOption}
use Rattle.std.proofs.Common.{◌≡◌, ◌≤◌, ℕ, Bool, true, false, cond, not, ◌&&◌, List, Option, Some, None, is_some, IfSome, refl, ap, sym, subst, ◌∙◌}
use Rattle.ps_time.specs.Numbers.{greatest_length, greatest_moment}
use Rattle.ps_time.specs.Span.{Span}
use Rattle.ps_time.specs.declared.asker.Asker.{Asker}
use Rattle.ps_time.specs.declared.key.RunKey.{RunKey}
use Rattle.plugin_core.specs.Bounds.{IsTest}
use Rattle.plugin_core.specs.TestSpec.{test_class, test_length}
use Rattle.archive_retry.specs.Merge.{IsTreeText, IsResultText}
use Rattle.run_states.specs.Conflict.{preempted_rows}
use Rattle.run_states.specs.Effect.{accept_row, confirmed_if, is_alone, merge_row, noted_row}
use Rattle.run_states.specs.LawfulRow.{IsWhy}
use Rattle.run_states.specs.Life.{close_row, first_there, is_booked}
use Rattle.run_states.specs.Preemption.{planned_span}
use Rattle.run_states.specs.ResultBytes.{row_bytes}
use Rattle.run_states.specs.Rows.{change_row, find_row, lift_row, put_row}
use Rattle.run_states.specs.declared.fact.Fact.TheVariants.{Planned as PlannedFact}
use Rattle.run_states.specs.declared.proposal.Question.{Question}
use Rattle.run_states.specs.declared.row.RunRow.{RunRow}
use Rattle.run_states.specs.declared.why.Closing.{Closing}
use Rattle.run_states.specs.declared.why.Why.{Why}
use Rattle.part_core.specs.Reservations.{bookings_of}
use Rattle.part_core.specs.Seen.{IsUnbooked}
use Rattle.host_model.specs.Apply.{apply}
use Rattle.host_model.specs.Book.{Book}
use Rattle.host_model.specs.Effect.{archives_of, states_due}
use Rattle.host_model.specs.Lawful.{Lawful}
use Rattle.host_model.specs.LawfulRow.{IsHostRow}
use Rattle.host_model.specs.MayFollow.{CanApply}
use Rattle.host_model.specs.NewRow.{asked_row}
use Rattle.host_model.specs.declared.change.Change.{Change}
use Rattle.host_model.specs.declared.change.Change.TheVariants.{Asked, Closed, Ended, Merged, Planned, Purged}
use Rattle.host_model.proofs.Keyed.{key_same}
use Rattle.host_model.proofs.Placed.{find_row-key}
use Rattle.host_model.proofs.RowLemmas.{found_of_all}
use Rattle.host_book.specs.Host.{IsSound}
use Rattle.host_book.specs.Ready.{is_merged}
use Rattle.host_book.proofs.AcceptLemmas.{asked_new, asked_rows, planned_apart, planned_length, planned_rows, planned_start}
use Rattle.host_book.proofs.BookLemmas.{purged_rows}
use Rattle.host_book.proofs.BringLemmas.{changed_host, end_brings, merge_brings, merged_before, none_of, unchanged}
use Rattle.host_draft.specs.Making.{HasTests, IsReadOn}
use Rattle.draft_parts.proofs.OverLemmas.{find_row-put}

module _ (number m : ℕ) (now : Book) (at : now.moment ≡ m) (lawful : Lawful number now) where
  sound : IsSound number now (bookings_of now.rows)
  sound = record { lawful = lawful; index = refl }

  -- ---- a run that is asked about
  module _ (q : Question) (names : List (List ℕ)) (asker : Asker) (can : CanApply now (Asked q names asker)) (after : Lawful number (apply now.moment (Asked q names asker) now)) where
    pub ask_new : find_row now.rows q.key ≡ None
    ask_new = asked_new number now (bookings_of now.rows) sound q names asker can after

    pub ask_rows : (apply m (Asked q names asker) now).rows ≡ put_row now.rows (asked_row m q names asker)
    ask_rows = subst (λ n. (apply n (Asked q names asker) now).rows ≡ put_row now.rows (asked_row n q names asker)) at (asked_rows number now (bookings_of now.rows) sound q names asker can after)

    -- its test is within bounds
    pub ask_test : IsTest q.test
    ask_test =
        let row : RunRow = asked_row now.moment q names asker in
        let found : find_row (apply now.moment (Asked q names asker) now).rows q.key ≡ Some row =
        ap (λ l. find_row l q.key) (asked_rows number now (bookings_of now.rows) sound q names asker can after)
        ∙ (find_row-put row now.rows q.key ask_new ∙ ap (λ t. cond t (Some row) (find_row now.rows q.key)) (key_same q.key)) in
        (found_of_all (IsHostRow number now.tasks now.moment) q.key row (apply now.moment (Asked q names asker) now).rows after.rows found).row.test

  -- ---- a run that is given up
  open_row : (o c : Bool) → (not o && not c) ≡ true → o ≡ false
  open_row false c is = refl
  open_row true c is = cc

  -- the tests in the reason are within bounds
  pub close_why : (k : RunKey) (why : Why) → CanApply now (Closed k why) → Lawful number (apply now.moment (Closed k why) now) → IsWhy why
  close_why k why can after = go (find_row now.rows k) refl can
    where
      closing : Closing
      closing = record { moment = now.moment; why = why }

      go : (o : Option RunRow) → find_row now.rows k ≡ o → MatchOption o ⊥ (λ r. IsTrue (not (is_some r.closed) && not (is_some r.started))) → IsWhy why
      go None found can = absurd can
      go (Some r) found can =
          let host : IsHostRow number now.tasks now.moment (close_row closing r) = changed_host (close_row closing) (λ x. refl) now.rows k r found number now.tasks now.moment after.rows in
          subst (λ o. IfSome (first_there o (Some closing)) (λ c. IsWhy c.why)) (none_of r.closed (open_row (is_some r.closed) (is_some r.started) can)) host.row.closed

  -- ---- the tests of a change
  pub tests_of : (c : Change) → IsReadOn c → CanApply now c → Lawful number (apply now.moment c now) → HasTests c
  tests_of (Asked q names asker) kind can after = ask_test q names asker can after
  tests_of (Closed k why) kind can after = close_why k why can after
  tests_of _ kind can after = tt

  -- ---- a run that ends brings its result
  pub end_result : (k : RunKey) (good : Bool) (body : List ℕ) → CanApply now (Ended k good body) → Lawful number (apply m (Ended k good body) now) → IsResultText body
  end_result k good body can after = end_brings number now.tasks now.moment now.rows k (record { moment = m; good = good; body = body }) can after.rows

  -- ---- results that are merged
  pub merge_text : (k : RunKey) (body : List ℕ) → CanApply now (Merged k body) → is_merged (find_row now.rows k) ≡ false → Lawful number (apply m (Merged k body) now) → IsTreeText body
  merge_text k body can is after = merge_brings number now.tasks now.moment now.rows k (states_due m (archives_of now.tasks k)) body can is after.rows

  pub merge_leaves : (k : RunKey) (body : List ℕ) → is_merged (find_row now.rows k) ≡ true → (apply m (Merged k body) now).rows ≡ now.rows
  merge_leaves k body is =
      unchanged (merge_row (states_due m (archives_of now.tasks k)) body) now.rows k
      (λ r found. merged_before number now.tasks now.moment m k body r (find_row-key now.rows k r found) (found_of_all (IsHostRow number now.tasks now.moment) k r now.rows lawful.rows found) (ap is_merged (sym found) ∙ is))
      lawful.ascending

  -- ---- a row that goes
  pub purge_rows : (k : RunKey) → (apply m (Purged k) now).rows ≡ lift_row now.rows k
  purge_rows k = purged_rows k now.rows

  -- ---- a run that is planned
  module _ (k : RunKey) (start : ℕ) (tool : List ℕ) (epoch : ℕ) (can : CanApply now (Planned k start tool epoch)) (after : Lawful number (apply now.moment (Planned k start tool epoch) now)) (r : RunRow) (found : find_row now.rows k ≡ Some r) where
    pub plan_rows : (apply m (Planned k start tool epoch) now).rows ≡ change_row (noted_row (PlannedFact tool (planned_span start r)) m) (preempted_rows m r.key (test_class r.test) (planned_span start r) now.rows) k
    plan_rows =
        subst (λ n. (apply n (Planned k start tool epoch) now).rows ≡ change_row (noted_row (PlannedFact tool (planned_span start r)) n) (preempted_rows n r.key (test_class r.test) (planned_span start r) now.rows) k) at
        (planned_rows number now (bookings_of now.rows) sound k start tool epoch can after r found)

    pub plan_start : start ≤ greatest_moment
    plan_start = planned_start number now (bookings_of now.rows) sound k start tool epoch can after r found

    pub plan_length : (1 ≤ test_length r.test) × (test_length r.test ≤ greatest_length)
    plan_length = planned_length number now (bookings_of now.rows) sound k start tool epoch can after r found

    pub plan_apart : IsUnbooked r.key now.rows
    plan_apart = planned_apart number now (bookings_of now.rows) sound k start tool epoch can after r found

confirmed_bytes : (test : Bool) (m : ℕ) (r : RunRow) → row_bytes (confirmed_if test m r) ≡ row_bytes r
confirmed_bytes true m r = refl
confirmed_bytes false m r = refl

-- a plan leaves results as they are
pub plan_bytes : (tool : List ℕ) (s : Span) (m : ℕ) (r : RunRow) → row_bytes (noted_row (PlannedFact tool s) m r) ≡ row_bytes r
plan_bytes tool s m r = let accepted : RunRow = accept_row m s tool r in confirmed_bytes (is_booked accepted && is_alone accepted) m accepted

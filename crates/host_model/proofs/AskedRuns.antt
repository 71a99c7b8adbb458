-- A question with which the lead begins an attempt brings what is lawful.
use Rattle.std.specs.Prelude.{◌&&◌, nat_le, option_and_then}
use Rattle.std.proofs.Common.{◌≡◌, ◌≤◌, ◌+◌, ℕ, Bool, true, false, cond, min, List, Option, Some, None, is_some, refl, ap, subst, arith}
use Rattle.std.proofs.lemmas.Bool.Decides.{nat_tests}
use Rattle.ps_time.specs.Name.{is_name}
use Rattle.ps_time.specs.Numbers.{greatest_moment, horizon, plan_lead, retry_wait}
use Rattle.ps_time.specs.Span.{Range}
use Rattle.ps_time.specs.declared.key.RunKey.{RunKey}
use Rattle.ps_time.proofs.PictureLemmas.{and_true}
use Rattle.plugin_core.specs.Bounds.{IsTest}
use Rattle.schedule_rule.specs.Rule.{Schedule, has_number, last_start, latest_start, next_of, nominal_start, numbers_of, range_of, reaches_from, window_of, window_reaches}
use Rattle.run_states.specs.LawfulRow.{IsWindow}
use Rattle.run_states.specs.TaskRows.{newest_row}
use Rattle.run_states.specs.declared.row.RunRow.{RunRow}
use Rattle.run_states.specs.declared.why.Closing.{Closing}
use Rattle.run_states.specs.ResultBytes.{result_bytes}
use Rattle.run_states.specs.declared.why.Denial.{Denial}
use Rattle.host_model.specs.Book.{Book, find_task}
use Rattle.host_model.specs.Fits.{full_denial}
use Rattle.host_model.specs.NextAttempt.{ask, asked_change, asked_window, attempt_after, attempt_at, attempt_by, fresh_attempt, is_repeatable, next_attempt, repeated}
use Rattle.host_model.specs.declared.change.Change.{Change}
use Rattle.host_model.specs.declared.config.Config.{Config}
use Rattle.host_model.specs.declared.lead.Attempt.{Attempt}
use Rattle.host_model.specs.declared.task_row.TaskRow.{TaskRow}
use Rattle.host_model.proofs.AcceptBrings.{has_participants, room_of}
use Rattle.host_model.proofs.Brings.{Brings}
use Rattle.host_model.proofs.NextKeys.{first_holds}
use Rattle.host_model.proofs.Wishes.{AsksBy, ask_granted, given_if}

-- ---- the window of a number
range_bounds : (exists : Bool) (first last bound : ℕ) (w : Range) → last ≤ bound → range_of exists first last ≡ Some w → (w.first ≤ w.last) × (w.last ≤ bound)
range_bounds exists first last bound w low e =
    let g = given_if (exists && nat_le first last) (Some (record { first = first; last = last })) w e in
    let order : nat_le first last ≡ true = (and_true exists (nat_le first last) g.0).1 in
    let starts : first ≤ last = grind (arith, nat_tests, order) in
    let is : record { first = first; last = last } ≡ w = cc in
    subst (λ v. (v.first ≤ v.last) × (v.last ≤ bound)) is (starts, low)

window_bounds : (rule : Schedule) (k : ℕ) (w : Range) → window_of rule k ≡ Some w → (w.first ≤ w.last) × (w.last ≤ greatest_moment)
window_bounds rule k w e = range_bounds (has_number rule k) (nominal_start rule k) (min (latest_start rule k) (last_start rule)) greatest_moment w (omega arith) e

-- ---- the window that is asked about
asked_bounds : (m : ℕ) (w : Range) → w.first ≤ w.last → w.last ≤ greatest_moment → w.first ≤ m + horizon → m + plan_lead ≤ w.last → IsWindow (asked_window m w)
asked_bounds m w order low near reached = record { ordered = omega (arith, order, near, reached); last = omega (arith, low) }

-- an attempt whose window reaches the moment 5 s after m
attempt_window : (m number attempt : ℕ) (rule : Schedule) (a : Attempt) → window_reaches (window_of rule number) (m + plan_lead) ≡ true → attempt_at m number attempt (window_of rule number) ≡ Some a → IsWindow a.window
attempt_window m number attempt rule a reached e = go (window_of rule number) refl reached e
  where
    go : (o : Option Range) → window_of rule number ≡ o → window_reaches o (m + plan_lead) ≡ true → attempt_at m number attempt o ≡ Some a → IsWindow a.window
    go None is reached e = cc
    go (Some w) is reached e =
        let g = given_if (nat_le w.first (m + horizon)) (Some (record { number = number; attempt = attempt; window = asked_window m w })) a e in
        let bounds = window_bounds rule number w is in
        let near : nat_le w.first (m + horizon) ≡ true = g.0 in
        let same : record { number = number; attempt = attempt; window = asked_window m w } ≡ a = cc in
        subst (λ x. IsWindow x.window) same (asked_bounds m w bounds.0 bounds.1 (grind (arith, nat_tests, near)) (grind (arith, nat_tests, reached)))

fresh_window : (m : ℕ) (rule : Schedule) (from : ℕ) (a : Attempt) → fresh_attempt m rule from ≡ Some a → IsWindow a.window
fresh_window m rule from a e = go (next_of rule from (m + plan_lead)) refl e
  where
    go : (o : Option ℕ) → next_of rule from (m + plan_lead) ≡ o → option_and_then (λ number. attempt_at m number 0 (window_of rule number)) o ≡ Some a → IsWindow a.window
    go None is e = cc
    go (Some number) is e =
        let holds : reaches_from rule from (m + plan_lead) number ≡ true = first_holds (reaches_from rule from (m + plan_lead)) 0 (numbers_of rule) number is in
        attempt_window m number 0 rule a (and_true (nat_le from number) _ holds).1 e

after_window : (m : ℕ) (rule : Schedule) (k : RunKey) (a : Attempt) (confirmed : Option ℕ) (closed : Option Closing) → attempt_after m rule k confirmed closed ≡ Some a → IsWindow a.window
after_window m rule k a (Some s) closed e = fresh_window m rule (k.number + 1) a e
after_window m rule k a None None e = cc
after_window m rule k a None (Some c) e = go (is_repeatable m rule k) refl e
  where
    go : (t : Bool) → is_repeatable m rule k ≡ t → cond t (repeated m rule k c) (fresh_attempt m rule (k.number + 1)) ≡ Some a → IsWindow a.window
    go true is e =
        let reached = (and_true _ (window_reaches (window_of rule k.number) (m + plan_lead)) is).1 in
        attempt_window m k.number (k.attempt + 1) rule a reached (given_if (nat_le (c.moment + retry_wait) m) (attempt_at m k.number (k.attempt + 1) (window_of rule k.number)) a e).1
    go false is e = fresh_window m rule (k.number + 1) a e

by_window : (m : ℕ) (rule : Schedule) (o : Option RunRow) (a : Attempt) → attempt_by m rule o ≡ Some a → IsWindow a.window
by_window m rule None a e = fresh_window m rule 0 a e
by_window m rule (Some r) a e = after_window m rule r.key a r.confirmed r.closed e

-- the window of a task's next attempt
pub next_window : (self : ℕ) (t : TaskRow) (rows : List RunRow) (m : ℕ) (a : Attempt) → next_attempt self rows m t ≡ Some a → IsWindow a.window
next_window self t rows m a e = go (is_some t.closed) e
  where
    go : (b : Bool) → cond b None (attempt_by m t.task.rule (newest_row self t.serial rows)) ≡ Some a → IsWindow a.window
    go true e = cc
    go false e = by_window m t.task.rule (newest_row self t.serial rows) a e

-- ---- what a question brings
full_none : (o : Option Denial) → is_some o ≡ false → o ≡ None
full_none None e = refl
full_none (Some d) e = cc

pub asking_brings : (config : Config) (m : ℕ) (b : Book) (t : TaskRow) (d : Change) → is_name config.name ≡ true → find_task b.tasks t.serial ≡ Some t → IsTest t.task.test → ask config m b t ≡ Some d → Brings config.number m b d
asking_brings config m b t d named found test e =
    let asks : AsksBy config m b t d = ask_granted config m b t d e in
    let free = full_none (full_denial b.rows (result_bytes b.rows)) asks.room in
    let brings : Brings config.number m b (asked_change config t asks.attempt) = (
      record {
        test = test;
        window = next_window config.number t b.rows m asks.attempt asks.next;
        participants = has_participants t.task.test config.name test named;
        lead = refl;
        task = ap is_some found;
      },
      room_of b free,
    ) in
    subst (Brings config.number m b) asks.is brings

-- Each run that a turn plans is granted by the limits of the epoch that it names, at the book with the earlier changes applied.
use Rattle.std.proofs.Common.{◌≡◌, ℕ, Bool, true, false, is_some, cond, List, [], ◌∷◌, Option, Some, None, option_map, subst}
use Rattle.plugin_tool.specs.Run.{outcome_at}
use Rattle.run_states.specs.Life.{is_active}
use Rattle.run_states.specs.ResultBytes.{result_bytes}
use Rattle.run_states.specs.Rows.{IsAscendingRows, find_row}
use Rattle.run_states.specs.declared.row.RunRow.{RunRow}
use Rattle.host_model.specs.Apply.{apply}
use Rattle.host_model.specs.Book.{Book}
use Rattle.host_model.specs.Ending.{end_run, end_started, ended_with, tool_view}
use Rattle.host_model.specs.Fits.{full_denial}
use Rattle.host_model.specs.Granting.{AcceptsGranted}
use Rattle.host_model.specs.NextAttempt.{ask, asked_change, next_attempt}
use Rattle.host_model.specs.Plan.{plan_run}
use Rattle.host_model.specs.Turn.{turn_changes}
use Rattle.host_model.specs.Walk.{change_if}
use Rattle.host_model.specs.declared.change.Change.{Change}
use Rattle.host_model.specs.declared.config.Config.{Config}
use Rattle.host_model.specs.declared.task_row.TaskRow.{TaskRow}
use Rattle.host_model.proofs.AnswerLemmas.{plan_granted}
use Rattle.host_model.proofs.LawfulRowsAfter.{rows_up}
use Rattle.host_model.proofs.WalkLemmas.{AllAlong, turn_along}

module _ (c : Config) (m : ℕ) where
  -- where the rows ascend by key
  abbrev WhereUp : Book → Change → Type 0
  WhereUp b x = IsAscendingRows b.rows → AcceptsGranted c b x

  -- ---- changes that accept nothing
  by_test : (b : Book) (t : Bool) (y x : Change) → AcceptsGranted c b y → change_if t y ≡ Some x → AcceptsGranted c b x
  by_test b true y x is e = let same : y ≡ x = cc in subst (AcceptsGranted c b) same is
  by_test b false y x is e = cc

  by_map : {A : Type 0} (b : Book) (f : A → Change) (o : Option A) (x : Change) → ((a : A) → AcceptsGranted c b (f a)) → option_map f o ≡ Some x → AcceptsGranted c b x
  by_map b f None x is e = cc
  by_map b f (Some a) x is e = let same : f a ≡ x = cc in subst (AcceptsGranted c b) same (is a)

  started_ends : (b : Book) (r : RunRow) (o : Option ℕ) (x : Change) → end_started c m r o ≡ Some x → AcceptsGranted c b x
  started_ends b r None x e = cc
  started_ends b r (Some s) x e = by_map b (ended_with r (tool_view c r s)) (outcome_at r.test (tool_view c r s) m) x (λ a. tt) e

  ends : (b : Book) (r : RunRow) (x : Change) → end_run c m b r ≡ Some x → WhereUp b x
  ends b r x e up = go (is_active r) e
    where
      go : (t : Bool) → cond t (end_started c m r r.started) None ≡ Some x → AcceptsGranted c b x
      go true f = started_ends b r r.started x f
      go false f = cc

  asks : (b : Book) (t : TaskRow) (x : Change) → ask c m b t ≡ Some x → WhereUp b x
  asks b t x e up = go (is_some (full_denial b.rows (result_bytes b.rows))) e
    where
      go : (full : Bool) → cond full None (option_map (asked_change c t) (next_attempt c.number b.rows m t)) ≡ Some x → AcceptsGranted c b x
      go true f = cc
      go false f = by_map b (asked_change c t) (next_attempt c.number b.rows m t) x (λ a. tt) f

  -- ---- planning
  plans : (b : Book) (r : RunRow) (x : Change) → find_row b.rows r.key ≡ Some r → plan_run c m b r ≡ Some x → WhereUp b x
  plans b r x found e up = plan_granted c b m up r found x e

  -- ---- the turn
  ascending_along : (xs : List Change) (b : Book) → AllAlong WhereUp m b xs → IsAscendingRows b.rows → AllAlong (AcceptsGranted c) m b xs
  ascending_along [] b all up = tt
  ascending_along (x ∷ xs) b all up = (all.0 up, ascending_along xs (apply m x b) all.1 (rows_up m b.tasks x b.rows up))

  pub turn_granted : (b : Book) → IsAscendingRows b.rows → AllAlong (AcceptsGranted c) m b (turn_changes c b m)
  turn_granted b up =
      ascending_along (turn_changes c b m) b
      (turn_along WhereUp m c (λ a r x found. ends a r x) (λ a r x found e up. by_test a _ _ x tt e) (λ a r x found e up. by_test a _ _ x tt e) plans (λ a t x found. asks a t x) (λ a r x found e up. by_test a _ _ x tt e) b) up

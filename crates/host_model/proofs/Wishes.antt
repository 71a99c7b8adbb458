-- What is so where a wish of a turn is granted, and which change it is.
use Rattle.std.specs.Prelude.{◌&&◌, ◌==◌}
use Rattle.std.proofs.Common.{◌≡◌, ℕ, Bool, true, false, cond, not, Option, Some, None, is_some, option_map, unwrap_or, refl}
use Rattle.ps_time.proofs.PictureLemmas.{and_true}
use Rattle.plugin_tool.specs.Run.{outcome_at}
use Rattle.plugin_tool.specs.declared.run.Outcome.{Outcome as ToolOutcome}
use Rattle.plugin_tool.specs.declared.run.Outcome.TheVariants.{Restarted}
use Rattle.run_states.specs.Life.{is_active, is_booked}
use Rattle.run_states.specs.Purging.{is_purgeable}
use Rattle.run_states.specs.ResultBytes.{result_bytes}
use Rattle.run_states.specs.TaskRows.{is_of_task}
use Rattle.run_states.specs.declared.row.RunRow.{RunRow}
use Rattle.run_states.specs.declared.why.Why.TheVariants.{Canceled}
use Rattle.host_model.specs.Book.{Book}
use Rattle.host_model.specs.Ending.{end_run, end_started, ended_with, restart_run, tool_view}
use Rattle.host_model.specs.Fits.{full_denial}
use Rattle.host_model.specs.Merging.{is_collected, merge_run, merged_text}
use Rattle.host_model.specs.NextAttempt.{ask, asked_change, next_attempt}
use Rattle.host_model.specs.Plan.{is_answered, plan_asked, plan_run}
use Rattle.host_model.specs.Post.{cancel_run}
use Rattle.host_model.specs.Purging.{purge_run}
use Rattle.host_model.specs.Starting.{start_run}
use Rattle.host_model.specs.Walk.{change_if}
use Rattle.host_model.specs.declared.change.Change.{Change}
use Rattle.host_model.specs.declared.change.Change.TheVariants.{Closed, Merged, Purged, Started}
use Rattle.host_model.specs.declared.config.Config.{Config}
use Rattle.host_model.specs.declared.lead.Attempt.{Attempt}
use Rattle.host_model.specs.declared.task_row.TaskRow.{TaskRow}

-- ---- tests and values that may be there
pub given_if : {A : Type 0} (t : Bool) (o : Option A) (x : A) → cond t o None ≡ Some x → (t ≡ true) × (o ≡ Some x)
given_if true o x e = (refl, e)
given_if false o x e = cc

pub given_else : {A : Type 0} (t : Bool) (o : Option A) (x : A) → cond t None o ≡ Some x → (t ≡ false) × (o ≡ Some x)
given_else true o x e = cc
given_else false o x e = (refl, e)

changed_if : (t : Bool) (c d : Change) → change_if t c ≡ Some d → (t ≡ true) × (c ≡ d)
changed_if true c d e = (refl, cc)
changed_if false c d e = cc

pub mapped : {A B : Type 0} (f : A → B) (o : Option A) (y : B) → option_map f o ≡ Some y → (x : A) × (o ≡ Some x) × (f x ≡ y)
mapped f None y e = cc
mapped f (Some x) y e = (x, refl, cc)

pub none_of : {A : Type 0} (o : Option A) → not (is_some o) ≡ true → o ≡ None
none_of None e = refl
none_of (Some a) e = cc

-- ---- a run ends
-- its tool is done
pub record EndsBy (c : Config) (m : ℕ) (r : RunRow) (d : Change) : Type 0 where
  pub active : is_active r ≡ true
  pub started : ℕ
  pub outcome : ToolOutcome
  pub since : r.started ≡ Some started
  pub done : outcome_at r.test (tool_view c r started) m ≡ Some outcome
  pub is : ended_with r (tool_view c r started) outcome ≡ d

pub end_granted : (c : Config) (m : ℕ) (b : Book) (r : RunRow) (d : Change) → end_run c m b r ≡ Some d → EndsBy c m r d
end_granted c m b r d e = let g = given_if (is_active r) (end_started c m r r.started) d e in go r.started refl g.0 g.1
  where
    go : (o : Option ℕ) → r.started ≡ o → is_active r ≡ true → end_started c m r o ≡ Some d → EndsBy c m r d
    go None since active e = cc
    go (Some started) since active e =
        let f = mapped (ended_with r (tool_view c r started)) (outcome_at r.test (tool_view c r started) m) d e in
        record { active = active; started = started; outcome = f.0; since = since; done = f.1; is = f.2 }

-- its host was opened anew
pub restart_granted : (c : Config) (b : Book) (r : RunRow) (d : Change) → restart_run c b r ≡ Some d → (is_active r ≡ true) × (ended_with r (tool_view c r (unwrap_or r.started 0)) Restarted ≡ d)
restart_granted c b r d e = changed_if (is_active r) (ended_with r (tool_view c r (unwrap_or r.started 0)) Restarted) d e

-- ---- a run is merged
pub record MergesBy (c : Config) (m : ℕ) (r : RunRow) (d : Change) : Type 0 where
  pub lead : (r.key.lead == c.number) ≡ true
  pub ended : is_some r.ended ≡ true
  pub fresh : r.merged ≡ None
  pub collected : is_collected m r ≡ true
  pub is : Merged r.key (merged_text r) ≡ d

pub merge_granted : (c : Config) (m : ℕ) (b : Book) (r : RunRow) (d : Change) → merge_run c m b r ≡ Some d → MergesBy c m r d
merge_granted c m b r d e =
    let g = changed_if ((r.key.lead == c.number) && (is_some r.ended && (not (is_some r.merged) && is_collected m r))) (Merged r.key (merged_text r)) d e in
    let lead = and_true (r.key.lead == c.number) _ g.0 in
    let ended = and_true (is_some r.ended) _ lead.1 in
    let fresh = and_true (not (is_some r.merged)) (is_collected m r) ended.1 in
    record { lead = lead.0; ended = ended.0; fresh = none_of r.merged fresh.0; collected = fresh.1; is = g.1 }

-- ---- a run starts
pub record StartsBy (r : RunRow) (d : Change) : Type 0 where
  pub booked : is_booked r ≡ true
  pub confirmed : is_some r.confirmed ≡ true
  pub fresh : r.started ≡ None
  pub is : Started r.key ≡ d

pub start_granted : (m : ℕ) (b : Book) (r : RunRow) (d : Change) → start_run m b r ≡ Some d → StartsBy r d
start_granted m b r d e =
    let g = changed_if _ (Started r.key) d e in
    let booked = and_true (is_booked r) _ g.0 in
    let confirmed = and_true (is_some r.confirmed) _ booked.1 in
    let fresh = and_true (not (is_some r.started)) _ confirmed.1 in
    record { booked = booked.0; confirmed = confirmed.0; fresh = none_of r.started fresh.0; is = g.1 }

-- ---- a run is planned, or closed
pub plan_granted : (c : Config) (m : ℕ) (b : Book) (r : RunRow) (d : Change) → plan_run c m b r ≡ Some d → (is_answered r ≡ true) × (plan_asked c b m r r.question ≡ d)
plan_granted c m b r d e = let g = given_if (is_answered r) (Some (plan_asked c b m r r.question)) d e in (g.0, cc)

-- ---- a run is asked about
pub record AsksBy (c : Config) (m : ℕ) (b : Book) (t : TaskRow) (d : Change) : Type 0 where
  pub room : is_some (full_denial b.rows (result_bytes b.rows)) ≡ false
  pub attempt : Attempt
  pub next : next_attempt c.number b.rows m t ≡ Some attempt
  pub is : asked_change c t attempt ≡ d

pub ask_granted : (c : Config) (m : ℕ) (b : Book) (t : TaskRow) (d : Change) → ask c m b t ≡ Some d → AsksBy c m b t d
ask_granted c m b t d e =
    let g = given_else (is_some (full_denial b.rows (result_bytes b.rows))) (option_map (asked_change c t) (next_attempt c.number b.rows m t)) d e in
    let f = mapped (asked_change c t) (next_attempt c.number b.rows m t) d g.1 in
    record { room = g.0; attempt = f.0; next = f.1; is = f.2 }

-- ---- a row goes, or is closed with its task
pub purge_granted : (c : Config) (m : ℕ) (b : Book) (r : RunRow) (d : Change) → purge_run c m b r ≡ Some d → (is_purgeable c.number m b.rows r ≡ true) × (Purged r.key ≡ d)
purge_granted c m b r d e = changed_if (is_purgeable c.number m b.rows r) (Purged r.key) d e

pub cancel_granted : (self serial : ℕ) (b : Book) (r : RunRow) (d : Change) → cancel_run self serial b r ≡ Some d → (r.started ≡ None) × (r.closed ≡ None) × (Closed r.key Canceled ≡ d)
cancel_granted self serial b r d e =
    let g = changed_if _ (Closed r.key Canceled) d e in
    let own = and_true (is_of_task self serial r) _ g.0 in
    let open_row = and_true (not (is_some r.started)) _ own.1 in
    (none_of r.started open_row.0, none_of r.closed open_row.1, g.1)

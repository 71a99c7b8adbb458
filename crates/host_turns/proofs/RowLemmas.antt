-- What a lawful book says of a row, in the words of those who look at what is due of it.
use Rattle.std.specs.Prelude.{IfSome}
use Rattle.std.proofs.Common.{◌≡◌, ◌≤◌, ◌+◌, ◌∷◌, ℕ, List, [], All, length, map, Option, Some, None, refl, sym, ap, arith}
use Rattle.std.proofs.lemmas.List.Elements.{All-cons, All-head, All-nil, All-tail}
use Rattle.ps_time.specs.Numbers.{greatest_moment}
use Rattle.ps_time.specs.declared.key.RunKey.{RunKey}
use Rattle.archive_retry.specs.Merge.{IsResult}
use Rattle.archive_retry.proofs.MergeLemmas.{all_mergeable}
use Rattle.run_states.specs.LawfulRow.{HasOrigin, IsOther, IsUpTo}
use Rattle.run_states.specs.ResultBytes.{other_result, own_result}
use Rattle.run_states.specs.Rows.{find_row}
use Rattle.run_states.specs.declared.answer.Other.{Other}
use Rattle.run_states.specs.declared.row.RunRow.{RunRow}
use Rattle.host_model.specs.Book.{Book}
use Rattle.host_model.specs.Lawful.{Lawful}
use Rattle.host_model.specs.LawfulRow.{HasLead}
use Rattle.host_model.specs.Merging.{results_of}
use Rattle.host_model.specs.declared.task_row.TaskRow.{TaskRow}
use Rattle.host_model.proofs.RowFacts.{lawful_at}
use Rattle.lead_core.specs.Planning.{MayPlan}
use Rattle.host_turns.specs.Wishes.{MayEnd, MayMerge}

up_to : (m : ℕ) (o : Option ℕ) → m ≤ greatest_moment → IsUpTo m o → IsUpTo greatest_moment o
up_to m None bound low = tt
up_to m (Some x) bound low = omega (arith, bound, low)

heard_results : (os : List Other) → All IsOther os → All IsResult (map other_result os)
heard_results [] all = All-nil IsResult
heard_results (o ∷ os) all = All-cons IsResult (other_result o) (map other_result os) (All-head IsOther o os all).heard (heard_results os (All-tail IsOther o os all))

alike : (self : ℕ) (tasks : List TaskRow) (r : RunRow) (o : Option ℕ) → HasLead self tasks r o → HasOrigin r o → r.key.lead ≡ self → length r.participants ≡ length r.others + 1
alike self tasks r (Some asked) lead origin own = sym origin.1
alike self tasks r None lead origin own = omega (arith, (lead own).1, ap length origin.2)

module _ (self : ℕ) (b : Book) (lawful : Lawful self b) (k : RunKey) where
  pub may_end : (r : RunRow) → find_row b.rows k ≡ Some r → MayEnd r
  may_end r at = let row = (lawful_at self b lawful k r at).row in record { test = row.test; started = up_to b.moment r.started lawful.moment row.moments.started }

  pub may_merge : (r : RunRow) → find_row b.rows k ≡ Some r → MayMerge self r
  may_merge r at =
      let host = lawful_at self b lawful k r at in
      let results : All IsResult (results_of r) = All-cons IsResult (own_result r) (map other_result r.others) host.row.result (heard_results r.others host.row.others) in
      record { participants = alike self b.tasks r r.asked host.lead host.row.origin; results = all_mergeable (results_of r) results }

  pub may_plan : IfSome (find_row b.rows k) MayPlan
  may_plan = go (find_row b.rows k) refl
    where
      go : (o : Option RunRow) → find_row b.rows k ≡ o → IfSome o MayPlan
      go None at = tt
      go (Some r) at = let row = (lawful_at self b lawful k r at).row in record { test = row.test; question = row.question }

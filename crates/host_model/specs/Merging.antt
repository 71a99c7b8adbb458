-- How the lead merges the results of a run.
use Rattle.std.specs.List.{list_all}
use Rattle.std.specs.Prelude.{◌&&◌, ◌+◌, ◌==◌, ◌||◌, ◌∷◌, Bool, List, Option, is_some, map, nat_le, not, ℕ}
use Rattle.serde_json.specs.Written.{compact_text}
use Rattle.ps_time.specs.Numbers.{result_wait}
use Rattle.archive_retry.specs.Merge.{merged}
use Rattle.run_states.specs.declared.row.RunRow.{RunRow}
use Rattle.run_states.specs.ResultBytes.{other_result, own_result}
use Rattle.host_model.specs.Book.{Book}
use Rattle.host_model.specs.Ending.{end_of_span}
use Rattle.host_model.specs.Walk.{change_if}
use Rattle.host_model.specs.declared.change.Change.{Change}
use Rattle.host_model.specs.declared.change.Change.TheVariants.{Merged}
use Rattle.host_model.specs.declared.config.Config.{Config}

-- the results in the order of the participants, the lead's own first
abbrev pub results_of : RunRow → List (Option (List ℕ))
results_of r = own_result r ∷ map other_result r.others

-- all results as one JSON text
abbrev pub merged_text : RunRow → List ℕ
merged_text r = compact_text (merged r.participants (results_of r))

-- every other result is heard, or the wait is over at m
abbrev pub is_collected : ℕ → RunRow → Bool
is_collected m r = list_all (λ o. is_some o.heard) r.others || nat_le (end_of_span r.interval + result_wait) m

-- an ended run of this lead that isn't merged is merged once its results are collected
abbrev pub merge_run : Config → ℕ → Book → RunRow → Option Change
merge_run c m b r =
    change_if ((r.key.lead == c.number) && (is_some r.ended && (not (is_some r.merged) && is_collected m r))) (Merged r.key (merged_text r))

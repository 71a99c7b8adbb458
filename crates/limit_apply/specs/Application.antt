-- What an application decides.
use Rattle.std.specs.Prelude.{ℕ, ◌&&◌, Bool, false, List, map, Option, Some, None, is_none, slice_get, if◌then◌else◌}
use Rattle.std.specs.List.{list_any, list_all}
use Rattle.ps_time.specs.Span.{Span}
use Rattle.ps_time.specs.declared.asker.Verdict.{Verdict}
use Rattle.ps_time.specs.declared.asker.Verdict.TheVariants.{Permitted, Stopped}
use Rattle.plugin_core.specs.declared.test_spec.TestSpec.{TestSpec}
use Rattle.limit_ident.specs.Identifier.{turned}
use Rattle.limit_ident.specs.Require.{met}
use Rattle.limit_ident.specs.declared.named.Named.{Named}
use Rattle.limit_rule.specs.Limit.{limit_holds, is_run_rule}
use Rattle.limit_apply.specs.declared.application.Group.{Group}
use Rattle.limit_apply.specs.declared.application.Application.{Application}
use Rattle.limit_rule.specs.declared.limit.Limit.{Limit}

-- the limit at a place is true; none stands past the end
abbrev pub limit_at : List (Named Limit) → TestSpec → Option Span → ℕ → Bool
limit_at ls test run place = of_entry (slice_get ls place)
  where
    of_entry : Option (Named Limit) → Bool
    of_entry None = false
    of_entry (Some e) = limit_holds test run e.value

-- it speaks of runs
abbrev pub run_limit_at : List (Named Limit) → ℕ → Bool
run_limit_at ls place = of_entry (slice_get ls place)
  where
    of_entry : Option (Named Limit) → Bool
    of_entry None = false
    of_entry (Some e) = is_run_rule e.value.rule

-- as many of its limits are true as it requires
abbrev pub group_passes : List (Named Limit) → TestSpec → Option Span → Group → Bool
group_passes ls test run g = met g.require (map (limit_at ls test run) g.limits)

-- all its groups pass, or not all where it is inverted
abbrev pub passes : List (Named Limit) → TestSpec → Option Span → Application → Bool
passes ls test run a = turned a.invert (list_all (group_passes ls test run) a.apply)

-- one of its groups has a limit that speaks of runs
abbrev pub cites_run : List (Named Limit) → Application → Bool
cites_run ls a = list_any (λ g. list_any (run_limit_at ls) g.limits) a.apply

-- What it decides where it takes part and stands at this index: without a run, where it cites a limit of runs, it
-- permits; else it permits where it passes, and stops where it doesn't and is to.
abbrev pub decided : List (Named Limit) → TestSpec → Option Span → ℕ → Application → Option Verdict
decided ls test run index a =
    if is_none run && cites_run ls a then Some (Permitted index)
    else if passes ls test run a then Some (Permitted index)
    else if a.stop_on_failure then Some (Stopped index)
    else None

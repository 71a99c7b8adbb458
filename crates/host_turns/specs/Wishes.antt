-- What a row needs so that what is due of it can be made, and which rows a start looks at.
use Rattle.std.specs.Prelude.{◌&&◌, ◌+◌, ◌==◌, ◌≡◌, All, Bool, IsSome, List, None, Option, Some, false, is_some, length, not, true, ℕ}
use Rattle.ps_time.specs.Numbers.{greatest_moment}
use Rattle.ps_time.specs.Class.{conflicting_classes}
use Rattle.ps_time.specs.declared.class.Class.{Class}
use Rattle.ps_time.specs.declared.key.RunKey.{RunKey}
use Rattle.plugin_core.specs.Bounds.{IsTest}
use Rattle.plugin_core.specs.TestSpec.{test_class}
use Rattle.archive_retry.specs.Merge.{IsMergeable}
use Rattle.run_states.specs.LawfulRow.{IsUpTo}
use Rattle.run_states.specs.Life.{is_active, is_booked}
use Rattle.run_states.specs.Rows.{find_row}
use Rattle.run_states.specs.declared.row.RunRow.{RunRow}
use Rattle.host_rows.specs.LiveKeys.{find_own}
use Rattle.host_model.specs.Merging.{is_collected, results_of}
use Rattle.host_model.specs.Starting.{may_start}

-- its test and the moment of its start are within bounds, as those of every lawful row are
pub record MayEnd (r : RunRow) : Type 0 where
  pub test : IsTest r.test
  pub started : IsUpTo greatest_moment r.started

-- the host with this number has a result, or none, of each participant, and may merge them
pub record MayMerge (self : ℕ) (r : RunRow) : Type 0 where
  pub participants : r.key.lead ≡ self → length r.participants ≡ length r.others + 1
  pub results : All IsMergeable (results_of r)

-- it ended under the lead with this number, isn't merged, and its results are collected at m
abbrev pub is_mergeable : ℕ → ℕ → RunRow → Bool
is_mergeable number m r = (r.key.lead == number) && (is_some r.ended && (not (is_some r.merged) && is_collected m r))

-- it is booked and confirmed, hasn't started, and at m its time has come
abbrev pub is_ready : ℕ → RunRow → Bool
is_ready m r = is_booked r && (is_some r.confirmed && (not (is_some r.started) && may_start m r.interval))

-- every active run's key is one of these
abbrev pub HoldActive : List RunKey → List RunRow → Type 0
HoldActive keys rows = (k : RunKey) (r : RunRow) → find_row rows k ≡ Some r → is_active r ≡ true → IsSome (find_own keys k)

-- the run is active, and its class conflicts with this one
abbrev pub hinders : Class → RunRow → Bool
hinders class r = is_active r && conflicting_classes (test_class r.test) class

-- the key of every run that hinders one of this class is one of these
abbrev pub HoldHindering : Class → List RunKey → List RunRow → Type 0
HoldHindering class keys rows = (k : RunKey) (r : RunRow) → find_row rows k ≡ Some r → hinders class r ≡ true → IsSome (find_own keys k)

-- the same of a run that may be there
abbrev pub is_hindering : Class → Option RunRow → Bool
is_hindering class None = false
is_hindering class (Some r) = hinders class r

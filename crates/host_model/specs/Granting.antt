-- What limits grant, and which limits those of an epoch are.
use Rattle.std.specs.Prelude.{◌<◌, ◌≡◌, IsFalse, IsTrue, Option, int_lt, Some, slice_get, suc, zero, ℕ, ℤ}
use Rattle.ps_time.specs.Span.{Span}
use Rattle.ps_time.specs.declared.asker.Asker.{Asker}
use Rattle.ps_time.specs.declared.asker.Verdict.TheVariants.{Permitted}
use Rattle.ps_time.specs.declared.key.RunKey.{RunKey}
use Rattle.plugin_core.specs.declared.test_spec.TestSpec.{TestSpec}
use Rattle.limit_apply.specs.Application.{passes}
use Rattle.limit_apply.specs.Limits.{LimitsConfig as Limits, ceiling_of, holds_at, permits_of}
use Rattle.limit_apply.specs.declared.application.Application.{Application}
use Rattle.run_states.specs.Preemption.{planned_span}
use Rattle.run_states.specs.Rows.{find_row}
use Rattle.run_states.specs.declared.row.RunRow.{RunRow}
use Rattle.host_model.specs.Book.{Book, latest_epoch}
use Rattle.host_model.specs.Fits.{wanted_span}
use Rattle.host_model.specs.declared.change.Change.{Change}
use Rattle.host_model.specs.declared.change.Change.TheVariants.{Accepted, Planned}
use Rattle.host_model.specs.declared.config.Config.{Config}

-- the limits permit the asker this test, at this interval and priority
abbrev pub IsGranted : Limits → Asker → TestSpec → Span → ℤ → Type 0
IsGranted l asker test interval priority = (index : ℕ) × (permits_of l asker test interval priority ≡ Permitted index)

-- what that verdict means: the application at this index takes part and passes, and none before it decides
-- The verdict is that of `permits_of`, of `Limits` in `limit_apply`: see `granted_exactly` of `proofs/GrantLemmas`.
pub record Grants (l : Limits) (asker : Asker) (test : TestSpec) (interval : Span) (priority : ℤ) (index : ℕ) : Type 0 where
  pub application : Application
  pub there : slice_get l.applications index ≡ Some application
  pub part : IsTrue (holds_at l asker application.classifier)
  pub passed : IsTrue (passes l.limits test (Some interval) application)
  -- each that takes part before it fails, and isn't to stop then
  pub undecided : (j : ℕ) (a : Application) → j < index → slice_get l.applications j ≡ Some a → IsTrue (holds_at l asker a.classifier) → IsFalse (passes l.limits test (Some interval) a) × IsFalse a.stop_on_failure
  -- the priority isn't above the asker's ceiling
  pub below : IsFalse (int_lt (ceiling_of l asker) priority)

-- the limits of the epoch with this number; 0 stands for the configuration's
abbrev pub limits_of_epoch : Config → Book → ℕ → Option Limits
limits_of_epoch c b zero = Some c.limits
limits_of_epoch c b (suc before) = slice_get b.epochs before

-- the limits of an epoch permit it
abbrev pub IsGrantedUnder : Config → Book → ℕ → Asker → TestSpec → Span → ℤ → Type 0
IsGrantedUnder c b epoch asker test interval priority = (l : Limits) × (limits_of_epoch c b epoch ≡ Some l) × IsGranted l asker test interval priority

-- ---- what is accepted now
-- the run of a row with this key is granted from this start on
pub record IsRowGranted (c : Config) (b : Book) (k : RunKey) (start epoch : ℕ) : Type 0 where
  pub row : RunRow
  pub found : find_row b.rows k ≡ Some row
  pub granted : IsGrantedUnder c b epoch row.asker row.test (planned_span start row) row.priority

-- a change that accepts a run names the latest epoch, under which the run is granted at its priority
-- Each change that a host makes does: see `proposal_granted`, `booking_granted` and `plan_granted` of `proofs/AnswerLemmas`.
abbrev pub AcceptsGranted : Config → Book → Change → Type 0
AcceptsGranted c b (Accepted p participants epoch) = (epoch ≡ latest_epoch b) × IsGrantedUnder c b epoch p.asker p.test (wanted_span p) p.priority
AcceptsGranted c b (Planned k start tool epoch) = (epoch ≡ latest_epoch b) × IsRowGranted c b k start epoch
AcceptsGranted c b change = Unit {0}

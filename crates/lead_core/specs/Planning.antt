-- What a run needs so that its lead may plan it, and what comes of its plan, read off rows, limits and an epoch.
use Rattle.std.specs.Prelude.{◌≤◌, IfSome, List, None, Option, Some, ℕ}
use Rattle.ps_time.specs.Numbers.{greatest_moment}
use Rattle.ps_time.specs.Span.{Range}
use Rattle.plugin_core.specs.Bounds.{IsTest}
use Rattle.run_states.specs.LawfulRow.{IsWindow}
use Rattle.run_states.specs.declared.proposal.Proposal.{Proposal}
use Rattle.run_states.specs.declared.row.RunRow.{RunRow}
use Rattle.run_states.specs.declared.why.Cause.TheVariants.{Denied}
use Rattle.run_states.specs.declared.why.Denial.{Denial}
use Rattle.run_states.specs.declared.why.Why.TheVariants.{Nonstart}
use Rattle.host_model.specs.FreeStarts.{free_answer}
use Rattle.host_model.specs.Plan.{plan, wanted_tools}
use Rattle.host_model.specs.declared.change.Change.{Change}
use Rattle.host_model.specs.declared.change.Change.TheVariants.{Planned as planned_change, Closed}
use Rattle.host_model.specs.declared.lead.Planned.{Planned}
use Rattle.host_model.specs.declared.lead.Planned.TheVariants.{At, NoTool, NoSlot}
use Rattle.host_model.specs.declared.task_row.TaskRow.{TaskRow}

-- its test and its question are within bounds, as those of every lawful row are
pub record MayPlan (r : RunRow) : Type 0 where
  pub test : IsTest r.test
  pub question : IfSome r.question IsWindow

-- a start that was found is within bounds
abbrev pub IsInTime : Planned → Type 0
IsInTime (At start tool) = start ≤ greatest_moment
IsInTime NoTool = Unit {0}
IsInTime NoSlot = Unit {0}

-- the plan of a row that was asked about this window, with the lead's own answer over these rows at m
abbrev pub planned_from : List (List ℕ) → Option TaskRow → RunRow → Range → List RunRow → ℕ → Planned
planned_from installed task r w rows m =
    plan m (wanted_tools task) r (free_answer installed rows m (record { key = r.key; test = r.test; priority = r.priority; window = w }))

-- it is accepted under this epoch, unless the host of this name objects
abbrev pub unless_objected_at : List ℕ → ℕ → Proposal → Option Denial → Change
unless_objected_at name epoch p None = planned_change p.key p.start p.tool epoch
unless_objected_at name epoch p (Some denial) = Closed p.key (Nonstart (Denied name denial))

-- What a change keeps so that it may be written, beside a length that fits.
use Rattle.plugin_core.specs.Bounds.{IsTest}
use Rattle.run_states.specs.LawfulRow.{IsWhy}
use Rattle.task_spec.specs.Bounds.{IsTask}
use Rattle.host_model.specs.declared.change.Change.{Change}
use Rattle.host_model.specs.declared.change.Change.TheVariants.{Accepted, Asked, Closed, Posted}

-- its tests and its task keep their bounds
abbrev pub KeepsBounds : Change → Type 0
KeepsBounds (Posted row) = IsTask row.asker.server row.task
KeepsBounds (Accepted p participants epoch) = IsTest p.test
KeepsBounds (Asked q participants who) = IsTest q.test
KeepsBounds (Closed run why) = IsWhy why
KeepsBounds _ = Unit {0}

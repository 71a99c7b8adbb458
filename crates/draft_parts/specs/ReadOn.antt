-- Which changes a step reads on after it made them.
use Rattle.plugin_core.specs.Bounds.{IsTest}
use Rattle.run_states.specs.LawfulRow.{IsWhy}
use Rattle.host_model.specs.declared.change.Change.{Change}
use Rattle.host_model.specs.declared.change.Change.TheVariants.{Posted, TaskClosed, Accepted, Asked, Planned, Confirmed, Closed, Started, Ended, FreeHeard, AcceptHeard, Told as told_there, MaterialHeard, ResultHeard, Merged, Tried, LimitsSet, Purged}

-- what turns and openings make; none of it touches tasks or limits
abbrev pub IsReadOn : Change → Type 0
IsReadOn (Posted t) = ⊥
IsReadOn (TaskClosed serial) = ⊥
IsReadOn (Accepted p participants epoch) = ⊥
IsReadOn (Asked q participants asker) = Unit {0}
IsReadOn (Planned k start tool epoch) = Unit {0}
IsReadOn (Confirmed k) = ⊥
IsReadOn (Closed k why) = Unit {0}
IsReadOn (Started k) = Unit {0}
IsReadOn (Ended k good body) = Unit {0}
IsReadOn (FreeHeard k place answer) = ⊥
IsReadOn (AcceptHeard k place) = ⊥
IsReadOn (told_there k place told) = ⊥
IsReadOn (MaterialHeard k) = ⊥
IsReadOn (ResultHeard k place result) = ⊥
IsReadOn (Merged k body) = Unit {0}
IsReadOn (Tried k index state) = ⊥
IsReadOn (LimitsSet l) = ⊥
IsReadOn (Purged k) = Unit {0}

-- its tests are within bounds, so that they can be written
abbrev pub HasTests : Change → Type 0
HasTests (Asked q participants asker) = IsTest q.test
HasTests (Closed k why) = IsWhy why
HasTests _ = Unit {0}

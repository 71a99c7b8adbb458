-- The names of states as they are written.
use Rattle.std.specs.Prelude.{ℕ, List, codes}
use Rattle.run_states.specs.declared.state.State.{State}
use Rattle.run_states.specs.declared.state.State.TheVariants.{Missed, Preempted, Nonstart, Canceled, Finished, Failed, Running, Cleanup, Overdue, OnDeck, Pending}

abbrev pub state_text : State → List ℕ
state_text Missed = codes "missed"
state_text Preempted = codes "preempted"
state_text Nonstart = codes "nonstart"
state_text Canceled = codes "canceled"
state_text Finished = codes "finished"
state_text Failed = codes "failed"
state_text Running = codes "running"
state_text Cleanup = codes "cleanup"
state_text Overdue = codes "overdue"
state_text OnDeck = codes "on-deck"
state_text Pending = codes "pending"

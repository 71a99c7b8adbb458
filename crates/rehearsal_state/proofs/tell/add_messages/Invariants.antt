use Rattle.std.proofs.Common.{◌≡◌, ◌+◌, ◌++◌, drop}
use Rattle.rehearsal_model.specs.Rehearsal.{messages_told}
use Rattle.rehearsal_state.proofs.tell.add_messages.Given as goal

-- those that are left are told after what is told
abbrev pub invariant-loop-index : goal.invariant-loop-index
invariant-loop-index l =
    l.fn.report ++ messages_told l.hosts (l.before + l.besides + 1) (drop l.before l.messages) ≡ l.report ++ messages_told l.hosts (l.index + l.besides + 1) (drop l.index l.messages)

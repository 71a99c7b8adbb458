use Rattle.std.proofs.Common.{◌≡◌}
use Rattle.std.specs.Vec.Iter.{into_iter_items}
use Rattle.rehearsal_state.specs.Moved.{with_messages}
use Rattle.rehearsal_state.proofs.rehearsal.Rehearsal.send_all.Given as goal

-- those that are left are still to be sent
abbrev pub invariant-loop-message : goal.invariant-loop-message
invariant-loop-message l = record {
  can_next : (goal.iterator-loop-message).can_next l.message-iterator;
  is_finite : (goal.iterator-loop-message).is_finite l.message-iterator;
  sent : with_messages l.initial.self l.fn.messages.items ≡ with_messages l.self (into_iter_items l.message-iterator);
}

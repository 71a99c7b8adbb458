use Rattle.std.specs.Prelude.{All}
use Rattle.std.proofs.Common.{◌≡◌, ◌++◌}
use Rattle.host_model.specs.declared.order.Order.{Order}
use Rattle.api_peer.specs.Ordered.{IsOrder}
use Rattle.std.specs.Vec.Iter.{into_iter_items}
use Rattle.rehearsal_model.specs.Simulations.{as_read}
use Rattle.rehearsal_state.specs.Moved.{sent_of}
use Rattle.rehearsal_state.proofs.turn.messages_of.Given as goal

-- those of the orders that are left are still to come
abbrev pub invariant-loop-order : goal.invariant-loop-order
invariant-loop-order l = record {
  can_next : (goal.iterator-loop-order).can_next l.order-iterator;
  is_finite : (goal.iterator-loop-order).is_finite l.order-iterator;
  left : All (λ (o : Order). IsOrder o.body) (into_iter_items l.order-iterator);
  sent : sent_of (as_read l.now) l.config l.fn.orders ≡ l.messages.items ++ sent_of (as_read l.now) l.config (into_iter_items l.order-iterator);
}

use Rattle.std.specs.Prelude.{All}
use Rattle.std.proofs.Common.{◌∙◌, ◌∷◌, ◌++◌, List, [], ap, append_assoc, subst, sym}
use Rattle.std.proofs.lemmas.List.Elements.{All-head, All-tail}
use Rattle.api_peer.specs.Ordered.{IsOrder}
use Rattle.std.specs.Vec.Iter.{into_iter_items}
use Rattle.host_model.specs.declared.order.Order.{Order}
use Rattle.world_law.specs.World.{Message as Sent}
use Rattle.rehearsal_model.specs.Simulations.{as_read}
use Rattle.rehearsal_model.specs.Seen.{Seen}
use Rattle.rehearsal_state.specs.Moved.{sent_of}
use Rattle.rehearsal_state.proofs.MoveLemmas.{sent_more}
use Rattle.rehearsal_state.proofs.turn.messages_of.Goals as goal

-- it is one of the orders
pub add_message-requires-clause-order : goal.add_message-requires-clause-order
add_message-requires-clause-order c =
    All-head (λ (o : Order). IsOrder o.body) c.in-Some.order (into_iter_items c.next.new.self) (subst (All (λ (o : Order). IsOrder o.body)) c.in-Some.ensures.steps.0 c.loop-order.invariant.left)

-- one more order is looked at
pub loop-order-preserved : goal.loop-order-preserved
loop-order-preserved c =
    let b : Seen = as_read c.args.now.now in
    let config = c.args.config.now in
    let made : List Sent = c.loop-order.messages.items in
    let rest : List Order = into_iter_items c.next.new.self in
    let order : Order = c.in-Some.order in
    record {
      can_next = tt;
      is_finite = tt;
      left = All-tail (λ (o : Order). IsOrder o.body) order rest (subst (All (λ (o : Order). IsOrder o.body)) c.in-Some.ensures.steps.0 c.loop-order.invariant.left);
      sent =
          c.loop-order.invariant.sent
          ∙ (ap (λ os. made ++ sent_of b config os) c.in-Some.ensures.steps.0
          ∙ (ap (λ ls. made ++ ls) (sent_more b config order rest)
          ∙ (sym (append_assoc made (sent_of b config (order ∷ [])) (sent_of b config rest))
          ∙ ap (λ ls. ls ++ sent_of b config rest) (sym c.in_ok-add_message.ensures))));
    }

use Rattle.std.proofs.Common.{List, subst, sym, ℕ}
use Rattle.api_peer.specs.Carried.{CarriesFrom, CarriesOrder}
use Rattle.rehearsal_model.specs.Hosts.{peer_key}
use Rattle.rehearsal_state.proofs.TurnLemmas.{authorities, carried_by}
use Rattle.rehearsal_state.proofs.turn.message_of.Goals as goal

pub send_order-requires-clause-authorities : goal.send_order-requires-clause-authorities
send_order-requires-clause-authorities c = authorities c.args.config.now.peers c.requires.peers

-- the bytes are those of the order, by the key of all
pub ordered-requires : goal.ordered-requires
ordered-requires c =
    let config = c.args.config.now in
    let from : CarriesFrom config c.args.order c.in-Ok-Some.sent.bytes = rw c.in-Ok-Some.field-0-is at c.in-Ok-Some.ensures.carries in
    subst (λ (bytes : List ℕ). CarriesOrder (record { number = config.number; key = peer_key }) c.args.order bytes) (sym c.into_bytes-bytes.ensures) (carried_by config c.args.order c.in-Ok-Some.sent.bytes c.requires.peers from)

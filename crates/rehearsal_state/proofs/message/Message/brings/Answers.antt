use Rattle.std.proofs.Common.{◌≡◌, IfOk, List, None, Option, subst, sym, ℕ}
use Rattle.ps_http.specs.declared.message.PeerMark.{PeerMark}
use Rattle.host_model.specs.declared.reply.Reply.{Reply}
use Rattle.world_law.specs.Events.{brings}
use Rattle.world_law.specs.World.{Message as Sent}
use Rattle.api_peer.specs.Carried.{CarriesOrder}
use Rattle.rehearsal_model.specs.Hosts.{peer_key}
use Rattle.rehearsal_model.specs.Reaching.{IsKnown}
use Rattle.rehearsal_state.specs.Carried.{IsCarried}
use Rattle.rehearsal_state.proofs.message.Message.brings.Goals as goal

-- the bytes are those of the order
pub returns-in-None : goal.returns-in-None
returns-in-None c =
    let m = c.self.inside in
    let l : Sent = record { asker = m.asker; asked = m.asked; order = m.order; reply = m.reply } in
    let mark : PeerMark = record { number = m.asker; key = peer_key } in
    let none : m.reply ≡ None = c.in-None.is in
    let known : IsKnown c.args.config.now l = subst (λ (x : Sent). x.reply ≡ None → IsKnown c.args.config.now x) (sym c.self.view_is) c.requires.known none in
    let inside : CarriesOrder mark m.order m.bytes = subst (λ (r : Option Reply). IsCarried m.asker m.order r m.bytes) none c.self.invariant in
    let carries = subst (λ (bytes : List ℕ). CarriesOrder mark m.order bytes) (sym c.as_slice-bytes.ensures) inside in
    let asked = c.receive_order.ensures mark known.name m.order carries known.knows known.bounds in
    subst (λ (x : Sent). IfOk c.receive_order.result (λ input. input ≡ brings x x.reply)) c.self.view_is
    (subst (λ (r : Option Reply). IfOk c.receive_order.result (λ input. input ≡ brings l r)) (sym none) asked)

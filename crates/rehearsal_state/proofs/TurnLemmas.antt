-- What a host of a script needs to write its orders.
use Rattle.std.specs.List.{AllByRecursion}
use Rattle.std.specs.Prelude.{All, bytes_eq}
use Rattle.std.proofs.Common.{◌≡◌, ◌∷◌, Bool, Err, IfOk, List, Ok, Result, Some, [], cond, false, subst, sym, true, ℕ}
use Rattle.std.proofs.lemmas.List.Elements.{All-weaker, recursion_from_All}
use Rattle.ps_time.specs.Name.{is_name}
use Rattle.host_model.specs.declared.config.Config.{Config}
use Rattle.host_model.specs.declared.config.Peer.{Peer}
use Rattle.host_model.specs.declared.order.Order.{Order}
use Rattle.api_peer.specs.Ordered.{IsOrder, peer_named}
use Rattle.api_peer.specs.Carried.{CarriesFrom, CarriesOrder}
use Rattle.rehearsal_model.specs.Hosts.{peer_key}
use Rattle.rehearsal_model.specs.Reaching.{IsScriptPeer}

pub authorities : (peers : List Peer) → All IsScriptPeer peers → All (λ p. is_name p.authority ≡ true) peers
authorities peers all = All-weaker IsScriptPeer (λ p. is_name p.authority ≡ true) (λ p is. is.authority) peers all

-- what holds of each peer holds of the one that is found
found_peer : (P : Peer → Type 0) (name : List ℕ) (peers : List Peer) (p : Peer) → AllByRecursion P peers → peer_named peers name ≡ Some p → P p
found_peer P name [] p all is = cc
found_peer P name (q ∷ qs) p all is = go (bytes_eq q.name name) is (found_peer P name qs p all.1)
  where
    go : (b : Bool) → cond b (Some q) (peer_named qs name) ≡ Some p → (peer_named qs name ≡ Some p → P p) → P p
    go true e rest = let same : q ≡ p = cc in subst P same all.0
    go false e rest = rest e

-- every peer of a script's host has the same key
pub carried_by : (c : Config) (o : Order) (bytes : List ℕ) → All IsScriptPeer c.peers → CarriesFrom c o bytes → CarriesOrder (record { number = c.number; key = peer_key }) o bytes
carried_by c o bytes all from =
    let is : IsScriptPeer from.0 = found_peer IsScriptPeer o.to c.peers from.0 (recursion_from_All IsScriptPeer c.peers all) from.1 in
    subst (λ key. CarriesOrder (record { number = c.number; key = key }) o bytes) is.key from.2

-- what holds of all orders of a book holds of those that were found
pub all_sent : {E : Type 0} (r : Result (List Order) E) (os : List Order) → IfOk r (λ list. list ≡ os) → All (λ o. IsOrder o.body) os → IfOk r (All (λ o. IsOrder o.body))
all_sent (Ok list) os is all = subst (All (λ o. IsOrder o.body)) (sym is) all
all_sent (Err fault) os is all = tt

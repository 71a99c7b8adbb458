-- The configuration of the host that is tried.
use Rattle.std.specs.Prelude.{codes}
use Rattle.std.proofs.Common.{◌≡◌, ◌∷◌, List, [], ℕ, refl, subst, sym, arith}
use Rattle.std.proofs.lemmas.List.Elements.{All-cons, All-nil}
use Rattle.limit_apply.specs.Limits.{LimitsConfig as Limits}
use Rattle.limit_apply.specs.Read.{IsKept}
use Rattle.host_model.specs.Conditions.{IsConfig, IsPeer}
use Rattle.host_model.specs.declared.config.Config.{Config}
use Rattle.host_model.specs.declared.config.Peer.{Peer}
use Rattle.host_input_trials.specs.Given.{the_peer, the_tools}

abbrev config_with : Limits → List ℕ → List ℕ → List Peer → List (List ℕ) → Config
config_with l name authority peers tools = record { number = 1; name = name; authority = authority; peers = peers; installed = tools; limits = l }

peer_b : IsPeer the_peer
peer_b = record { name = refl; authority = omega arith }

given : (l : Limits) → IsKept l → IsConfig (config_with l (codes "a") [] (the_peer ∷ []) the_tools)
given l kept = record {
  name = refl;
  authority = omega arith;
  peers = All-cons IsPeer the_peer [] peer_b (All-nil IsPeer);
  numbers = refl;
  names = refl;
  tools = refl;
  different = refl;
  limits = kept;
}

pub config_is : (l : Limits) (name authority : List ℕ) (peers : List Peer) (tools : List (List ℕ)) → IsKept l → name ≡ codes "a" → authority ≡ [] → peers ≡ the_peer ∷ [] → tools ≡ the_tools → IsConfig (config_with l name authority peers tools)
config_is l name authority peers tools kept n a p t =
    subst (λ x. IsConfig (config_with l x authority peers tools)) (sym n) (
    subst (λ x. IsConfig (config_with l (codes "a") x peers tools)) (sym a) (
    subst (λ x. IsConfig (config_with l (codes "a") [] x tools)) (sym p) (
    subst (λ x. IsConfig (config_with l (codes "a") [] (the_peer ∷ []) x)) (sym t) (given l kept))))

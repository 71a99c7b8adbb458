-- The peer and the tool of the host that is tried.
use Rattle.std.specs.Prelude.{◌∷◌, List, [], codes, ℕ}
use Rattle.host_model.specs.declared.config.Peer.{Peer}

abbrev pub the_peer : Peer
the_peer = record { number = 2; name = codes "b"; authority = []; key = [] }

abbrev pub the_tools : List (List ℕ)
the_tools = codes "sleep" ∷ []

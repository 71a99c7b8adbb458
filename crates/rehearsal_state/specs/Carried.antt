-- The bytes of a message between hosts of a script.
use Rattle.std.specs.Prelude.{List, None, Option, Some, ℕ}
use Rattle.host_model.specs.declared.order.Order.{Order}
use Rattle.host_model.specs.declared.reply.Reply.{Reply}
use Rattle.api_peer.specs.Carried.{CarriesOrder, CarriesReply}
use Rattle.rehearsal_model.specs.Hosts.{peer_key}

-- they carry the order of the host with this number, or the reply to it
abbrev pub IsCarried : ℕ → Order → Option Reply → List ℕ → Type 0
IsCarried asker o None bytes = CarriesOrder (record { number = asker; key = peer_key }) o bytes
IsCarried asker o (Some said) bytes = CarriesReply o said bytes

-- The bytes by which orders of one host to another, and the replies to them, are carried.
use Rattle.std.specs.Prelude.{◌≡◌, List, Some, ℕ}
use Rattle.ps_http.specs.Answer.{IsMessage, requests, responses}
use Rattle.ps_http.specs.declared.message.HttpLimits.{HttpLimits}
use Rattle.ps_http.specs.declared.message.PeerMark.{PeerMark}
use Rattle.ps_http.specs.declared.message.Request.{Request}
use Rattle.ps_http.specs.declared.message.Response.{Response}
use Rattle.host_model.specs.declared.config.Config.{Config}
use Rattle.host_model.specs.declared.config.Peer.{Peer}
use Rattle.host_model.specs.declared.input.Input.TheVariants.{Heard}
use Rattle.host_model.specs.declared.order.Order.{Order}
use Rattle.host_model.specs.declared.reply.Reply.{Reply}
use Rattle.world_law.specs.World.{heard_as}
use Rattle.api_answer.specs.Heard.{heard_of}
use Rattle.api_peer.specs.Meant.{IsMeant}
use Rattle.api_peer.specs.Ordered.{mark_for, peer_named}

-- a head of at most 16,384 bytes, and a body of at most 1,048,576
abbrev pub message_limits : HttpLimits
message_limits = record { head = 16_384; body = 1_048_576 }

-- the bytes are one request, which each host that knows the sender by this mark takes for exactly what the order asks
pub record CarriesOrder (mark : PeerMark) (o : Order) (bytes : List ℕ) : Type 0 where
  pub request : Request
  pub is : IsMessage requests message_limits bytes request
  pub meant : IsMeant mark o.key o.body request

-- the bytes are one response, which the host that ordered hears as exactly what was replied
pub record CarriesReply (o : Order) (said : Reply) (bytes : List ℕ) : Type 0 where
  pub response : Response
  pub is : IsMessage responses message_limits bytes response
  pub heard : heard_of o response ≡ Some (Heard o (heard_as said))

-- they carry the order of a host with this configuration to the peer whom it names
abbrev pub CarriesFrom : Config → Order → List ℕ → Type 0
CarriesFrom c o bytes = (p : Peer) × (peer_named c.peers o.to ≡ Some p) × CarriesOrder (mark_for c p) o bytes

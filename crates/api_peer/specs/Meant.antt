-- What the request of an order asks of the host to which it comes.
use Rattle.std.specs.Prelude.{◌+◌, ◌≡◌, ◌≤◌, List, Ok, Some, codes, length, ℕ, ℤ}
use Rattle.serde_json.specs.Data.{number}
use Rattle.serde_json.specs.Find.{of_integer}
use Rattle.serde_json.specs.Written.{compact_text}
use Rattle.ps_http.specs.declared.message.PeerMark.{PeerMark}
use Rattle.ps_http.specs.declared.message.Request.{Request}
use Rattle.ps_json.specs.Answer.{then_with}
use Rattle.ps_time.specs.Id.{id_of_text}
use Rattle.ps_time.specs.Numbers.{greatest_moment, horizon, most_request_bytes}
use Rattle.ps_time.specs.Span.{Range}
use Rattle.ps_time.specs.declared.id.Id.TheVariants.{Run}
use Rattle.ps_time.specs.declared.key.RunKey.{RunKey}
use Rattle.run_states.specs.LawfulRow.{IsWindow}
use Rattle.run_states.specs.declared.proposal.Proposal.{Proposal}
use Rattle.run_states.specs.declared.proposal.Question.{Question}
use Rattle.host_model.specs.Propose.{find_peer}
use Rattle.host_model.specs.declared.config.Config.{Config}
use Rattle.host_model.specs.declared.config.Peer.{Peer}
use Rattle.host_model.specs.declared.order.Order.{Order}
use Rattle.host_model.specs.declared.order.OrderBody.{OrderBody}
use Rattle.host_model.specs.declared.order.OrderBody.TheVariants.{Free, Propose, Material}
use Rattle.world_law.specs.World.{input_of}
use Rattle.api_body.specs.Bodies.{body_tree, material_of, priority_at, proposal_of, question_of}
use Rattle.api_input.specs.Understood.{most_texts, understood}
use Rattle.api_reply.specs.Denials.{proposal_data}
use Rattle.api_reply.specs.Shown.{run_text}
use Rattle.api_peer.specs.Ordered.{mark_for, material_data, peer_named, question_data}

-- the host has a peer of this number and name, with this key
pub record Knows (d : Config) (mark : PeerMark) (asker : List ℕ) : Type 0 where
  pub peer : Peer
  pub found : find_peer d.peers mark.number ≡ Some peer
  pub name : peer.name ≡ asker
  pub key : peer.key ≡ mark.key

-- ---- numbers
-- a priority is read again from its number
abbrev pub IsPriority : ℤ → Type 0
IsPriority z = priority_at (codes "priority") (number (of_integer z)) ≡ Ok z

-- ---- bounds that orders of a lead of this name keep
-- a window of a day at most
pub record IsAskable (w : Range) : Type 0 where
  pub window : IsWindow w
  pub day : w.last ≤ w.first + horizon

-- its texts are short enough for a body
pub record IsProposable (name : List ℕ) (p : Proposal) : Type 0 where
  pub start : p.start ≤ greatest_moment
  pub lead : p.asker.server ≡ name
  pub short : length p.asker.requester + length p.tool + length p.asker.server ≤ most_texts

abbrev pub KeepsBounds : List ℕ → OrderBody → Type 0
KeepsBounds name (Free q) = IsAskable q.window
KeepsBounds name (Propose p) = IsProposable name p
KeepsBounds name (Material text) = length text ≤ most_request_bytes
KeepsBounds name _ = Unit {0}

-- ---- bodies are read as what they were written from
abbrev pub IsReadQuestion : Question → Type 0
IsReadQuestion q = IsAskable q.window → then_with (body_tree (compact_text (question_data q))) question_of ≡ Ok q

abbrev pub IsReadProposal : Proposal → Type 0
IsReadProposal p =
    (name : List ℕ) → IsProposable name p → then_with (body_tree (compact_text (proposal_data p))) (proposal_of most_texts name) ≡ Ok p

abbrev pub IsReadMaterial : List ℕ → Type 0
IsReadMaterial text =
    length text ≤ most_request_bytes → then_with (body_tree (compact_text (material_data text))) material_of ≡ Ok text

-- the identifier of a run is that of the run
abbrev pub IsReadKey : RunKey → Type 0
IsReadKey k = id_of_text (run_text k) ≡ Some (Run k)

-- ---- the law
-- each host that knows the sender, by whatever name, takes the request for exactly this, from whatever address it comes and whenever
abbrev pub IsMeant : PeerMark → RunKey → OrderBody → Request → Type 0
IsMeant mark k body r =
    (d : Config) (name : List ℕ) → Knows d mark name → KeepsBounds name body → (address : List ℕ) (m : ℕ) → understood d r address m ≡ Ok (input_of mark.number k body)

-- what is ordered is understood
abbrev pub IsUnderstood : Config → Order → Request → Type 0
IsUnderstood c order r = (p : Peer) → peer_named c.peers order.to ≡ Some p → IsMeant (mark_for c p) order.key order.body r

-- What a proposal comes to at a participant. The entry is `propose`, the last one here. Its steps, in their order:
-- 1. `lead_name`: the sender is a peer, and the lead of the proposal's key; else `for_lead` answers NotLead.
-- 2. `place_of`, of `Fits`: what the host decides by besides its rows.
-- 3. `decide`, by the row of the key:
--    - there is one (`decided_at`): of another content, the proposal is denied as Differs; of the same content
--      (`decided_known`), it is denied as Closed where the row is closed, and known where it is not;
--    - there is none (`decided_new`): the first reason of `denial_of`, of `Fits`, denies it; without one it is new.
-- 4. `decided_outcome`: a new one is accepted at m, and the change Accepted gives it a row; a known one is answered with
--    the moment of its acceptance; a denied one with the denial.
-- When it is accepted is said in words of rows by `MayAccept`, of `Fitting`: see `proposal_accepted` of
-- `proofs/AnswerLemmas`, and `proposal_granted` there for the limits that permit it.
use Rattle.std.specs.Prelude.{◌==◌, ◌∷◌, List, None, Option, Some, [], find, if◌then◌else◌, option_map, unwrap_or, ℕ}
use Rattle.ps_time.specs.declared.key.RunKey.{RunKey}
use Rattle.plugin_core.specs.Participants.{participants}
use Rattle.run_states.specs.Life.{closed_state}
use Rattle.run_states.specs.Rows.{find_row}
use Rattle.run_states.specs.declared.proposal.Proposal.{Proposal}
use Rattle.run_states.specs.declared.row.RunRow.{RunRow}
use Rattle.run_states.specs.declared.why.Closing.{Closing}
use Rattle.run_states.specs.declared.why.Denial.{Denial}
use Rattle.run_states.specs.declared.why.Denial.TheVariants.{Differs, Closed}
use Rattle.run_states.specs.Content.{kept_proposal, same_content}
use Rattle.host_model.specs.Book.{Book, latest_epoch}
use Rattle.host_model.specs.Fits.{Place, denial_of, place_of}
use Rattle.host_model.specs.declared.change.Change.TheVariants.{Accepted as accepted_change}
use Rattle.host_model.specs.declared.config.Config.{Config}
use Rattle.host_model.specs.declared.config.Peer.{Peer}
use Rattle.host_model.specs.declared.part.Decision.{Decision}
use Rattle.host_model.specs.declared.part.Decision.TheVariants.{New, Known, Denied as denied_decision}
use Rattle.host_model.specs.declared.reply.Outcome.{Outcome}
use Rattle.host_model.specs.declared.reply.Reply.{Reply}
use Rattle.host_model.specs.declared.reply.Reply.TheVariants.{NotLead, Accepted, Denied}

-- the peer of a number
abbrev pub find_peer : List Peer → ℕ → Option Peer
find_peer peers number = find (λ p. p.number == number) peers

-- the name of the sender, where it is a peer and the lead of the key
abbrev pub lead_name : Config → ℕ → RunKey → Option (List ℕ)
lead_name c sender k = if k.lead == sender then option_map (λ p. p.name) (find_peer c.peers sender) else None

-- a reply without changes
abbrev pub answered : Reply → Outcome
answered reply = record { reply = reply; list = [] }

-- what only the key's lead may ask for
abbrev pub for_lead : Option (List ℕ) → (List ℕ → Outcome) → Outcome
for_lead None next = answered NotLead
for_lead (Some lead) next = next lead

-- ---- the decision
-- the row stands with the same content, closed or not; an unclosed row of another lead was accepted
abbrev pub decided_known : RunRow → Option Closing → Decision
decided_known r (Some c) = denied_decision (Closed (closed_state c.why))
decided_known r None = Known (unwrap_or r.accepted 0)

-- it is new where nothing speaks against it
abbrev pub decided_new : Option Denial → Decision
decided_new None = New
decided_new (Some denial) = denied_decision denial

-- a row has the key, or none has
abbrev pub decided_at : Place → List RunRow → ℕ → Proposal → Option RunRow → Decision
decided_at place rows m p None = decided_new (denial_of place rows m p)
decided_at place rows m p (Some r) =
    if same_content r p (participants p.test place.lead) then decided_known r r.closed else denied_decision (Differs (kept_proposal r) p)

-- over rows that are settled at m
-- It accepts exactly where `MayAccept` of `Fitting` holds: see `accepts_exactly` of `proofs/FitLemmas`.
abbrev pub decide : Place → List RunRow → ℕ → Proposal → Decision
decide place rows m p = decided_at place rows m p (find_row rows p.key)

-- ---- what comes of it
abbrev pub decided_outcome : Book → ℕ → List ℕ → Proposal → Decision → Outcome
decided_outcome b m lead p New = record { reply = Accepted m; list = accepted_change p (participants p.test lead) (latest_epoch b) ∷ [] }
decided_outcome b m lead p (Known accepted) = answered (Accepted accepted)
decided_outcome b m lead p (denied_decision denial) = answered (Denied denial)

-- the lead proposes a run
abbrev pub propose : Config → Book → ℕ → ℕ → Proposal → Outcome
propose c b m sender p = for_lead (lead_name c sender p.key) (λ lead. decided_outcome b m lead p (decide (place_of c b lead) b.rows m p))

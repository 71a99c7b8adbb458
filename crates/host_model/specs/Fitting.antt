-- When a proposed run fits, and when a host accepts it: in words of its rows, settled at m.
use Rattle.std.specs.List.{Contains}
use Rattle.std.specs.Prelude.{◌<◌, ◌≡◌, ◌≢◌, ◌≤◌, ◌⊎◌, IsTrue, List, None, Some, length, ℕ}
use Rattle.ps_time.specs.Numbers.{most_kept_bytes, most_rows}
use Rattle.ps_time.specs.Span.{Span}
use Rattle.ps_time.specs.declared.key.RunKey.{RunKey}
use Rattle.plugin_tool.specs.Choice.{is_tool_for}
use Rattle.plugin_core.specs.Kind.{test_kind}
use Rattle.plugin_core.specs.Participants.{participants}
use Rattle.plugin_core.specs.TestSpec.{test_class}
use Rattle.run_states.specs.Content.{kept_proposal}
use Rattle.run_states.specs.Rows.{find_row}
use Rattle.run_states.specs.declared.proposal.Proposal.{Proposal}
use Rattle.run_states.specs.declared.row.RunRow.{RunRow}
use Rattle.host_model.specs.Conflicting.{Conflicts, MayPreempt}
use Rattle.host_model.specs.Fits.{Place, wanted_span}
use Rattle.host_model.specs.Granting.{IsGranted}
use Rattle.host_model.specs.declared.part.Decision.{Decision}
use Rattle.host_model.specs.declared.part.Decision.TheVariants.{New, Known, Denied}
use Rattle.host_model.specs.declared.reply.Reply.{Reply}
use Rattle.host_model.specs.declared.reply.Reply.TheVariants.{Accepted, Booked}

-- each booked row of another run that is in conflict with this one may be preempted at m
-- The test is that `firm_conflict` finds no row: see `way_free_decided` of `proofs/FitLemmas`.
abbrev pub IsWayFree : List RunRow → ℕ → Proposal → Type 0
IsWayFree rows m p = (k : RunKey) (r : RunRow) (i : Span) → k ≢ p.key → find_row rows k ≡ Some r → Conflicts (test_class p.test) (wanted_span p) r i → MayPreempt p.priority m r i

-- the run fits at this host
-- The test is `fits` of `Fits`, and the reasons are those of `denial_of` there: see `fits_exactly` of `proofs/FitLemmas`.
pub record Fits (place : Place) (rows : List RunRow) (m : ℕ) (p : Proposal) : Type 0 where
  -- the host takes part
  pub participant : Contains (participants p.test place.lead) place.name
  -- it has the tool, which runs the test
  pub installed : Contains place.installed p.tool
  pub suited : IsTrue (is_tool_for (test_kind p.test) p.tool)
  pub to_come : m ≤ p.start
  -- the limits in force permit the run, at its priority
  pub granted : IsGranted place.limits p.asker p.test (wanted_span p) p.priority
  pub way : IsWayFree rows m p
  pub place_left : length rows < most_rows
  pub bytes_left : place.bytes < most_kept_bytes

-- ---- what is accepted
-- the row of the key stands, unclosed, with this content and these participants
pub record StandsWith (rows : List RunRow) (p : Proposal) (names : List (List ℕ)) : Type 0 where
  pub row : RunRow
  pub found : find_row rows p.key ≡ Some row
  pub unclosed : row.closed ≡ None
  pub content : kept_proposal row ≡ p
  pub participants : row.participants ≡ names

-- it stands already, or no row has the key and it fits
-- The test is `decide` of `Propose`: see `accepts_exactly` of `proofs/FitLemmas`.
abbrev pub MayAccept : Place → List RunRow → ℕ → Proposal → Type 0
MayAccept place rows m p = StandsWith rows p (participants p.test place.lead) ⊎ ((find_row rows p.key ≡ None) × Fits place rows m p)

-- the proposal is accepted, now or before
abbrev pub IsAcceptance : Decision → Type 0
IsAcceptance New = Unit {0}
IsAcceptance (Known accepted) = Unit {0}
IsAcceptance (Denied denial) = ⊥

-- the reply accepts a proposal or a booking
-- When it does: see `proposal_accepted` and `booking_accepted` of `proofs/AnswerLemmas`.
abbrev pub AcceptsRun : Reply → Type 0
AcceptsRun (Accepted m) = Unit {0}
AcceptsRun (Booked k preempted) = Unit {0}
AcceptsRun reply = ⊥

-- What the lead makes of an answer to an order. The entry is `hear`, the last one here. Its steps, in their order:
-- 1. `meaning_of`: what the answer means, by the order to which it is one;
-- 2. `other_at`: what is known of the participant, in a row about which this host has asked;
-- 3. `move_of`: what becomes of it (`told_move`, `denied_move`, `lost_move`);
-- 4. `changes_of_move`: the change that this is, by `fact_of` or as a closing.
use Rattle.std.specs.Prelude.{◌&&◌, ◌∷◌, Bool, List, None, Option, Some, [], false, if◌then◌else◌, is_some, not, slice_get, suc, true, unwrap_or, zero, ℕ}
use Rattle.ps_time.specs.declared.key.RunKey.{RunKey}
use Rattle.run_states.specs.Life.{is_booked}
use Rattle.run_states.specs.Rows.{find_row}
use Rattle.run_states.specs.declared.answer.Other.{Other}
use Rattle.run_states.specs.declared.row.RunRow.{RunRow}
use Rattle.run_states.specs.declared.why.Cause.TheVariants.{Denied as denied_by}
use Rattle.run_states.specs.declared.why.Denial.{Denial}
use Rattle.run_states.specs.declared.why.Denial.TheVariants.{Limits, NotParticipant, Closed as closed_there}
use Rattle.run_states.specs.declared.why.Why.{Why}
use Rattle.run_states.specs.declared.why.Why.TheVariants.{Nonstart, Canceled}
use Rattle.run_states.specs.declared.answer.Told.TheVariants.{Confirm as told_confirm, Cancel as told_cancel, Material as told_material}
use Rattle.run_states.specs.declared.answer.Told.{Told}
use Rattle.run_states.specs.declared.answer.Answer.{Answer}
use Rattle.run_states.specs.Effect.{change_other, is_complete, with_acceptance}
use Rattle.host_model.specs.Book.{Book}
use Rattle.host_model.specs.declared.change.Change.{Change}
use Rattle.host_model.specs.declared.change.Change.TheVariants.{Closed, FreeHeard, AcceptHeard, Told as told_there, ResultHeard}
use Rattle.host_model.specs.declared.lead.LeadMove.{LeadMove}
use Rattle.host_model.specs.declared.lead.Meaning.{Meaning}
use Rattle.host_model.specs.declared.lead.LeadMove.TheVariants.{Keep, KeepAndConfirm, Close, Nothing}
use Rattle.host_model.specs.declared.order.Order.{Order}
use Rattle.host_model.specs.declared.order.OrderBody.{OrderBody}
use Rattle.host_model.specs.declared.order.OrderBody.TheVariants.{Free as free_order, Propose, Confirm, Cancel, Material, Result as result_order}
use Rattle.host_model.specs.declared.order.PeerAnswer.{PeerAnswer}
use Rattle.host_model.specs.declared.order.PeerAnswer.TheVariants.{Free, Accepted, Confirmed, Dropped, MaterialHeard, Result, Denied, Unknown}
use Rattle.host_model.specs.declared.reply.Outcome.{Outcome}
use Rattle.host_model.specs.declared.reply.Reply.TheVariants.{Heard}
use Rattle.host_model.specs.declared.lead.Meaning.TheVariants as meaning
use Rattle.run_states.specs.declared.answer.Answer.TheVariants as told

-- what is known of the participant at a place; of the lead's own place nothing is kept
abbrev pub other_at : RunRow → ℕ → Option Other
other_at r zero = None
other_at r (suc i) = slice_get r.others i

-- the name of the participant at a place
abbrev pub name_at : RunRow → ℕ → List ℕ
name_at r place = unwrap_or (slice_get r.participants place) []

-- ---- what an answer means
-- a denial in reply to a free question speaks of limits, or of who takes part; another one is no answer to it
abbrev pub denies_question : Denial → Bool
denies_question (Limits verdict) = true
denies_question NotParticipant = true
denies_question _ = false

-- by the order to which it is one; an answer that the order can't have says nothing
abbrev pub meaning_of : OrderBody → PeerAnswer → Meaning
meaning_of (free_order q) (Free answer) = meaning.Told (told.Free answer)
meaning_of (free_order q) (Denied denial) = if denies_question denial then meaning.Denied denial else meaning.Nothing
meaning_of (Propose p) (Accepted m) = meaning.Told told.Accepted
meaning_of (Propose p) (Denied denial) = meaning.Denied denial
meaning_of Confirm (Confirmed m) = meaning.Told (told.Acknowledged told_confirm)
meaning_of Confirm Unknown = meaning.Lost
meaning_of Confirm (Denied (closed_there state)) = meaning.Lost
meaning_of Cancel Dropped = meaning.Told (told.Acknowledged told_cancel)
meaning_of (Material text) MaterialHeard = meaning.Told (told.Acknowledged told_material)
meaning_of result_order (Result text) = meaning.Told (told.Result (Some text))
meaning_of result_order (Denied (closed_there state)) = meaning.Told (told.Result None)
meaning_of _ _ = meaning.Nothing

-- the change that keeps the fact
abbrev pub fact_of : RunKey → ℕ → Answer → Change
fact_of k place (told.Free answer) = FreeHeard k place answer
fact_of k place told.Accepted = AcceptHeard k place
fact_of k place (told.Acknowledged what) = told_there k place what
fact_of k place (told.Result result) = ResultHeard k place result

-- ---- what becomes of it
-- a fact that is kept already is not kept twice
abbrev pub keep_unless : Bool → LeadMove
keep_unless true = Nothing
keep_unless false = Keep

-- closed for this reason where the test holds
abbrev pub close_if : Bool → Why → LeadMove
close_if true why = Close why
close_if false why = Nothing

-- the acceptance confirms the row: it is the last one that was missing, and the row is booked
abbrev pub completes : RunRow → ℕ → Bool
completes r place = is_booked r && is_complete (change_other with_acceptance place r)

-- an acceptance is kept once
abbrev pub keep_acceptance : RunRow → ℕ → Other → LeadMove
keep_acceptance r place o = if o.accepted then Nothing else if completes r place then KeepAndConfirm else Keep

-- the participant has acknowledged this before
abbrev pub has_told : Told → Other → Bool
has_told told_confirm o = o.confirm_told
has_told told_cancel o = o.cancel_told
has_told told_material o = o.material_told

-- a denial closes a row that is neither confirmed nor closed
abbrev pub denied_move : RunRow → ℕ → Denial → LeadMove
denied_move r place denial = close_if (not (is_some r.confirmed) && not (is_some r.closed)) (Nonstart (denied_by (name_at r place) denial))

-- a participant that no longer holds a confirmed run closes it, unless it is started or closed
abbrev pub lost_move : RunRow → LeadMove
lost_move r = close_if (not (is_some r.started) && not (is_some r.closed)) Canceled

-- the fact is kept, unless it is already
abbrev pub told_move : RunRow → ℕ → Other → Answer → LeadMove
told_move r place o (told.Free answer) = keep_unless (is_some o.free)
told_move r place o told.Accepted = keep_acceptance r place o
told_move r place o (told.Acknowledged what) = keep_unless (has_told what o)
told_move r place o (told.Result result) = keep_unless (is_some o.heard)

-- of a row of this host's, at the place of a participant of which this is known
abbrev pub move_of : RunRow → ℕ → Other → Meaning → LeadMove
move_of r place o (meaning.Told answer) = told_move r place o answer
move_of r place o (meaning.Denied denial) = denied_move r place denial
move_of r place o meaning.Lost = lost_move r
move_of r place o meaning.Nothing = Nothing

-- ---- the changes
abbrev pub changes_of_move : RunKey → ℕ → Meaning → LeadMove → List Change
changes_of_move k place (meaning.Told answer) Keep = fact_of k place answer ∷ []
changes_of_move k place (meaning.Told answer) KeepAndConfirm = fact_of k place answer ∷ []
changes_of_move k place said (Close why) = Closed k why ∷ []
changes_of_move k place said _ = []

-- at a row of this host, at this place of another participant
abbrev pub heard_at : ℕ → Meaning → RunRow → Option Other → List Change
heard_at place said r None = []
heard_at place said r (Some o) = changes_of_move r.key place said (move_of r place o said)

-- a row that keeps an asked moment, and the place of another participant
abbrev pub heard_changes : Order → PeerAnswer → Option RunRow → List Change
heard_changes order answer None = []
heard_changes order answer (Some r) = if is_some r.asked then heard_at order.place (meaning_of order.body answer) r (other_at r order.place) else []

-- what was heard is taken note of
abbrev pub hear : Book → Order → PeerAnswer → Outcome
hear b order answer = record { reply = Heard; list = heard_changes order answer (find_row b.rows order.key) }

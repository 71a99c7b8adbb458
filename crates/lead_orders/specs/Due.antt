-- When an acceptance is the last one, and when an order is due: in words of what the row and its participant have.
use Rattle.std.specs.Prelude.{◌+◌, ◌<◌, ◌≡◌, ◌≢◌, ◌≤◌, IsNone, IsSome, List, None, Option, Some, false, true, ℕ}
use Rattle.ps_time.specs.Span.{Range, Span}
use Rattle.plugin_core.specs.declared.test_spec.TestSpec.{TestSpec}
use Rattle.plugin_core.specs.declared.test_spec.TestSpec.TheVariants.{Simplestream}
use Rattle.run_states.specs.Content.{kept_proposal}
use Rattle.run_states.specs.declared.answer.Other.{Other}
use Rattle.run_states.specs.declared.proposal.Question.{Question}
use Rattle.run_states.specs.declared.row.RunRow.{RunRow}
use Rattle.host_model.specs.Heard.{other_at}
use Rattle.host_model.specs.declared.order.OrderBody.{OrderBody}
use Rattle.host_model.specs.declared.order.OrderBody.TheVariants.{Free, Propose, Confirm, Cancel, Material, Result}

-- ---- acceptances
-- the run is accepted by its lead and not closed, and every participant but the one at the place has accepted it
pub record WantsOnly (r : RunRow) (place : ℕ) : Type 0 where
  pub accepted : IsSome r.accepted
  pub unclosed : IsNone r.closed
  pub others : (j : ℕ) (o : Other) → j ≢ place → other_at r j ≡ Some o → o.accepted ≡ true

-- ---- orders
-- m lies before the interval's end
abbrev pub IsBeforeEnd : ℕ → Option Span → Type 0
IsBeforeEnd m None = ⊥
IsBeforeEnd m (Some s) = m < s.end

-- the interval has come to its end by m
abbrev pub IsPastEnd : ℕ → Option Span → Type 0
IsPastEnd m None = ⊥
IsPastEnd m (Some s) = s.end ≤ m

-- this text is the material of the test, to be sent since its dawdle has passed
abbrev pub IsMaterialAt : ℕ → TestSpec → Option ℕ → List ℕ → Type 0
IsMaterialAt m (Simplestream dest material dawdle timeout) (Some started) text = (started + dawdle ≤ m) × (material ≡ text)
IsMaterialAt m test started text = ⊥

-- the question about a window
abbrev pub question_of : RunRow → Range → Question
question_of r w = record { key = r.key; test = r.test; priority = r.priority; window = w }

-- at m there is this to say to the participant of which this is known
abbrev pub IsDue : ℕ → RunRow → Other → OrderBody → Type 0
IsDue m r o (Free q) = IsNone r.closed × IsNone o.free × (r.question ≡ Some q.window) × (question_of r q.window ≡ q)
IsDue m r o (Propose p) = IsSome r.accepted × IsNone r.closed × IsNone r.confirmed × (o.accepted ≡ false) × (kept_proposal r ≡ p)
IsDue m r o Confirm = IsSome r.confirmed × IsNone r.closed × (o.confirm_told ≡ false) × IsBeforeEnd m r.interval
IsDue m r o Cancel = IsSome r.closed × (o.accepted ≡ true) × (o.cancel_told ≡ false) × IsBeforeEnd m r.interval
IsDue m r o (Material text) = IsSome r.started × IsNone r.ended × (o.material_told ≡ false) × IsMaterialAt m r.test r.started text
IsDue m r o Result = IsSome r.ended × IsNone r.merged × IsNone o.heard × IsPastEnd m r.interval

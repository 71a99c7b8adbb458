-- The trees of orders have whole numbers alone, and few levels.
use Rattle.std.proofs.Common.{◌≡◌, ◌≤◌, arith, false, negsuc, pos, refl, ℕ, ℤ}
use Rattle.serde_json.specs.Data.{depth}
use Rattle.serde_json.specs.Find.{is_float, of_integer}
use Rattle.serde_json.specs.Written.{has_float}
use Rattle.plugin_core.proofs.ShapeLemmas.{test_flat, test_whole}
use Rattle.run_states.specs.declared.proposal.Proposal.{Proposal}
use Rattle.run_states.specs.declared.proposal.Question.{Question}
use Rattle.api_reply.specs.Denials.{proposal_data}
use Rattle.api_reply.specs.Shown.{second_data}
use Rattle.api_peer.specs.Ordered.{question_data}

integer_whole : (z : ℤ) → is_float (of_integer z) ≡ false
integer_whole (pos n) = refl
integer_whole (negsuc n) = refl

second_whole : (m : ℕ) → has_float (second_data m) ≡ false
unfolding second_data
second_whole m = refl

second_flat : (m : ℕ) → depth (second_data m) ≡ 0
unfolding second_data
second_flat m = refl

pub question_whole : (q : Question) → has_float (question_data q) ≡ false
question_whole q = rw (second_whole q.window.first, second_whole q.window.last, integer_whole q.priority, test_whole q.test) refl

pub proposal_whole : (p : Proposal) → has_float (proposal_data p) ≡ false
proposal_whole p = rw (integer_whole p.priority, second_whole p.start, test_whole p.test) refl

pub question_flat : (q : Question) → depth (question_data q) ≤ 64
question_flat q = rw (second_flat q.window.first, second_flat q.window.last) (omega (arith, test_flat q.test))

pub proposal_flat : (p : Proposal) → depth (proposal_data p) ≤ 64
proposal_flat p = rw (second_flat p.start) (omega (arith, test_flat p.test))

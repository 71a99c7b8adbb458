-- How many bytes the texts and lists of an input take, written as in a record; and how long a record may be.
use Rattle.std.specs.Prelude.{◌+◌, ℕ}
use Rattle.run_states.specs.declared.proposal.Proposal.{Proposal}
use Rattle.run_states.specs.declared.why.Denial.{Denial}
use Rattle.run_states.specs.declared.why.Denial.TheVariants.{Differs, NoTool}
use Rattle.host_model.specs.RecordLength.{answer_bytes, asker_bytes, task_bytes, test_bytes, text_bytes}
use Rattle.host_model.specs.declared.input.Input.{Input}
use Rattle.host_model.specs.declared.input.Input.TheVariants as input
use Rattle.host_model.specs.declared.order.PeerAnswer.{PeerAnswer}
use Rattle.host_model.specs.declared.order.PeerAnswer.TheVariants.{Denied, Free, Result}
use Rattle.host_model.specs.declared.view.Page.{Page}
use Rattle.host_model.specs.declared.view.Page.TheVariants.{Test}

-- the most bytes of an input's texts and lists
abbrev pub most_input_texts : ℕ
most_input_texts = 2_097_152

-- the most bytes of the record of a step
abbrev pub most_step_bytes : ℕ
most_step_bytes = 8_388_608

-- its test, its tool and who asks
abbrev pub proposal_texts : Proposal → ℕ
proposal_texts p = test_bytes p.test + text_bytes p.tool + asker_bytes p.asker

abbrev pub denial_texts : Denial → ℕ
denial_texts (Differs kept sent) = proposal_texts kept + proposal_texts sent
denial_texts (NoTool tool) = text_bytes tool
denial_texts _ = 0

abbrev pub heard_texts : PeerAnswer → ℕ
heard_texts (Free answer) = answer_bytes answer
heard_texts (Result text) = text_bytes text
heard_texts (Denied denial) = denial_texts denial
heard_texts _ = 0

abbrev pub page_texts : Page → ℕ
page_texts (Test name) = text_bytes name
page_texts _ = 0

-- the order of what was heard isn't counted, nor are limits, which have a bound of their own
abbrev pub input_texts : Input → ℕ
input_texts (input.Post task requester) = task_bytes task + text_bytes requester
input_texts (input.Cancel serial requester) = text_bytes requester
input_texts (input.View page) = page_texts page
input_texts (input.Free sender question) = test_bytes question.test
input_texts (input.Propose sender proposal) = proposal_texts proposal
input_texts (input.Material sender key text) = text_bytes text
input_texts (input.Heard order answer) = heard_texts answer
input_texts _ = 0

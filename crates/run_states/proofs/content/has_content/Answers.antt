use Rattle.run_states.proofs.ContentLemmas.{content_test}
use Rattle.plugin_core.specs.Participants.{participants}
use Rattle.run_states.proofs.content.has_content.Goals as goal

pub returns-clause-same : goal.returns-clause-same
returns-clause-same c = content_test c.has_same.result c.args.row.now c.args.proposal.now (participants c.args.proposal.now.test c.args.lead.now) c.has_same.ensures

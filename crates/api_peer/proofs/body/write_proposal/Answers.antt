use Rattle.api_peer.proofs.BodyLemmas.{proposable}
use Rattle.api_peer.proofs.body.write_proposal.Goals as goal

pub returns-clause-reads : goal.returns-clause-reads
returns-clause-reads c =
    λ name is. proposable c.args.proposal.now name is c.in_ok-key.ensures.reads c.priority_value.ensures.reads (c.law_test.ensures c.args.proposal.now.test c.requires)

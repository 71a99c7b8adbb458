use Rattle.replay_check.proofs.FitLemmas.{accept_fits}
use Rattle.replay_check.proofs.comes.fits_accepted.Goals as goal

pub returns : goal.returns
returns c =
    let both = accept_fits c.args.number c.args.book.now.number c.args.book.now.book c.rows-known.ensures.lawful c.args.proposal.now c.args.hosts.now c.args.epoch in
    (λ is. both.0 (c.may_accept.ensures.0 is), λ fits. c.may_accept.ensures.1 (both.1 fits))

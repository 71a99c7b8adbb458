use Rattle.std.proofs.Common.{subst}
use Rattle.host_model.specs.Lawful.{Lawful}
use Rattle.replay_check.proofs.SuitLemmas.{suits_follows}
use Rattle.replay_check.proofs.change.may_follow_next.Goals as goal

pub returns : goal.returns
returns c =
    let b = c.args.book.now.book in
    let both = suits_follows c.args.number b (subst (λ n. Lawful n b) c.requires.number c.rows-known.ensures.lawful) c.args.change.now in
    (λ is. both.0 (c.in_ok-fits.ensures.0 is), λ follows. c.in_ok-fits.ensures.1 (both.1 follows))

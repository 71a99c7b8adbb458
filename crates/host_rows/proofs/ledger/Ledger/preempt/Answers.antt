use Rattle.run_states.specs.Life.{HasMoments}
use Rattle.run_states.specs.declared.why.Closing.{Closing}
use Rattle.run_states.specs.declared.why.Why.TheVariants.{Preempted}
use Rattle.host_rows.proofs.ClosingLemmas.{closed_all}
use Rattle.host_rows.proofs.LapseLemmas.{moments_closed}
use Rattle.host_rows.proofs.ledger.Ledger.preempt.Goals as goal

-- closing leaves the moments of rows in bounds
pub mark-requires-clause-moments : goal.mark-requires-clause-moments
mark-requires-clause-moments c =
    let closing : Closing = record { moment = c.args.moment; why = Preempted c.args.by } in
    closed_all HasMoments closing (λ r within. moments_closed closing r within) c.args.key c.args.self.now.list c.rows-known.ensures.moments

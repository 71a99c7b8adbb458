use Rattle.host_trials.proofs.faults.book_after_next.Goals as goal

pub act-requires-clause-bounds : goal.act-requires-clause-bounds
act-requires-clause-bounds c = c.a_booking.ensures.bounds c.args.host

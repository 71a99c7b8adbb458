use Rattle.shared_host.proofs.step.applied.Goals as goal

pub returns : goal.returns
returns g c = record {
  answered = c.apply-answer.ensures.answered;
  out_of_memory = c.apply-answer.ensures.out_of_memory;
  failed = c.apply-answer.ensures.failed;
  durable = c.apply-answer.ensures.durable;
  same = λ p e. (c.apply-answer.ensures.memory p e).0;
  around = c.apply-answer.ensures.any_moment;
  recovers = c.apply-answer.ensures.recovers;
  log_bounded = c.apply-answer.ensures.log_bounded;
  ready = c.apply-answer.ensures.ready;
  fixed = c.apply-answer.ensures.fixed;
  later = c.apply-answer.ensures.later;
  no_fault = c.apply-answer.ensures.no_fault;
  cause = c.apply-answer.ensures.cause;
  order = c.known.ensures.order;
  sure = c.known.ensures.sure;
  sure_after = c.known-2.ensures.sure;
}

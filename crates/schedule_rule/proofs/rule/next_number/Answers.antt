use Rattle.schedule_rule.proofs.FirstLemmas.{found}
use Rattle.schedule_rule.proofs.JumpLemmas.{none_in_time, next_is, if_given}
use Rattle.schedule_rule.specs.Rule.{numbers_of}
use Rattle.schedule_rule.proofs.rule.next_number.Goals as goal

pub returns-in_err-first_reaching-clause-value : goal.returns-in_err-first_reaching-clause-value
returns-in_err-first_reaching-clause-value c =
    rw c.from_residual.ensures (found _ (numbers_of c.args.rule.now) _ tt tt (λ _. none_in_time c.args.rule.now c.args.from c.args.reach c.in_err-first_reaching.ensures.none))

pub returns : goal.returns
returns c =
    let facts = c.in_ok-first_reaching.ensures in
    let next = next_is c.args.rule.now c.args.from c.in_ok-first_reaching.field-0 c.args.reach c.max-number.result c.reaches.result c.then_some.result facts.before facts.there c.max-number.type_inv c.max-number.ensures c.reaches.ensures.value c.then_some.ensures in
    record { value = next.value; least = next.least; none = next.none; bound = if_given c.reaches.result c.max-number.result _ c.then_some.result c.then_some.ensures c.reaches.ensures.bound }

use Rattle.machine_keep.specs.Armed.{IsStep}
use Rattle.machine_keep_tests.proofs.armed.armed_step.Goals as goal

step : (c : goal.After-apply) → IsStep c.args.keep.now.journal c.apply.new.self.journal c.apply.result
step c = record { calls_advance = c.apply.ensures.calls_advance; cause = c.apply.ensures.cause; no_fault = c.apply.ensures.no_fault }

pub returns-clause-fault : goal.returns-clause-fault
returns-clause-fault c = c.law_armed.ensures.fault _ _ _ _ _ (step c) c.requires.first c.requires.second

pub returns-clause-spared : goal.returns-clause-spared
returns-clause-spared c = c.law_armed.ensures.no_fault _ _ _ _ _ (step c) c.requires.first c.requires.second

pub returns-clause-no_fault : goal.returns-clause-no_fault
returns-clause-no_fault c one two = c.law_no_fault.ensures _ _ _ (step c) one two

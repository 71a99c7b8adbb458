-- What is known of a row that was read from bytes: the tests in it keep their bounds.
use Rattle.std.specs.Prelude.{IfSome}
use Rattle.plugin_core.specs.Bounds.{IsTest}
use Rattle.run_states.specs.declared.row.RunRow.{RunRow}
use Rattle.run_states.specs.declared.why.Cause.{Cause}
use Rattle.run_states.specs.declared.why.Cause.TheVariants.{Denied}
use Rattle.run_states.specs.declared.why.Denial.{Denial}
use Rattle.run_states.specs.declared.why.Denial.TheVariants.{Differs}
use Rattle.run_states.specs.declared.why.Why.{Why}
use Rattle.run_states.specs.declared.why.Why.TheVariants.{Nonstart}

abbrev pub DenialTests : Denial → Type 0
DenialTests (Differs kept sent) = IsTest kept.test × IsTest sent.test
DenialTests _ = Unit {0}

abbrev pub CauseTests : Cause → Type 0
CauseTests (Denied host denial) = DenialTests denial
CauseTests _ = Unit {0}

abbrev pub WhyTests : Why → Type 0
WhyTests (Nonstart cause) = CauseTests cause
WhyTests _ = Unit {0}

-- its own test, and those of why it was closed
pub record HasTests (r : RunRow) : Type 0 where
  pub test : IsTest r.test
  pub closed : IfSome r.closed (λ c. WhyTests c.why)

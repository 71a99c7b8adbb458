-- What was read keeps the bounds that the tests of books ask for.
use Rattle.std.specs.Prelude.{IfSome}
use Rattle.std.proofs.Common.{Option, Some, None}
use Rattle.run_states.specs.declared.row.RunRow.{RunRow}
use Rattle.run_states.specs.declared.why.Cause.{Cause}
use Rattle.run_states.specs.declared.why.Cause.TheVariants.{Denied}
use Rattle.run_states.specs.declared.why.Closing.{Closing}
use Rattle.run_states.specs.declared.why.Denial.{Denial}
use Rattle.run_states.specs.declared.why.Denial.TheVariants.{Differs}
use Rattle.run_states.specs.declared.why.Why.{Why}
use Rattle.run_states.specs.declared.why.Why.TheVariants.{Nonstart}
use Rattle.value_bytes.specs.Reasons.{FitsCause, FitsDenial, FitsWhy, closing}
use Rattle.value_bytes.specs.Rows.{row}
use Rattle.row_check.specs.HasTests.{CauseTests, DenialTests, HasTests, WhyTests}

denial_tests : (d : Denial) → FitsDenial d → DenialTests d
denial_tests (Differs kept sent) fits = (fits.0.0.1.0.test, fits.1.0.1.0.test)
denial_tests d fits = tt

cause_tests : (c : Cause) → FitsCause c → CauseTests c
cause_tests (Denied host answer) fits = denial_tests answer fits.1
cause_tests c fits = tt

why_tests : (w : Why) → FitsWhy w → WhyTests w
why_tests (Nonstart because) fits = cause_tests because fits
why_tests w fits = tt

closed_tests : (o : Option Closing) → IfSome o closing.Fits → IfSome o (λ c. WhyTests c.why)
closed_tests None fits = tt
closed_tests (Some c) fits = why_tests c.why fits.1

pub row_tests : (r : RunRow) → row.Fits r → HasTests r
row_tests r fits = record { test = fits.0.1.0.test; closed = closed_tests r.closed fits.1.1.0.1.1.0 }

-- Changes that were read keep what the test of a record asks.
use Rattle.std.proofs.Common.{All}
use Rattle.std.proofs.lemmas.List.Elements.{All-weaker}
use Rattle.run_states.specs.declared.why.Cause.{Cause}
use Rattle.run_states.specs.declared.why.Cause.TheVariants.{Denied}
use Rattle.run_states.specs.declared.why.Denial.{Denial}
use Rattle.run_states.specs.declared.why.Denial.TheVariants.{Differs}
use Rattle.run_states.specs.declared.why.Why.{Why}
use Rattle.run_states.specs.declared.why.Why.TheVariants.{Nonstart}
use Rattle.host_model.specs.declared.change.Change.{Change}
use Rattle.host_model.specs.declared.change.Change.TheVariants.{Accepted, Asked, Closed, Posted}
use Rattle.host_model.specs.declared.change.Changes.{Changes}
use Rattle.row_check.specs.HasTests.{CauseTests, DenialTests, WhyTests}
use Rattle.value_bytes.specs.Changes.{FitsChange, changes}
use Rattle.value_bytes.specs.Reasons.{FitsCause, FitsDenial, FitsWhy}
use Rattle.host_codec.specs.FirstFormat.{FitsFirst, first_changes}
use Rattle.replay_check.specs.ReadChange.{IsReadChange}

denial_tests : (d : Denial) → FitsDenial d → DenialTests d
denial_tests (Differs kept sent) fits = (fits.0.0.1.0.test, fits.1.0.1.0.test)
denial_tests d fits = tt

cause_tests : (c : Cause) → FitsCause c → CauseTests c
cause_tests (Denied host answer) fits = denial_tests answer fits.1
cause_tests c fits = tt

why_tests : (w : Why) → FitsWhy w → WhyTests w
why_tests (Nonstart because) fits = cause_tests because fits
why_tests w fits = tt

change_read : (c : Change) → FitsChange c → IsReadChange c
change_read (Posted t) fits = fits.task
change_read (Accepted p participants epoch) fits = fits.0.1.0.test
change_read (Asked q participants asker) fits = fits.0.1.0.test
change_read (Closed k why) fits = why_tests why fits.1
change_read c fits = tt

pub second_read : (r : Changes) → changes.Fits r → All IsReadChange r.list
second_read r fits = All-weaker FitsChange IsReadChange change_read r.list fits.1.1

pub first_read : (r : Changes) → first_changes.Fits r → All IsReadChange r.list
first_read r fits = All-weaker FitsFirst IsReadChange (λ c fit. change_read c fit.0) r.list fits.1.1

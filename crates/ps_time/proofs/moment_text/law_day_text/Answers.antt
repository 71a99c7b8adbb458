use Rattle.std.proofs.Common.{refl}
use Rattle.ps_time.specs.Moment.{moment_text_of, day_text_of}
use Rattle.ps_time.proofs.moment_text.law_day_text.Goals as goal

pub returns : goal.returns
unfolding moment_text_of day_text_of
returns c = record { length = λ moment. refl; front = λ moment. refl }

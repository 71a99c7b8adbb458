use Rattle.ps_time.proofs.MomentTextLemmas.{moment_text_read}
use Rattle.ps_time.proofs.moment_text.law_moment_text.Goals as goal

pub returns : goal.returns
returns c = moment_text_read

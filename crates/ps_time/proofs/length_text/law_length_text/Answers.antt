use Rattle.ps_time.proofs.LengthTextLemmas.{length_text_read}
use Rattle.ps_time.proofs.length_text.law_length_text.Goals as goal

pub returns : goal.returns
returns c = length_text_read

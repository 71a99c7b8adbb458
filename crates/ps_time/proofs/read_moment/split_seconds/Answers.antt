use Rattle.std.proofs.Common.{◌∙◌, sym, refl, codes}
use Rattle.ps_time.proofs.PictureLemmas.{digits_shown}
use Rattle.ps_time.proofs.read_moment.split_seconds.Goals as goal

pub number-requires-clause-digits : goal.number-requires-clause-digits
number-requires-clause-digits c = digits_shown (codes ":00") c.args.text.now 1 2 (sym c.starts_as.ensures.value ∙ c.if-not-starts_as.false) refl

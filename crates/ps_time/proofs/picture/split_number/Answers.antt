use Rattle.std.proofs.Common.{rules}
use Rattle.ps_time.specs.Picture.{leading_number}
use Rattle.ps_time.proofs.picture.split_number.Goals as goal

pub returns-then-count-eq0 : goal.returns-then-count-eq0
unfolding leading_number
returns-then-count-eq0 c = search rules

pub returns : goal.returns
unfolding leading_number
returns c = search rules

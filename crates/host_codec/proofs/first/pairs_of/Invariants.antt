use Rattle.std.proofs.Common.{◌≡◌, take}
use Rattle.host_codec.specs.FirstFormat.{first_pairs}
use Rattle.host_codec.proofs.first.pairs_of.Given as goal

abbrev pub invariant-loop-row : goal.invariant-loop-row
invariant-loop-row l = l.pairs.items ≡ first_pairs (take l.row-index l.rows)

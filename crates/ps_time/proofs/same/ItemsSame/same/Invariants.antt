use Rattle.std.proofs.Common.{◌≡◌, take}
use Rattle.ps_time.proofs.same.ItemsSame.same.Given as goal

-- the items so far are one
abbrev pub invariant-loop-index : goal.invariant-loop-index
invariant-loop-index g l = take l.index l.mine ≡ take l.index l.theirs

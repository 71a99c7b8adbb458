use Rattle.std.proofs.Common.{◌++◌, take, arith, length-append, length-take}
use Rattle.std.proofs.KnownBytes.{Consumes-trans}
use Rattle.ps_ports.proofs.all.read_all.Goals as goal

pub returns-then-most-len-clause-too_long : goal.returns-then-most-len-clause-too_long
returns-then-most-len-clause-too_long g c = λ _.
    let all = c.loop-count.all.items in
    let more = take c.in-Ok.count c.read.new.buf in
    (all ++ more, Consumes-trans _ _ _ all more c.loop-count.invariant.came c.in-Ok.ensures.bytes.0, omega (arith, length-append all more, length-take c.in-Ok.count c.read.new.buf, c.in-Ok.ensures.bound))

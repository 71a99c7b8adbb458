use Rattle.std.proofs.Common.{arith, FitsSigned, w64, ◌-ℤ◌, ◌+ℤ◌, refl}
use Rattle.std.proofs.lemmas.Int.{to_z-of_z, ints}
use Rattle.ps_time.proofs.read_moment.utc_second.Goals as goal

pub returns : goal.returns
returns c =
    let day : FitsSigned w64 c.args.day = omega (arith, ints, c.requires.day) in
    let civil : FitsSigned w64 c.civil_second-civil.result = omega (arith, ints, c.civil_second-civil.ensures.bound) in
    let off : FitsSigned w64 c.seconds_off.result = omega (arith, ints, c.seconds_off.ensures.bound) in
    let carry : FitsSigned w64 c.carry.result = omega (arith, ints, c.carry.ensures.bound) in
    let apart : FitsSigned w64 (c.civil_second-civil.result -ℤ c.seconds_off.result) = omega (arith, ints, c.seconds_off.ensures.bound, c.civil_second-civil.ensures.bound) in
    let whole : FitsSigned w64 (c.civil_second-civil.result -ℤ c.seconds_off.result +ℤ c.carry.result) = omega (arith, ints, c.seconds_off.ensures.bound, c.civil_second-civil.ensures.bound, c.carry.ensures.bound) in
    simp to_z-of_z (rw (c.civil_second-civil.ensures.value, c.seconds_off.ensures.value, c.carry.ensures.value, to_z-of_z) refl)

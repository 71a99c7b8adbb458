-- Ceilings are numbers of 16 bits.
use Rattle.std.proofs.Common.{◌≡◌, ◌≤ℤ◌, ℤ, pos, negsuc, FitsSigned, w16, arith}
use Rattle.std.proofs.lemmas.Int.{to_z-of_z, ints}
use mir.Val.{to_z, of_z}

pub ceiling_kept : (z : ℤ) → negsuc 999 ≤ℤ z → z ≤ℤ pos 1_000 → to_z w16 (of_z w16 z) ≡ z
ceiling_kept z low high = to_z-of_z w16 z (fits z low high)
  where
    fits : (z : ℤ) → negsuc 999 ≤ℤ z → z ≤ℤ pos 1_000 → FitsSigned w16 z
    fits z low high = omega (arith, ints, low, high)

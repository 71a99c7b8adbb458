-- Shares of connections.
use Rattle.std.proofs.Common.{ℕ, le_refl, le_trans}
use Rattle.std.specs.Prelude.{Option, None, Some}
use Rattle.ps_doors.specs.Porch.{HasShare}

pub whole_share : (most : Option ℕ) → HasShare most most
whole_share None = tt
whole_share (Some most) = le_refl most

pub share_of_share : (most left share : Option ℕ) → HasShare most left → HasShare left share → HasShare most share
share_of_share None left share outer inner = tt
share_of_share (Some most) None share outer inner = absurd outer
share_of_share (Some most) (Some left) None outer inner = absurd inner
share_of_share (Some most) (Some left) (Some share) outer inner = le_trans inner outer

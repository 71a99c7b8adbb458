-- Ranges of numbers.
use Rattle.std.specs.Prelude.{ℕ, ◌&&◌, nat_le, Bool}
use Rattle.limit_rule.specs.declared.bounds.Bounds.{Bounds}

-- from the lower bound to the upper one, both among them
abbrev pub lies : Bounds → ℕ → Bool
lies bounds n = nat_le bounds.lower n && nat_le n bounds.upper

-- Intervals and windows as contracts see them: two moments.
use Rattle.std.specs.Prelude.{ℕ, Bool, ◌+◌, ◌&&◌, nat_lt}

-- a half-open interval: start is in it, end is not
pub record Span : Type 0 where
  pub start : ℕ
  pub end : ℕ

-- the interval of a run with this start and length
abbrev pub span_of : ℕ → ℕ → Span
span_of start len = record { start = start; end = start + len }

-- some second lies in both
abbrev pub overlap : Span → Span → Bool
overlap a b = nat_lt a.start b.end && nat_lt b.start a.end

-- moments from first to last, both among them
pub record Range : Type 0 where
  pub first : ℕ
  pub last : ℕ

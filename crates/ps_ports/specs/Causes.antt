-- Counts of faults, which are the causes of failures. A count is a `u64`.
use Rattle.std.specs.Prelude.{◌≡◌, ◌≤◌, ◌<◌, ◌+◌, ◌-◌, ◌^◌, ℕ, List, length, min, Bool, ◌==◌, ◌&&◌, not, Result, OnErr, IfOk}
use Rattle.std.proofs.Common.{arith}

-- the number as a count: it stands still at the greatest `u64`
abbrev pub counted : ℕ → ℕ
counted n = min n (2 ^ 64 - 1)

-- so each count is below 2^64
pub counted_fits : (n : ℕ) → counted n < 2 ^ 64
counted_fits n = omega arith

-- one more, where the count isn't at its greatest value
abbrev pub raised : ℕ → ℕ
raised count = min (count + 1) (2 ^ 64 - 1)

-- so many more
abbrev pub raised_by : ℕ → ℕ → ℕ
raised_by faults count = min (count + faults) (2 ^ 64 - 1)

-- the count rose, and one that stands at its greatest value counts as risen
abbrev pub Rose : ℕ → ℕ → Type 0
Rose before now = raised before ≤ now

-- the count hasn't fallen, and a call that failed raised it
pub record HasCause {T E : Type 0} (before now : ℕ) (result : Result T E) : Type 0 where
  pub later : before ≤ now
  pub failed : OnErr result (Rose before now)

-- a write that took 0 bytes of a piece that isn't empty raised the count
abbrev pub CountsNothing : {E : Type 0} → ℕ → ℕ → Result ℕ E → List ℕ → Type 0
CountsNothing before now result piece = IfOk result (λ n. n ≡ 0 → 0 < length piece → Rose before now)

-- 0 of a piece that isn't empty
abbrev pub nothing_of : ℕ → List ℕ → Bool
nothing_of n piece = (n == 0) && not (length piece == 0)

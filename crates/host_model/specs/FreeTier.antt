-- At which starts a run would be free, and what a tier of an answer is: in words of rows and moments.
use Rattle.std.specs.Prelude.{◌+◌, ◌<◌, ◌∷◌, ◌≡◌, ◌≢◌, ◌≤◌, ◌⊎◌, All, IsFalse, IsTrue, List, Some, [], length, ℕ, ℤ}
use Rattle.ps_time.specs.Numbers.{most_intervals}
use Rattle.ps_time.specs.Span.{Range, Span, span_of}
use Rattle.ps_time.specs.Starts.{lies_in}
use Rattle.ps_time.specs.declared.class.Class.{Class}
use Rattle.ps_time.specs.declared.key.RunKey.{RunKey}
use Rattle.run_states.specs.Rows.{find_row}
use Rattle.run_states.specs.declared.row.RunRow.{RunRow}
use Rattle.host_model.specs.Conflicting.{Conflicts, MayPreempt}

-- ---- starts
-- no booked row is in conflict with a run of this class and length that starts at s
-- The test is `is_free` of `FreeStarts`: see `free_decided` of `proofs/TierLemmas`.
abbrev pub IsFreeStart : List RunRow → Class → ℕ → ℕ → Type 0
IsFreeStart rows class len s = (k : RunKey) (r : RunRow) (i : Span) → find_row rows k ≡ Some r → Conflicts class (span_of s len) r i → ⊥

-- each one that is in conflict may be preempted at m by a run of this priority
-- The test is `is_freeable` of `FreeStarts`: see `freeable_decided` of `proofs/TierLemmas`.
abbrev pub IsFreeableStart : List RunRow → ℕ → Class → ℕ → ℤ → ℕ → Type 0
IsFreeableStart rows m class len priority s = (k : RunKey) (r : RunRow) (i : Span) → find_row rows k ≡ Some r → Conflicts class (span_of s len) r i → MayPreempt priority m r i

-- ---- windows
-- the moment lies in the window
abbrev pub IsIn : Range → ℕ → Type 0
IsIn w s = (w.first ≤ s) × (s ≤ w.last)

-- the first of the windows begins after a moment
abbrev pub BeginAfter : ℕ → List Range → Type 0
BeginAfter moment [] = Unit {0}
BeginAfter moment (w ∷ ws) = moment < w.first

-- none is empty, they ascend, and at least one moment lies between each and the next
abbrev pub AreApart : List Range → Type 0
AreApart [] = Unit {0}
AreApart (w ∷ ws) = (w.first ≤ w.last) × BeginAfter (w.last + 1) ws × AreApart ws

-- each ends before a moment, with another one between
abbrev pub EndBefore : List Range → ℕ → Type 0
EndBefore windows s = All (λ w. w.last + 1 < s) windows

-- ---- tiers
-- the first 128 of the maximal windows of the starts of w at which P holds
-- The list is that of `tier_of`, of `Starts` in `ps_time`: see `tier_is` of `proofs/TierLemmas`.
pub record IsTier (P : ℕ → Type 0) (w : Range) (tier : List Range) : Type 0 where
  -- each start in them is such a one
  pub sound : (s : ℕ) → IsTrue (lies_in tier s) → IsIn w s × P s
  -- each such start is in them, or comes behind all of them where they are 128: so their list may be cut, but no window is
  pub whole : (s : ℕ) → IsIn w s → P s → IsTrue (lies_in tier s) ⊎ ((length tier ≡ most_intervals) × EndBefore tier s)
  pub apart : AreApart tier
  pub few : length tier ≤ most_intervals

-- no start of w outside the windows, at which P holds, touches one of them
-- Those of a tier are: see `tier_maximal` of `proofs/TierLemmas`.
abbrev pub AreMaximal : (ℕ → Type 0) → Range → List Range → Type 0
AreMaximal P w windows = (s : ℕ) → IsIn w s → P s → IsFalse (lies_in windows s) → All (λ x. (s ≢ x.last + 1) × (s + 1 ≢ x.first)) windows

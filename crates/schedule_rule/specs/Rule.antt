-- Rules as contracts see them, and the starts that they allow.
use Rattle.std.specs.Prelude.{ℕ, zero, suc, Bool, true, false, ◌≡◌, ◌+◌, ◌*◌, ◌^◌, ◌≤◌, ◌&&◌, ◌||◌, ◌==◌, min, nat_le, nat_lt, Option, Some, None, is_some, unwrap_or, if◌then◌else◌, IsTrue}
use Rattle.std.specs.Option.{ForSome}
use Rattle.ps_time.specs.Span.{Range}
use Rattle.ps_time.specs.Numbers.{greatest_moment, greatest_length}

-- when the runs of a task may start
pub record Schedule : Type 0 where
  pub anchor : ℕ
  pub slip : ℕ
  pub repeat : Option ℕ
  pub until : Option ℕ
  pub max_runs : Option ℕ

-- the bounds that every rule keeps
pub record IsRule (rule : Schedule) : Type 0 where
  pub anchor : rule.anchor ≤ greatest_moment
  pub slip : rule.slip ≤ greatest_length
  pub repeat : ForSome rule.repeat (λ r. (1 ≤ r) × (r ≤ greatest_length))
  pub until : ForSome rule.until (λ u. u ≤ greatest_moment)
  pub max_runs : ForSome rule.max_runs (λ n. 1 ≤ n)

-- an absent bound holds
abbrev pub is_at_most : ℕ → Option ℕ → Bool
is_at_most s None = true
is_at_most s (Some bound) = nat_le s bound

abbrev pub is_below : ℕ → Option ℕ → Bool
is_below k None = true
is_below k (Some bound) = nat_lt k bound

-- number 0, and with a repeat every number, as far as max_runs
abbrev pub has_number : Schedule → ℕ → Bool
has_number rule k = (k == 0 || is_some rule.repeat) && is_below k rule.max_runs

-- the moment from which run number k may start
abbrev pub nominal_start : Schedule → ℕ → ℕ
nominal_start rule k = rule.anchor + k * unwrap_or rule.repeat 0

-- the moment up to which its slip lets it start
abbrev pub latest_start : Schedule → ℕ → ℕ
latest_start rule k = nominal_start rule k + rule.slip

-- run number k may start at s
abbrev pub is_allowed : Schedule → ℕ → ℕ → Bool
is_allowed rule k s =
    has_number rule k
    && (nat_le (nominal_start rule k) s && nat_le s (latest_start rule k))
    && (is_at_most s rule.until && nat_le s greatest_moment)

-- the last moment at which a run of any number may start
abbrev pub last_start : Schedule → ℕ
last_start rule = min (unwrap_or rule.until greatest_moment) greatest_moment

abbrev pub range_of : Bool → ℕ → ℕ → Option Range
range_of exists first last = if exists && nat_le first last then Some (record { first = first; last = last }) else None

-- the least and the greatest start that is allowed to run number k, as `window` shows
abbrev pub window_of : Schedule → ℕ → Option Range
window_of rule k = range_of (has_number rule k) (nominal_start rule k) (min (latest_start rule k) (last_start rule))

-- a window reaches a moment where its last start isn't before it
abbrev pub window_reaches : Option Range → ℕ → Bool
window_reaches None moment = false
window_reaches (Some w) moment = nat_le moment w.last

-- number k is at or after from, and its window reaches the moment
abbrev pub reaches_from : Schedule → ℕ → ℕ → ℕ → Bool
reaches_from rule from moment k = nat_le from k && window_reaches (window_of rule k) moment

-- the first of so many numbers from n on for which a test holds
unfoldable pub first_from : (ℕ → Bool) → ℕ → ℕ → Option ℕ
first_from test n zero = None
first_from test n (suc more) = elim (test n) [ true ↦ Some n | false ↦ first_from test (suc n) more ]

-- how many numbers of 32 bits there are: one without a repeat
abbrev pub numbers_with : Option ℕ → Option ℕ → ℕ
numbers_with None max_runs = 1
numbers_with (Some repeat) None = 2 ^ 32
numbers_with (Some repeat) (Some runs) = runs

abbrev pub numbers_of : Schedule → ℕ
numbers_of rule = numbers_with rule.repeat rule.max_runs

-- the first such number of 32 bits: `next_number` shows that no greater one reaches a moment
abbrev pub next_of : Schedule → ℕ → ℕ → Option ℕ
next_of rule from moment = first_from (reaches_from rule from moment) 0 (numbers_of rule)

-- n is the least of the numbers for which the test holds
pub record IsLeast (test : ℕ → Bool) (n : ℕ) : Type 0 where
  pub holds : IsTrue (test n)
  pub least : (m : ℕ) → IsTrue (test m) → n ≤ m

-- n is the greatest of them
pub record IsGreatest (test : ℕ → Bool) (n : ℕ) : Type 0 where
  pub holds : IsTrue (test n)
  pub greatest : (m : ℕ) → IsTrue (test m) → m ≤ n

-- the test holds for no number
abbrev pub HoldsNowhere : (ℕ → Bool) → Type 0
HoldsNowhere test = (m : ℕ) → test m ≡ false

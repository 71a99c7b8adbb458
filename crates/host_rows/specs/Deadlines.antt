-- The moments from which rows lapse, under the keys of the rows, in order.
use Rattle.std.specs.List.{list_any}
use Rattle.std.specs.List.Sorted.{IsPartitionPoint}
use Rattle.std.specs.Option.{option_eq}
use Rattle.std.specs.Ordering.{is_eq, is_lt, nat_cmp, on, then_cmp}
use Rattle.std.specs.Prelude.{◌==◌, ◌≡◌, ◌<◌, ◌≤◌, All, Bool, IfSome, List, None, Option, Some, [], ◌∷◌, if◌then◌else◌, is_some, length, map, nat_le, option_and_then, option_map, slice_index_or, sum, true, ℕ}
use Rattle.std.specs.declared.cmp.Ordering.{Ordering}
use Rattle.std.specs.declared.cmp.Ordering.TheVariants.{Less, Equal, Greater}
use Rattle.ps_time.specs.Key.{key_cmp}
use Rattle.ps_time.specs.Sorted.{insert_key, without_key, IsAscending}
use Rattle.ps_time.specs.declared.key.RunKey.{RunKey}
use Rattle.run_states.specs.Life.{lapse_of}
use Rattle.run_states.specs.declared.row.RunRow.{RunRow}
use Rattle.host_rows.specs.declared.deadlines.Deadline.{Deadline}

-- deadlines, ascending, and how many fit, those that are there among them
pub record Deadlines : Type 0 where
  pub list : List Deadline
  pub places : ℕ

-- the earlier moment first, then the lesser key
abbrev pub deadline_cmp : Deadline → Deadline → Ordering
deadline_cmp = then_cmp (on (λ d. d.moment) nat_cmp) (on (λ d. d.key) key_cmp)

-- e stands before d
abbrev pub is_before : Deadline → Deadline → Bool
is_before d e = is_lt (deadline_cmp e d)

-- the deadlines with one more, in its place
abbrev pub with_deadline : List Deadline → Deadline → List Deadline
with_deadline = insert_key deadline_cmp (λ d. d)

-- the deadlines without this one
abbrev pub drop_deadline : List Deadline → Deadline → List Deadline
drop_deadline = without_key deadline_cmp (λ d. d)

-- it is among them
abbrev pub has_deadline : List Deadline → Deadline → Bool
has_deadline ds d = list_any (λ e. is_eq (deadline_cmp e d)) ds

-- each is before those after it
abbrev pub IsAscendingDeadlines : List Deadline → Type 0
IsAscendingDeadlines = IsAscending deadline_cmp (λ d. d)

-- the deadline stands at place i
pub record IsPlaceOf (ds : List Deadline) (d : Deadline) (i : ℕ) : Type 0 where
  pub within : i < length ds
  pub same : (e : Deadline) → deadline_cmp (slice_index_or ds i e) d ≡ Equal

-- the deadline would go at place i
pub record IsGapFor (ds : List Deadline) (d : Deadline) (i : ℕ) : Type 0 where
  pub within : i ≤ length ds
  pub parted : IsPartitionPoint (λ e. deadline_cmp e d ≡ Less) (λ e. deadline_cmp e d ≡ Greater) ds i

-- ---- one key's deadline, which may be there
-- without it
abbrev pub lifted : RunKey → Option ℕ → List Deadline → List Deadline
lifted k None ds = ds
lifted k (Some m) ds = drop_deadline ds (record { moment = m; key = k })

-- with it
abbrev pub filed : RunKey → Option ℕ → List Deadline → List Deadline
filed k None ds = ds
filed k (Some m) ds = with_deadline (drop_deadline ds (record { moment = m; key = k })) (record { moment = m; key = k })

-- with the new one in place of the old one
abbrev pub refiled : RunKey → Option ℕ → Option ℕ → List Deadline → List Deadline
refiled k before after ds = if option_eq (λ a b. a == b) before after then ds else filed k after (lifted k before ds)

-- ---- which have come
-- the keys of the deadlines that have come by m, in order
abbrev pub due_keys : ℕ → List Deadline → List RunKey
due_keys m [] = []
due_keys m (d ∷ ds) = if nat_le d.moment m then d.key ∷ due_keys m ds else []

-- a key, if there is one, and the keys after it
abbrev pub key_then : Option RunKey → List RunKey → List RunKey
key_then None ks = []
key_then (Some k) ks = k ∷ ks

-- the key is one of these
abbrev pub is_among : RunKey → List RunKey → Bool
is_among k ks = list_any (λ j. is_eq (key_cmp j k)) ks

-- ---- of rows
-- the latest moment that is counted
abbrev pub latest : ℕ
latest = 18_446_744_073_709_551_615

-- the moment from which the row lapses, unless it changes before
abbrev pub deadline_of : RunRow → Option ℕ
deadline_of r = option_map (λ c. c.moment) (lapse_of latest r)

abbrev pub deadline_at : Option RunRow → Option ℕ
deadline_at o = option_and_then deadline_of o

-- where the row may lapse, its deadline is among these
abbrev pub Waits : List Deadline → RunRow → Type 0
Waits ds r = IfSome (deadline_of r) (λ m. has_deadline ds (record { moment = m; key = r.key }) ≡ true)

-- where the row lapses by m, its key is one of these
abbrev pub IsDue : ℕ → List RunKey → RunRow → Type 0
IsDue m ks r = is_some (lapse_of m r) ≡ true → is_among r.key ks ≡ true

-- 1 where there is a deadline
abbrev pub one_if : Option ℕ → ℕ
one_if None = 0
one_if (Some m) = 1

-- how many rows may lapse
abbrev pub waiting : List RunRow → ℕ
waiting rows = sum (map (λ r. one_if (deadline_of r)) rows)

-- each row that may lapse waits, there are no more deadlines than such rows, and a place for each row
pub record IsFiled (rows : List RunRow) (ds : Deadlines) : Type 0 where
  pub waits : All (Waits ds.list) rows
  pub few : length ds.list ≤ waiting rows
  pub places : length rows ≤ ds.places

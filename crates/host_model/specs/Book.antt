-- A host's book, and what is looked up in it.
use Rattle.std.specs.Prelude.{◌==◌, ◌∷◌, List, Option, [], find, length, map, max, option_map, ℕ}
use Rattle.ps_time.specs.Key.{key_cmp}
use Rattle.ps_time.specs.Sorted.{find_key}
use Rattle.ps_time.specs.declared.key.RunKey.{RunKey}
use Rattle.limit_apply.specs.Limits.{LimitsConfig as Limits}
use Rattle.run_states.specs.declared.row.RunRow.{RunRow}
use Rattle.host_model.specs.declared.config.Config.{Config}
use Rattle.host_model.specs.declared.task_row.TaskRow.{TaskRow}

-- what a host keeps
pub record Book : Type 0 where
  -- the latest moment, in seconds since 1970 UTC
  pub moment : ℕ
  -- the limits that were set, numbered from 1
  pub epochs : List Limits
  -- for each accepted run the number of its epoch, 0 where there was none; ascending by key
  pub pairs : List (RunKey × ℕ)
  -- with the serials 1, 2, 3 and so on
  pub tasks : List TaskRow
  -- ascending by key
  pub rows : List RunRow

-- at first a host keeps nothing
abbrev pub empty_book : Book
empty_book = record { moment = 0; epochs = []; pairs = []; tasks = []; rows = [] }

-- the moment of a call: the greater of the clock and the latest moment of the book
abbrev pub moment_at : Book → ℕ → ℕ
moment_at b clock = max b.moment clock

-- the task of a serial
abbrev pub find_task : List TaskRow → ℕ → Option TaskRow
find_task tasks serial = find (λ t. t.serial == serial) tasks

-- the pair of a key
abbrev pub find_pair : List (RunKey × ℕ) → RunKey → Option (RunKey × ℕ)
find_pair = find_key key_cmp (λ p. p.0)

-- the number of the epoch under which the run was accepted
abbrev pub epoch_of : Book → RunKey → Option ℕ
epoch_of b k = option_map (λ p. p.1) (find_pair b.pairs k)

-- the number of the latest epoch; 0 where there is none
abbrev pub latest_epoch : Book → ℕ
latest_epoch b = length b.epochs

-- the last of these limits, or else the first ones
abbrev pub last_limits : Limits → List Limits → Limits
last_limits l [] = l
last_limits l (x ∷ xs) = last_limits x xs

-- the limits in force: those of the latest epoch, or else the configuration's
abbrev pub limits_in : Config → Book → Limits
limits_in c b = last_limits c.limits b.epochs

-- the keys of rows, in their order
abbrev pub keys_of_rows : List RunRow → List RunKey
keys_of_rows rows = map (λ r. r.key) rows

-- The archives that are due of the rows that keys name.
use Rattle.std.specs.Prelude.{◌≤◌, List, None, Option, Some, [], flat_map, length, ℕ}
use Rattle.ps_time.specs.declared.key.RunKey.{RunKey}
use Rattle.run_states.specs.Rows.{find_row}
use Rattle.run_states.specs.declared.row.RunRow.{RunRow}
use Rattle.host_book.specs.Ready.{most_archives}
use Rattle.host_model.specs.Archives.{due_from_index}

-- those of a row that may be there
abbrev pub found_due : ℕ → Option RunRow → List (RunKey × ℕ)
found_due m None = []
found_due m (Some r) = due_from_index r.key m 0 r.archives

-- key by key
abbrev pub due_of_keys : ℕ → List RunKey → List RunRow → List (RunKey × ℕ)
due_of_keys m keys rows = flat_map (λ k. found_due m (find_row rows k)) keys

-- positions of its archives are numbers of 8 bits
abbrev pub HasFewArchives : RunRow → Type 0
HasFewArchives r = length r.archives ≤ most_archives

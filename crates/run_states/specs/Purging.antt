-- Which rows are long past, and may go.
pub use Rattle.ps_time.specs.Numbers.{keeping}
use Rattle.std.specs.List.{list_all, list_any}
use Rattle.std.specs.Ordering.{is_lt}
use Rattle.std.specs.Prelude.{◌&&◌, ◌+◌, ◌==◌, ◌||◌, Bool, List, None, Option, Some, false, is_none, is_some, max, nat_le, not, option_map, ℕ}
use Rattle.ps_time.specs.Key.{key_cmp}
use Rattle.ps_time.specs.declared.key.RunKey.{RunKey}
use Rattle.archive_retry.specs.declared.state.ArchiveState.{ArchiveState}
use Rattle.run_states.specs.Rows.{find_row}
use Rattle.run_states.specs.declared.row.RunRow.{RunRow}

-- the later of a moment that may be there, and another
abbrev pub later_of : Option ℕ → ℕ → ℕ
later_of None n = n
later_of (Some m) n = max m n

-- a row's rest: the greatest of its interval's end and its moments, as far as it has them
abbrev pub rest_of : RunRow → ℕ
rest_of r =
    later_of (option_map (λ i. i.end) r.interval) (later_of r.asked (later_of r.accepted (later_of r.confirmed (later_of r.started
    (later_of r.material (later_of (option_map (λ e. e.moment) r.ended) (later_of (option_map (λ c. c.moment) r.closed) 0)))))))

-- an archive that is done or given up
abbrev pub is_settled_archive : ArchiveState → Bool
is_settled_archive a = a.done || is_none a.next

-- a later run or attempt of the same task; the bookings of a host are one task
abbrev pub is_later : RunKey → RunKey → Bool
is_later k j = (j.lead == k.lead) && ((j.task == k.task) && is_lt (key_cmp k j))

-- it is over, and long at rest by m
abbrev pub is_long_past : ℕ → RunRow → Bool
is_long_past m r = (is_some r.closed || is_some r.ended) && nat_le (rest_of r + keeping) m

-- where it ended, it is merged, and each of its archives is done or given up
abbrev pub is_archived : RunRow → Bool
is_archived r = not (is_some r.ended) || (is_some r.merged && list_all is_settled_archive r.archives)

-- its lead has nothing more to do with it: what ended is archived, and it isn't the newest of its task
abbrev pub is_led_out : List RunRow → RunRow → Bool
is_led_out rows r = is_archived r && list_any (λ s. is_later r.key s.key) rows

-- the row may go at m, where the host with this number keeps these rows: it is long past, and its lead, if that is this host, has
-- nothing more to do with it
abbrev pub is_purgeable : ℕ → ℕ → List RunRow → RunRow → Bool
is_purgeable self m rows r = is_long_past m r && (not (r.key.lead == self) || is_led_out rows r)

-- there is a row, and it may go
abbrev pub is_purgeable_row : ℕ → ℕ → List RunRow → Option RunRow → Bool
is_purgeable_row self m rows None = false
is_purgeable_row self m rows (Some r) = is_purgeable self m rows r

-- the row of the key is there, and may go
abbrev pub is_purgeable_key : ℕ → ℕ → List RunRow → RunKey → Bool
is_purgeable_key self m rows k = is_purgeable_row self m rows (find_row rows k)

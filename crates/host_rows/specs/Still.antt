-- Which rows are still: whatever the moment, nothing more comes of them, but that they are purged. Which wait: nothing comes of
-- them before their start. And which are live by a moment.
use Rattle.std.specs.List.{list_all}
use Rattle.std.specs.Prelude.{◌&&◌, ◌==◌, ◌||◌, ◌≡◌, All, Bool, List, None, Option, Some, false, filter, if◌then◌else◌, is_some, map, nat_le, not, true, ℕ}
use Rattle.ps_time.specs.Span.{Span}
use Rattle.ps_time.specs.declared.key.RunKey.{RunKey}
use Rattle.run_states.specs.Life.{is_active}
use Rattle.run_states.specs.Purging.{is_purgeable, is_settled_archive}
use Rattle.run_states.specs.declared.answer.Other.{Other}
use Rattle.run_states.specs.declared.row.RunRow.{RunRow}

-- it doesn't lapse, isn't planned and isn't started: it is closed, or has come as far as its start
abbrev pub is_decided : RunRow → Bool
is_decided r = is_some r.closed || (is_some r.accepted && (is_some r.confirmed && is_some r.started))

-- it ended under the lead with this number, and its results aren't merged
abbrev pub awaits_merging : ℕ → RunRow → Bool
awaits_merging self r = (r.key.lead == self) && (is_some r.ended && not (is_some r.merged))

-- the lead has nothing more to say to this participant
abbrev pub is_told : RunRow → Other → Bool
is_told r o =
    (if is_some r.closed then not o.accepted || o.cancel_told else is_some o.free && o.confirm_told)
    && (is_some r.merged || (not (is_some r.ended) || is_some o.heard))

-- nor to any: only what was asked about has other participants to speak to
abbrev pub is_quiet : RunRow → Bool
is_quiet r = not (is_some r.asked) || list_all (is_told r) r.others

-- the host with this number does nothing more with it, but to purge it
abbrev pub is_still : ℕ → RunRow → Bool
is_still self r = is_decided r && (not (is_active r) && (not (awaits_merging self r) && (is_quiet r && list_all is_settled_archive r.archives)))

-- it is accepted and confirmed, hasn't started, and isn't over
abbrev pub is_ahead : RunRow → Bool
is_ahead r = is_some r.accepted && (is_some r.confirmed && (not (is_some r.started) && (not (is_some r.ended) && not (is_some r.closed))))

-- the host does nothing with it before its start
abbrev pub is_waiting : RunRow → Bool
is_waiting r = is_ahead r && (is_quiet r && list_all is_settled_archive r.archives)

-- the start of this interval has come by m
abbrev pub has_come : ℕ → Option Span → Bool
has_come m None = false
has_come m (Some s) = nat_le s.start m

-- it waits, and its start has come by m
abbrev pub is_called : ℕ → RunRow → Bool
is_called m r = is_waiting r && has_come m r.interval

-- the host may have something to do with it, whatever the moment
abbrev pub is_live : ℕ → RunRow → Bool
is_live self r = not (is_still self r || is_waiting r)

-- the host may have something to do with it by m
abbrev pub is_live_by : ℕ → ℕ → RunRow → Bool
is_live_by self m r = is_live self r || is_called m r

-- those rows, in their order
abbrev pub live_rows : ℕ → List RunRow → List RunRow
live_rows self rows = filter (is_live self) rows

-- and their keys
abbrev pub live_keys : ℕ → List RunRow → List RunKey
live_keys self rows = map (λ r. r.key) (live_rows self rows)

-- the keys of those that are live by m
abbrev pub keys_live_by : ℕ → ℕ → List RunRow → List RunKey
keys_live_by self m rows = map (λ r. r.key) (filter (is_live_by self m) rows)

-- none of these rows that is still may go at m
abbrev pub StillStay : ℕ → List RunRow → ℕ → Type 0
StillStay self rows m = All (λ r. is_still self r ≡ true → is_purgeable self m rows r ≡ false) rows

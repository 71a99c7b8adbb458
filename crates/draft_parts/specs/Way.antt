-- A run that is accepted, and the rows that give way to it.
use Rattle.std.specs.Prelude.{◌≡◌, ◌∷◌, List, MatchOption, [], ℕ}
use Rattle.ps_time.specs.declared.key.RunKey.{RunKey}
use Rattle.plugin_core.specs.TestSpec.{test_class}
use Rattle.run_states.specs.Preemption.{planned_span}
use Rattle.run_states.specs.Rows.{find_row}
use Rattle.run_states.specs.declared.row.RunRow.{RunRow}
use Rattle.host_model.specs.Apply.{put_new}
use Rattle.draft_parts.specs.Overlay.{below}
use Rattle.draft_parts.specs.declared.giving_way.Incoming.{Incoming}

-- the run of a row that is planned for this start, which has no interval yet
abbrev pub planned_way : ℕ → RunRow → Incoming
planned_way start r = record { key = r.key; class = test_class r.test; interval = planned_span start r }

-- among these rows there is one whose run it is
abbrev pub IsPlannedWay : ℕ → Incoming → List RunRow → Type 0
IsPlannedWay start run rows = MatchOption (find_row rows run.key) ⊥ (λ r. run ≡ planned_way start r)

-- copies of the book's rows of these keys beside those that are there
abbrev pub touched_each : List RunKey → List RunRow → List RunKey → List RunRow → List RunRow
touched_each gone book [] touched = touched
touched_each gone book (k ∷ ks) touched = touched_each gone book ks (put_new (below gone book k) touched)

-- The summary of generated work.
use Rattle.std.specs.Prelude.{◌++◌, ◌∷◌, List, [], codes, flat_map, length, map, count_by, ℕ}
use Rattle.std.specs.Fmt.{decimal}
use Rattle.std.specs.Str.{bytes_eq}
use Rattle.run_states.specs.Life.{settled_rows, state_of}
use Rattle.run_states.specs.State.{state_text}
use Rattle.run_states.specs.declared.state.State.{State}
use Rattle.run_states.specs.declared.state.State.TheVariants.{Missed, Preempted, Nonstart, Canceled, Finished, Failed, Running, Cleanup, Overdue, OnDeck, Pending}
use Rattle.world_law.specs.World.{Stage}
use Rattle.rehearsal_model.specs.Simulations.{Simulation}
use Rattle.rehearsal_generate.specs.Work.{work}
use Rattle.rehearsal_generate.specs.declared.tally.Tally.{Tally}

-- ---- states
-- of the host's runs, settled at m
abbrev pub stage_states : ℕ → Stage → List State
stage_states m stage = map (λ r. state_of r m) (settled_rows m stage.book.rows)

-- of all hosts' runs, at the last moment
abbrev pub states_of : Simulation → List State
states_of b = flat_map (λ h. stage_states b.last h.state) b.held_hosts

-- how many of them have this name
abbrev pub count_named : List ℕ → List State → ℕ
count_named name states = count_by (λ s. bytes_eq (state_text s) name) states

-- in the order of the summary
abbrev pub states_told : List State
states_told = Pending ∷ OnDeck ∷ Running ∷ Cleanup ∷ Finished ∷ Overdue ∷ Missed ∷ Failed ∷ Preempted ∷ Nonstart ∷ Canceled ∷ []

-- ---- lines
abbrev pub count_line : List ℕ → ℕ → List ℕ
count_line name count = name ++ codes " " ++ decimal count ++ codes "\n"

abbrev pub state_line : List State → State → List ℕ
state_line states s = count_line (state_text s) (count_named (state_text s) states)

unfoldable pub counts_text : ℕ → Simulation → Tally → List ℕ
counts_text count b t =
    count_line (codes "hosts") 8 ++ (count_line (codes "tasks") count ++ (count_line (codes "messages") (length b.messages) ++ (count_line (codes "lost") (length t.lost) ++ count_line (codes "crashes") (length t.crashes))))

unfoldable pub states_text : List State → List ℕ
states_text states = flat_map (state_line states) states_told

abbrev pub summary_text : ℕ → Simulation → Tally → List ℕ
summary_text count b t = counts_text count b t ++ states_text (states_of b)

-- of so many posts
unfoldable pub summary_of : ℕ → List ℕ
summary_of count = summary_text count (work count).0.simulation (work count).1

-- What every step keeps of a book, whatever the input: its rows ascend by key, and no two booked ones clash.
use Rattle.std.proofs.Common.{ℕ, List, [], ◌∷◌, Option, Some, None}
use Rattle.run_states.specs.Life.{closed_by, lapse_of, settled_row, settled_rows}
use Rattle.run_states.specs.Rows.{IsAscendingRows}
use Rattle.run_states.specs.declared.row.RunRow.{RunRow}
use Rattle.run_states.specs.declared.why.Closing.{Closing}
use Rattle.host_model.specs.Apply.{apply, apply_all, book_after, settled}
use Rattle.host_model.specs.Book.{Book, moment_at}
use Rattle.host_model.specs.Lawful.{NoClash}
use Rattle.host_model.specs.Step.{step, step_book}
use Rattle.host_model.specs.declared.change.Change.{Change}
use Rattle.host_model.specs.declared.config.Config.{Config}
use Rattle.host_model.specs.declared.input.Input.{Input}
use Rattle.host_model.proofs.ClashLemmas.{rows_clash}
use Rattle.host_model.proofs.Clashes.{Calm, Calm-refl, close_calm, free_from, map_free, none_from}
use Rattle.host_model.proofs.GrownLemmas.{settled_evolves}
use Rattle.host_model.proofs.LawfulRowsAfter.{rows_up}
use Rattle.host_model.proofs.SettledRows.{settled_up}

-- ---- rows ascend
all_up : (m : ℕ) (cs : List Change) (b : Book) → IsAscendingRows b.rows → IsAscendingRows (apply_all m cs b).rows
all_up m [] b up = up
all_up m (c ∷ cs) b up = all_up m cs (apply m c b) (rows_up m b.tasks c b.rows up)

after_up : (b : Book) (m : ℕ) (cs : List Change) → IsAscendingRows b.rows → IsAscendingRows (book_after b (record { moment = m; list = cs })).rows
after_up b m [] up = up
after_up b m (c ∷ cs) up = all_up m (c ∷ cs) (settled m b) (settled_up m b.rows up)

pub step_up : (c : Config) (b : Book) (clock : ℕ) (i : Input) → IsAscendingRows b.rows → IsAscendingRows (step_book c b clock i).rows
step_up c b clock i up = after_up b (moment_at b clock) (step c b clock i).list up

-- ---- no two clash
closed_calm : (o : Option Closing) (r : RunRow) → Calm r (closed_by o r)
closed_calm None r = Calm-refl r
closed_calm (Some c) r = close_calm c r

settled_clash : (m : ℕ) (rows : List RunRow) → NoClash rows → NoClash (settled_rows m rows)
settled_clash m rows none = none_from (settled_rows m rows) (map_free (settled_row m) (λ r. (settled_evolves m r).key) (λ r. closed_calm (lapse_of m r) r) rows (free_from rows none))

all_clash : (m : ℕ) (cs : List Change) (b : Book) → NoClash b.rows → NoClash (apply_all m cs b).rows
all_clash m [] b none = none
all_clash m (c ∷ cs) b none = all_clash m cs (apply m c b) (rows_clash m b.tasks c b.rows none)

after_clash : (b : Book) (m : ℕ) (cs : List Change) → NoClash b.rows → NoClash (book_after b (record { moment = m; list = cs })).rows
after_clash b m [] none = none
after_clash b m (c ∷ cs) none = all_clash m (c ∷ cs) (settled m b) (settled_clash m b.rows none)

pub step_clash : (c : Config) (b : Book) (clock : ℕ) (i : Input) → NoClash b.rows → NoClash (step_book c b clock i).rows
step_clash c b clock i none = after_clash b (moment_at b clock) (step c b clock i).list none

-- A lawful book is lawful after it has settled.
use Rattle.std.proofs.Common.{◌≡◌, ◌≤◌, ℕ, Option, Some, None, refl, sym, ◌∙◌, arith}
use Rattle.std.proofs.lemmas.List.{length-map}
use Rattle.std.proofs.lemmas.List.Elements.{All-weaker}
use Rattle.ps_time.specs.Numbers.{greatest_moment}
use Rattle.run_states.specs.LawfulRow.{IsUpTo}
use Rattle.run_states.specs.Life.{closed_by, lapse_of, settled_row, settled_rows}
use Rattle.run_states.specs.declared.row.RunRow.{RunRow}
use Rattle.run_states.specs.declared.why.Closing.{Closing}
use Rattle.host_model.specs.Apply.{settled}
use Rattle.host_model.specs.Book.{Book}
use Rattle.host_model.specs.Lawful.{ArePairs, IsLawfulTask, Lawful, NoClash}
use Rattle.host_model.specs.declared.task_row.TaskRow.{TaskRow}
use Rattle.host_model.proofs.AcceptedKeys.{is_accepted, kept_accepted}
use Rattle.host_model.proofs.Clashes.{Calm, Calm-refl, close_calm, free_from, map_free, none_from}
use Rattle.host_model.proofs.GrownLemmas.{settled_evolves}
use Rattle.host_model.proofs.SettledRows.{settled_hosts, settled_up}

-- ---- what settling leaves of a row
settled_key : (m : ℕ) (r : RunRow) → (settled_row m r).key ≡ r.key
settled_key m r = (settled_evolves m r).key

closed_calm : (o : Option Closing) (r : RunRow) → Calm r (closed_by o r)
closed_calm None r = Calm-refl r
closed_calm (Some c) r = close_calm c r

closed_accepted : (o : Option Closing) (r : RunRow) → is_accepted (closed_by o r) ≡ is_accepted r
closed_accepted None r = refl
closed_accepted (Some c) r = refl

-- ---- time passes
upto_later : (m n : ℕ) → m ≤ n → (o : Option ℕ) → IsUpTo m o → IsUpTo n o
upto_later m n later None low = tt
upto_later m n later (Some x) low = omega (arith, later, low)

task_later : (m n : ℕ) → m ≤ n → (t : TaskRow) → IsLawfulTask m t → IsLawfulTask n t
task_later m n later t lawful = record { task = lawful.task; posted = omega (arith, later, lawful.posted); closed = upto_later m n later t.closed lawful.closed }

-- ---- the book
module _ (self : ℕ) (b : Book) (m : ℕ) (later : b.moment ≤ m) (within : m ≤ greatest_moment) (lawful : Lawful self b) where
  clash_settled : NoClash (settled_rows m b.rows)
  clash_settled = none_from (settled_rows m b.rows) (map_free (settled_row m) (settled_key m) (λ r. closed_calm (lapse_of m r) r) b.rows (free_from b.rows lawful.no_clash))

  pairs_settled : ArePairs (settled m b)
  pairs_settled = record { keys = lawful.pairs.keys ∙ sym (kept_accepted (settled_row m) (settled_key m) (λ r. closed_accepted (lapse_of m r) r) b.rows); known = lawful.pairs.known }

  pub book_settled : Lawful self (settled m b)
  book_settled = record {
    moment = within;
    epochs = lawful.epochs;
    few_tasks = lawful.few_tasks;
    serials = lawful.serials;
    tasks = All-weaker (IsLawfulTask b.moment) (IsLawfulTask m) (λ t task. task_later b.moment m later t task) b.tasks lawful.tasks;
    few_rows = omega (arith, length-map b.rows (settled_row m), lawful.few_rows);
    ascending = settled_up m b.rows lawful.ascending;
    rows = settled_hosts self b.tasks b.moment m later b.rows lawful.rows;
    no_clash = clash_settled;
    pairs = pairs_settled;
  }

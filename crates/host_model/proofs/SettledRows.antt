-- The rows of a lawful book are lawful as it settles.
use Rattle.std.proofs.Common.{◌≤◌, ℕ, List, All, Option, Some, None, refl}
use Rattle.std.proofs.lemmas.List.Elements.{All-map, All-weaker}
use Rattle.ps_time.proofs.KeyLemmas.{key_cmp_total}
use Rattle.ps_time.proofs.SortedLemmas.{ascending-map}
use Rattle.run_states.specs.LawfulRow.{IsLawfulRow}
use Rattle.run_states.specs.Life.{closed_by, lapse_of, settled_row, settled_rows}
use Rattle.run_states.specs.Rows.{IsAscendingRows}
use Rattle.run_states.specs.declared.row.RunRow.{RunRow}
use Rattle.run_states.specs.declared.why.Closing.{Closing}
use Rattle.run_states.proofs.LawfulLemmas.{lawful_later, settled_lawful}
use Rattle.host_model.specs.LawfulRow.{IsHostRow}
use Rattle.host_model.specs.declared.task_row.TaskRow.{TaskRow}
use Rattle.host_model.proofs.GrownLemmas.{settled_evolves}
use Rattle.host_model.proofs.HostRows.{SameLead, host_same, same_lead}

closed_same : (o : Option Closing) (r : RunRow) → SameLead r (closed_by o r)
closed_same None r = same_lead r
closed_same (Some c) r = record { key = refl; asked = refl; participants = refl; merged = refl; archives = refl }

-- only the closing of a row changes
pub settled_same : (m : ℕ) (r : RunRow) → SameLead r (settled_row m r)
settled_same m r = closed_same (lapse_of m r) r

module _ (self : ℕ) (tasks : List TaskRow) (n m : ℕ) (later : n ≤ m) where
  settled_host : (r : RunRow) → IsHostRow self tasks n r → IsHostRow self tasks m (settled_row m r)
  settled_host r row =
      let on : IsLawfulRow m r = lawful_later n m later r row.row in
      host_same self tasks r (settled_row m r) (settled_same m r) m (record { row = on; lead = row.lead; merged = row.merged; archives = row.archives }) (settled_lawful m r on)

  pub settled_hosts : (rows : List RunRow) → All (IsHostRow self tasks n) rows → All (IsHostRow self tasks m) (settled_rows m rows)
  settled_hosts rows all = All-map (IsHostRow self tasks m) (settled_row m) rows (All-weaker (IsHostRow self tasks n) (λ r. IsHostRow self tasks m (settled_row m r)) settled_host rows all)

pub settled_up : (m : ℕ) (rows : List RunRow) → IsAscendingRows rows → IsAscendingRows (settled_rows m rows)
settled_up m rows up = ascending-map key_cmp_total (λ r. r.key) (settled_row m) (λ r. (settled_evolves m r).key) rows up

-- Counts of records by a key.
use Rattle.std.specs.Prelude.{◌-◌, ℕ, Bool, not, List, ◌++◌, length, map, filter, if◌then◌else◌, codes}
use Rattle.std.specs.BTreeMap.{insert_entry, is_at}
use Rattle.std.specs.Fmt.{decimal}
use Rattle.std.specs.List.{repeat}
use Rattle.std.specs.Map.{lookup}
use Rattle.std.specs.Option.{unwrap_or}
use Rattle.std.specs.Ordering.{is_eq}
use Rattle.std.specs.declared.cmp.Ordering.{Ordering}
use Rattle.ps_ports.specs.Causes.{counted, raised}
use Rattle.result_table.specs.Upsert.{occurring}
use Rattle.result_table.specs.declared.record.Record.{Record}
use Rattle.result_table.specs.declared.tally.Counts.{Counts}

-- how many records, how many of them are good, and how many aren't, each up to the greatest `u64`
abbrev pub counts_of : List Record → Counts
counts_of rs = record {
  records = counted (length rs);
  good = counted (length (filter (λ r. r.good) rs));
  others = counted (length (filter (λ r. not r.good) rs));
}

-- the records that a function gives this key
abbrev pub records_at : {K : Type 0} → (K → K → Ordering) → (Record → K) → List Record → K → List Record
records_at cmp group rs key = filter (λ r. is_eq (cmp key (group r))) rs

-- for each key that occurs, by key, the counts of its records
abbrev pub counts_by : {K : Type 0} → (K → K → Ordering) → (Record → K) → List Record → List (K × Counts)
counts_by cmp group rs = map (λ key. (key, counts_of (records_at cmp group rs key))) (occurring cmp (map group rs))

-- a number, right in eight places
abbrev pub right_in_eight : ℕ → List ℕ
right_in_eight n = repeat (8 - length (decimal n)) (codes " ") ++ decimal n

-- each behind a blank
unfoldable pub counts_text : Counts → List ℕ
counts_text c = codes " " ++ (right_in_eight c.records ++ (codes " " ++ (right_in_eight c.good ++ (codes " " ++ right_in_eight c.others))))

-- ---- counting one after another

abbrev pub none_counted : Counts
none_counted = record { records = 0; good = 0; others = 0 }

-- one record more
abbrev pub counted_one : Counts → Bool → Counts
counted_one c good = record {
  records = raised c.records;
  good = if good then raised c.good else c.good;
  others = if good then c.others else raised c.others;
}

-- one record more under the key
abbrev pub counted_in : {K : Type 0} → (K → K → Ordering) → List (K × Counts) → K → Bool → List (K × Counts)
counted_in cmp entries key good = insert_entry cmp entries key (counted_one (unwrap_or (lookup (is_at (cmp key)) entries) none_counted) good)

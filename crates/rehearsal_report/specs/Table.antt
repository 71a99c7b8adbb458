-- The table of a host's runs at the end of a report.
use Rattle.std.specs.Prelude.{ℕ, ℤ, List, [], ◌∷◌, ◌++◌, map, Option, Some, None, codes, flat_map}
use Rattle.std.specs.Fmt.{decimal, signed_decimal}
use Rattle.std.specs.Ordering.{nat_cmp, on, then_cmp}
use Rattle.std.specs.declared.cmp.Ordering.{Ordering}
use Rattle.std.specs.declared.cmp.Ordering.TheVariants.{Less, Equal, Greater}
use Rattle.ps_time.specs.Class.{class_text}
use Rattle.ps_time.specs.Key.{key_cmp}
use Rattle.ps_time.specs.Sorted.{insert_key}
use Rattle.ps_time.specs.Span.{Span}
use Rattle.ps_time.specs.declared.class.Class.{Class}
use Rattle.plugin_core.specs.TestSpec.{test_class}
use Rattle.run_states.specs.Life.{state_of}
use Rattle.run_states.specs.State.{state_text}
use Rattle.run_states.specs.declared.row.RunRow.{RunRow}
use Rattle.rehearsal_report.specs.Line.{run_text}
use Rattle.rehearsal_report.specs.declared.table.Entry.{Entry}

-- what it shows of a run at a moment
abbrev pub entry_of : ℕ → RunRow → Entry
entry_of m r = record { interval = r.interval; key = r.key; class = test_class r.test; priority = r.priority; state = state_of r m }

-- intervals by start, then by end; where there is none comes last
abbrev pub interval_cmp : Option Span → Option Span → Ordering
interval_cmp (Some s) (Some t) = then_cmp (on (λ i. i.start) nat_cmp) (on (λ i. i.end) nat_cmp) s t
interval_cmp (Some s) None = Less
interval_cmp None (Some t) = Greater
interval_cmp None None = Equal

-- runs by their intervals, then by their keys
abbrev pub entry_cmp : Entry → Entry → Ordering
entry_cmp = then_cmp (on (λ e. e.interval) interval_cmp) (on (λ e. e.key) key_cmp)

-- more entries, one by one put before the first of those in order that comes after it
abbrev pub ordered_with : List Entry → List Entry → List Entry
ordered_with done [] = done
ordered_with done (e ∷ es) = ordered_with (insert_key entry_cmp (λ x. x) done e) es

abbrev pub ordered : List Entry → List Entry
ordered es = ordered_with [] es

-- start and end, or a dash for each
abbrev pub interval_text : Option Span → List ℕ
interval_text None = codes "- -"
interval_text (Some i) = decimal i.start ++ codes " " ++ decimal i.end

abbrev pub standing_text : Class → ℤ → List ℕ
standing_text class priority = class_text class ++ codes " " ++ signed_decimal priority

abbrev pub entry_text : Entry → List ℕ
entry_text e = interval_text e.interval ++ codes " " ++ standing_text e.class e.priority ++ codes " " ++ state_text e.state ++ codes " " ++ run_text e.key

-- after the name of the host
abbrev pub entry_line : List ℕ → Entry → List ℕ
entry_line name e = name ++ codes " " ++ entry_text e ++ codes "\n"

-- a line for each of the host's runs, in their order; the rows are settled at the moment
abbrev pub table_text : List ℕ → ℕ → List RunRow → List ℕ
table_text name m rows = flat_map (entry_line name) (ordered (map (entry_of m) rows))

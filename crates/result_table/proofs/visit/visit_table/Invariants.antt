use Rattle.std.proofs.Common.{◌≡◌, ◌≤◌, List, IfSome}
use Rattle.std.specs.List.{fold}
use Rattle.ps_time.specs.Id.{InRange}
use Rattle.ps_time.specs.declared.id.Id.TheVariants.{Run}
use Rattle.result_table.specs.Visit.{left_above}
use Rattle.result_table.specs.declared.record.Record.{Record}
use Rattle.result_table.proofs.VisitLemmas.{room_above}
use Rattle.result_table.proofs.visit.visit_table.Given as goal

-- what is left decides
abbrev pub invariant-loop-after : goal.invariant-loop-after
invariant-loop-after g l = record {
  later : g.Q.Keeper.keeper_faults l.initial.keeper ≤ g.Q.Keeper.keeper_faults l.keeper;
  sound : g.Q.Keeper.is_sound l.keeper → g.Q.Keeper.is_sound l.initial.keeper;
  visited : (table : List Record) → g.Q.Keeper.has_table l.initial.keeper table → g.Q.Keeper.is_sound l.keeper
      → fold g.V.Visitor.after l.initial.visitor (left_above l.initial.after table) ≡ fold g.V.Visitor.after l.visitor (left_above l.after table);
  stays : (table : List Record) → g.Q.Keeper.has_table l.initial.keeper table → g.Q.Keeper.is_sound l.keeper → g.Q.Keeper.has_table l.keeper table;
  range : IfSome l.after (λ key. InRange (Run key));
}

abbrev pub decreases-loop-after : goal.decreases-loop-after
decreases-loop-after g l = room_above l.after

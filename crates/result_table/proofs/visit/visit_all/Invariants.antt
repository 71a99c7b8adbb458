use Rattle.std.proofs.Common.{◌≡◌, drop}
use Rattle.std.specs.List.{fold}
use Rattle.result_table.proofs.visit.visit_all.Given as goal

-- what is left decides
abbrev pub invariant-loop-kept : goal.invariant-loop-kept
invariant-loop-kept g l = fold g.V.Visitor.after l.initial.visitor l.records ≡ fold g.V.Visitor.after l.visitor (drop l.kept-index l.records)

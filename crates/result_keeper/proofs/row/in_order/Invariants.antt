use Rattle.std.proofs.Common.{◌≡◌, drop}
use Rattle.result_keeper.specs.Row.{in_order}
use Rattle.result_keeper.proofs.row.in_order.Given as goal

-- what is left decides
abbrev pub invariant-loop-kept : goal.invariant-loop-kept
invariant-loop-kept l = in_order l.fn.after l.records ≡ in_order l.last (drop l.kept-index l.records)

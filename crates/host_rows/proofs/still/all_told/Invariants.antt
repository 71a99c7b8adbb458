use Rattle.std.proofs.Common.{◌≡◌, drop}
use Rattle.std.specs.List.{list_all}
use Rattle.host_rows.specs.Still.{is_told}
use Rattle.host_rows.proofs.still.all_told.Given as goal

-- those that are left decide
abbrev pub invariant-loop-other : goal.invariant-loop-other
invariant-loop-other l = list_all (is_told l.row) l.others ≡ list_all (is_told l.row) (drop l.other-index l.others)

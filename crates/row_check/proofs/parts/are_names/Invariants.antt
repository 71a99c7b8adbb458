use Rattle.std.specs.List.{list_all}
use Rattle.std.proofs.Common.{◌≡◌, drop}
use Rattle.ps_time.specs.Name.{is_name}
use Rattle.row_check.proofs.parts.are_names.Given as goal

-- what is left decides
abbrev pub invariant-loop-name : goal.invariant-loop-name
invariant-loop-name l = list_all is_name (drop l.name-index l.names) ≡ list_all is_name l.names

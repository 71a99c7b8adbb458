use Rattle.std.proofs.Common.{◌≡◌, drop}
use Rattle.host_rows.specs.Closing.{closed_keys}
use Rattle.draft_parts.proofs.giving_way.close_each.Given as goal

-- what is left decides
abbrev pub invariant-loop-key : goal.invariant-loop-key
invariant-loop-key l = closed_keys l.moment l.run l.keys l.initial.rows.list ≡ closed_keys l.moment l.run (drop l.key-index l.keys) l.rows.list

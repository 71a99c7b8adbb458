use Rattle.std.proofs.Common.{◌≡◌, ◌++◌}
use Rattle.serde_json.specs.View.{members_view}
use Rattle.mesh_parts.specs.Named.{entries_of}
use Rattle.mesh_parts.proofs.entries.copy_entries.Given as goal

-- the entries so far, and what is left
abbrev pub invariant-loop-name : goal.invariant-loop-name
invariant-loop-name l = l.entries ++ entries_of (members_view l.name-iterator) ≡ entries_of (members_view l.members.entries)

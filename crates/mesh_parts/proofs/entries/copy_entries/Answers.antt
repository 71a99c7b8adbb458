use Rattle.std.proofs.Common.{◌≡◌, rules}
use Rattle.serde_json.specs.View.{members_view}
use Rattle.mesh_parts.specs.Named.{entries_of}
use Rattle.mesh_parts.proofs.EntryLemmas.{names_ascend}
use Rattle.mesh_parts.proofs.entries.copy_entries.Goals as goal

pub returns-clause-order : goal.returns-clause-order
returns-clause-order c =
    let all : c.loop-name.entries ≡ entries_of (members_view c.args.members.now.entries) = search rules in
    rw all (names_ascend c.args.members.now.entries c.iter-name-items.ensures.ordered)

use Rattle.std.proofs.Common.{◌≡◌, length}
use Rattle.serde_json.specs.View.{members_view}
use Rattle.ps_json.specs.Fields.{least_unknown, next_of, behind_next}
use Rattle.ps_json.proofs.fields.Fields.next.Given as goal

-- what is left decides
abbrev pub invariant-loop-name : goal.invariant-loop-name
invariant-loop-name l = record {
  member : next_of l.fn.self ≡ next_of (members_view l.self-inside.members.entries);
  least : least_unknown l.fn.self ≡ least_unknown (members_view l.self-inside.members.entries);
  rest : behind_next l.fn.self ≡ behind_next (members_view l.self-inside.members.entries);
}

abbrev pub decreases-loop-name : goal.decreases-loop-name
decreases-loop-name l = length l.self-inside.members.entries

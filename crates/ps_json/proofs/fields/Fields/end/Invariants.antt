use Rattle.std.proofs.Common.{◌≡◌, string_cmp}
use Rattle.std.specs.List.Sorted.{IsStrictlySortedBy}
use Rattle.std.specs.Map.{keys_of}
use Rattle.serde_json.specs.View.{members_view}
use Rattle.ps_json.specs.Fields.{least_unknown}
use Rattle.ps_json.proofs.fields.Fields.end.Given as goal

-- what is left, in order, decides
abbrev pub invariant-loop-name : goal.invariant-loop-name
invariant-loop-name l = record {
  least : least_unknown l.fn.self ≡ least_unknown (members_view l.name-iterator);
  sorted : IsStrictlySortedBy string_cmp (keys_of l.name-iterator);
}

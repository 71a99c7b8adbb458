use Rattle.std.proofs.Common.{◌≡◌, drop}
use Rattle.serde_json.specs.Written.{items_have_float, members_have_float}
use Rattle.serde_json.specs.View.{items_view, members_view}
use Rattle.ps_json.proofs.shape.+whole.Given as goal

-- what is left decides
abbrev pub invariant-are_whole_items-loop-item : goal.invariant-are_whole_items-loop-item
invariant-are_whole_items-loop-item l = items_have_float (items_view l.item-items) ≡ items_have_float (items_view (drop l.item-index l.item-items))

abbrev pub invariant-are_whole_members-loop-member : goal.invariant-are_whole_members-loop-member
invariant-are_whole_members-loop-member l = members_have_float (members_view l.members.entries) ≡ members_have_float (members_view l.member-iterator)

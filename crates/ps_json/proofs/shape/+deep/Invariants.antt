use Rattle.std.proofs.Common.{◌<◌, ◌↔◌, drop}
use Rattle.serde_json.specs.Data.{items_depth, members_depth}
use Rattle.serde_json.specs.View.{items_view, members_view}
use Rattle.ps_json.proofs.shape.+deep.Given as goal

-- what is left decides
abbrev pub invariant-has_deeper_item-loop-item : goal.invariant-has_deeper_item-loop-item
invariant-has_deeper_item-loop-item l = (l.most < items_depth (items_view l.item-items)) ↔ (l.most < items_depth (items_view (drop l.item-index l.item-items)))

abbrev pub invariant-has_deeper_member-loop-member : goal.invariant-has_deeper_member-loop-member
invariant-has_deeper_member-loop-member l = (l.most < members_depth (members_view l.members.entries)) ↔ (l.most < members_depth (members_view l.member-iterator))

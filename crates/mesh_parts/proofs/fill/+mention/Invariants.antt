use Rattle.std.proofs.Common.{◌≡◌, drop}
use Rattle.serde_json.specs.View.{items_view, members_view}
use Rattle.mesh_parts.specs.Fill.{items_mention, members_mention}
use Rattle.mesh_parts.proofs.fill.+mention.Given as goal

-- what is left decides
abbrev pub invariant-some_mentions-loop-item : goal.invariant-some_mentions-loop-item
invariant-some_mentions-loop-item l = items_mention l.text (items_view l.item-items) ≡ items_mention l.text (items_view (drop l.item-index l.item-items))

abbrev pub invariant-some_member_mentions-loop-member : goal.invariant-some_member_mentions-loop-member
invariant-some_member_mentions-loop-member l =
    members_mention l.text (members_view l.members.entries) ≡ members_mention l.text (members_view l.member-iterator)

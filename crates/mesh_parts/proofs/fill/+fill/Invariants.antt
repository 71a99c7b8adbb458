use Rattle.std.proofs.Common.{◌≡◌, List, ◌++◌, take, map, option_copied}
use Rattle.serde_json.specs.View.{view, members_view}
use Rattle.serde_json.proofs.Views.{Entry}
use Rattle.mesh_parts.specs.Fill.{filled, filled_members}
use Rattle.mesh_parts.proofs.fill.+fill.Given as goal

-- what was copied is what came, filled
abbrev pub invariant-fill_items-loop-item : goal.invariant-fill_items-loop-item
invariant-fill_items-loop-item l = map view l.copies.items ≡ map (filled (option_copied l.pair)) (map view (take l.item-index l.item-items))

abbrev pub invariant-fill_members-loop-name : goal.invariant-fill_members-loop-name
invariant-fill_members-loop-name l =
    (done : List Entry) × (l.members.entries ≡ done ++ l.name-iterator) × (members_view l.copies.entries ≡ filled_members (option_copied l.pair) (members_view done))

use Rattle.std.proofs.Common.{◌≡◌, List, ◌++◌, take, map}
use Rattle.serde_json.specs.View.{view, items_view, members_view}
use Rattle.limit_ident.specs.Plain.{ArePlainItems, ArePlain}
use Rattle.serde_json.proofs.Views.{Entry}
use Rattle.limit_apply.specs.Bare.{bare, bare_members}
use Rattle.limit_apply.proofs.bare.+bare.Given as goal

-- what was copied is what came, bare
abbrev pub invariant-copy_items-loop-item : goal.invariant-copy_items-loop-item
invariant-copy_items-loop-item l = record {
  copied : map view l.copies.items ≡ map bare (map view (take l.item-index l.item-items));
  plain : ArePlainItems (items_view l.copies.items);
}

abbrev pub invariant-copy_members-loop-name : goal.invariant-copy_members-loop-name
invariant-copy_members-loop-name l =
    (done : List Entry) × (l.members.entries ≡ done ++ l.name-iterator) × (members_view l.copies.entries ≡ bare_members (members_view done)) × ArePlain (members_view l.copies.entries)

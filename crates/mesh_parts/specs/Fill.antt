-- Trees without comments, in which templates give way to the hosts of a pair.
use Rattle.std.specs.Prelude.{ℕ, List, Bool, false, ◌||◌, Option, Some, None, if◌then◌else◌, bytes_eq, codes}
use Rattle.std.specs.Option.{unwrap_or}
use Rattle.serde_json.specs.Data.{Data, null, boolean, number, string, array, object, Items, no_items, item, Members, no_members, member}
use Rattle.ps_json.specs.Fields.{is_comment}
use Rattle.mesh_parts.specs.declared.group.Pair.{Pair}

-- what a text stands for: a host of the pair where it is exactly a template, else itself
abbrev pub stands_for : Option Pair → List ℕ → List ℕ
stands_for None text = text
stands_for (Some pair) text =
    if bytes_eq text (codes "{% address[0] %}") then pair.first
    else if bytes_eq text (codes "{% address[1] %}") then unwrap_or pair.second text
    else text

-- without the members that are comments, and each text as what it stands for
abbrev mutual
  pub filled : Option Pair → Data → Data
  filled pair null = null
  filled pair (boolean b) = boolean b
  filled pair (number n) = number n
  filled pair (string text) = string (stands_for pair text)
  filled pair (array ds) = array (filled_items pair ds)
  filled pair (object ms) = object (filled_members pair ms)

  pub filled_items : Option Pair → Items → Items
  filled_items pair no_items = no_items
  filled_items pair (item d ds) = item (filled pair d) (filled_items pair ds)

  pub filled_members : Option Pair → Members → Members
  filled_members pair no_members = no_members
  filled_members pair (member k d ms) =
      if is_comment k then filled_members pair ms else member k (filled pair d) (filled_members pair ms)

-- whether some text of a tree is exactly this one
abbrev mutual
  pub mentions : List ℕ → Data → Bool
  mentions text null = false
  mentions text (boolean b) = false
  mentions text (number n) = false
  mentions text (string other) = bytes_eq other text
  mentions text (array ds) = items_mention text ds
  mentions text (object ms) = members_mention text ms

  pub items_mention : List ℕ → Items → Bool
  items_mention text no_items = false
  items_mention text (item d ds) = mentions text d || items_mention text ds

  pub members_mention : List ℕ → Members → Bool
  members_mention text no_members = false
  members_mention text (member k d ms) = mentions text d || members_mention text ms

-- Trees without their comments.
use Rattle.std.specs.Prelude.{ℕ, List, if◌then◌else◌}
use Rattle.serde_json.specs.Data.{Data, null, boolean, number, string, array, object, Items, no_items, item, Members, no_members, member}
use Rattle.serde_json.specs.Written.{compact_text}
use Rattle.ps_json.specs.Fields.{is_comment}

-- without the members that are comments, at every depth
abbrev mutual
  pub bare : Data → Data
  bare null = null
  bare (boolean b) = boolean b
  bare (number n) = number n
  bare (string s) = string s
  bare (array ds) = array (bare_items ds)
  bare (object ms) = object (bare_members ms)

  pub bare_items : Items → Items
  bare_items no_items = no_items
  bare_items (item d ds) = item (bare d) (bare_items ds)

  pub bare_members : Members → Members
  bare_members no_members = no_members
  bare_members (member k d ms) = if is_comment k then bare_members ms else member k (bare d) (bare_members ms)

-- the compact text of what is left
abbrev pub bare_text : Data → List ℕ
bare_text d = compact_text (bare d)

-- Texts that are kept as trees.
use Rattle.std.specs.Prelude.{◌≡◌, ◌≤◌, ℕ, List, Option, Some, None, Result, Ok, Err}
use Rattle.serde_json.specs.Data.{Data, null, depth}
use Rattle.ps_json.specs.Tree.{tree_of, IsWhole}
use Rattle.ps_json.specs.declared.fault.JsonFault.{JsonFault}

-- `read_tree` reads the text as a tree of at most so many levels, whose numbers are whole
pub record IsTreeText (most : ℕ) (bs : List ℕ) : Type 0 where
  pub tree : Data
  pub reads : tree_of bs ≡ Ok tree
  pub flat : depth tree ≤ most
  pub whole : IsWhole tree

-- the tree of a text that is kept; null where none is
abbrev pub kept_tree : Option (List ℕ) → Data
kept_tree None = null
kept_tree (Some bs) = read_or_null (tree_of bs)
  where
    read_or_null : Result Data JsonFault → Data
    read_or_null (Ok d) = d
    read_or_null (Err fault) = null

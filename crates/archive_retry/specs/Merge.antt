-- The results of a run's participants, made one.
pub use Rattle.ps_json.specs.TreeText.{kept_tree as result_tree}
use Rattle.std.specs.Prelude.{ℕ, Bool, false, List, [], ◌∷◌, Option, Some, IfSome, codes}
use Rattle.std.specs.List.{list_all}
use Rattle.serde_json.specs.Data.{Data, unsigned, boolean, number, string, array, object, no_members, member}
use Rattle.serde_json.specs.Find.{get}
use Rattle.serde_json.specs.View.{items_of}
use Rattle.ps_json.specs.TreeText.{IsTreeText as IsKept, kept_tree}

-- a text that is kept is that of a tree
abbrev pub IsTreeText : List ℕ → Type 0
IsTreeText bs = IsKept 64 bs

-- what may be merged: such a text, or none
abbrev pub IsMergeable : Option (List ℕ) → Type 0
IsMergeable result = IfSome result IsTreeText

-- the result of a participant: a tree at most 60 levels deep, so that the merged one is at most 64
abbrev pub IsResultText : List ℕ → Type 0
IsResultText bs = IsKept 60 bs

-- there is none, or it is such a text
abbrev pub IsResult : Option (List ℕ) → Type 0
IsResult result = IfSome result IsResultText

-- the result says that it succeeded
abbrev pub is_good : Data → Bool
is_good d = said (get (codes "succeeded") d)
  where
    said : Option Data → Bool
    said (Some (boolean b)) = b
    said _ = false

-- `{"host":HOST,"result":RESULT}` for each participant
abbrev pub participant : List ℕ → Data → Data
participant host result = object (member (codes "host") (string host) (member (codes "result") result no_members))

abbrev pub participants : List (List ℕ) → List (Option (List ℕ)) → List Data
participants (host ∷ hosts) (result ∷ results) = participant host (kept_tree result) ∷ participants hosts results
participants _ _ = []

-- every result is there and succeeded
abbrev pub all_good : List (Option (List ℕ)) → Bool
all_good results = list_all (λ r. is_good (kept_tree r)) results

-- `{"participants":PARTICIPANTS,"schema":1,"succeeded":GOOD}`
abbrev pub merged : List (List ℕ) → List (Option (List ℕ)) → Data
merged hosts results =
    object (member (codes "participants") (array (items_of (participants hosts results))) (
    member (codes "schema") (number (unsigned 1)) (
    member (codes "succeeded") (boolean (all_good results)) no_members)))

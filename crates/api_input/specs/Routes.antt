-- The paths of the interface, and the methods of each.
use Rattle.std.specs.List.{find, slice_index_or}
use Rattle.std.specs.Str.{bytes_eq}
use Rattle.std.specs.Prelude.{◌&&◌, ◌||◌, ◌∷◌, Bool, List, None, Option, Some, [], codes, drop, false, if◌then◌else◌, not, option_map, true, ℕ}
use Rattle.api_input.specs.declared.route.Found.{Found}
use Rattle.api_input.specs.declared.route.Methods.{Methods}
use Rattle.api_input.specs.declared.route.Methods.TheVariants.{Get, GetPost, GetDelete, Post, Put, Delete}
use Rattle.api_input.specs.declared.route.Route.{Route}
use Rattle.api_input.specs.declared.route.Route.TheVariants.{Home, Clock, Tests, Tools, Archivers, Test, Tasks, Task, Runs, Run, Schedule, Free, Propose, Drop, Confirm, Material, Result}

-- ---- methods
-- as the field Allow names them
abbrev pub methods_text : Methods → List ℕ
methods_text Get = codes "GET"
methods_text GetPost = codes "GET, POST"
methods_text GetDelete = codes "GET, DELETE"
methods_text Post = codes "POST"
methods_text Put = codes "PUT"
methods_text Delete = codes "DELETE"

abbrev pub allows : Methods → List ℕ → Bool
allows Get method = bytes_eq method (codes "GET")
allows GetPost method = bytes_eq method (codes "GET") || bytes_eq method (codes "POST")
allows GetDelete method = bytes_eq method (codes "GET") || bytes_eq method (codes "DELETE")
allows Post method = bytes_eq method (codes "POST")
allows Put method = bytes_eq method (codes "PUT")
allows Delete method = bytes_eq method (codes "DELETE")

-- ---- paths
-- one part of a path: this word, a name, which isn't empty, or an identifier, which is looked at later
pub data Part : Type 0 where
  word : List ℕ → Part
  name : Part
  id : Part

-- what stands behind `/pscheduler`, the methods, and what the path is for
pub record Path : Type 0 where
  pub parts : List Part
  pub methods : Methods
  pub route : Route

abbrev path : List Part → Methods → Route → Path
path parts methods route = record { parts = parts; methods = methods; route = route }

abbrev pub paths : List Path
paths =
    path [] Get Home ∷
    path (word (codes "clock") ∷ []) Get Clock ∷
    path (word (codes "tests") ∷ []) Get Tests ∷
    path (word (codes "tools") ∷ []) Get Tools ∷
    path (word (codes "archivers") ∷ []) Get Archivers ∷
    path (word (codes "tests") ∷ name ∷ []) Get Test ∷
    path (word (codes "tasks") ∷ []) GetPost Tasks ∷
    path (word (codes "tasks") ∷ id ∷ []) GetDelete Task ∷
    path (word (codes "tasks") ∷ id ∷ word (codes "runs") ∷ []) Get Runs ∷
    path (word (codes "tasks") ∷ id ∷ word (codes "runs") ∷ id ∷ []) Get Run ∷
    path (word (codes "schedule") ∷ []) Get Schedule ∷
    path (word (codes "peer") ∷ word (codes "free") ∷ []) Post Free ∷
    path (word (codes "peer") ∷ word (codes "runs") ∷ []) Post Propose ∷
    path (word (codes "peer") ∷ word (codes "runs") ∷ id ∷ []) Delete Drop ∷
    path (word (codes "peer") ∷ word (codes "runs") ∷ id ∷ word (codes "confirm") ∷ []) Put Confirm ∷
    path (word (codes "peer") ∷ word (codes "runs") ∷ id ∷ word (codes "material") ∷ []) Put Material ∷
    path (word (codes "peer") ∷ word (codes "runs") ∷ id ∷ word (codes "result") ∷ []) Get Result ∷ []

-- ---- the path that some parts are
abbrev pub is_empty : List ℕ → Bool
is_empty [] = true
is_empty (b ∷ bs) = false

abbrev pub part_fits : Part → List ℕ → Bool
part_fits (word w) p = bytes_eq p w
part_fits name p = not (is_empty p)
part_fits id p = true

abbrev pub same_count : List Part → List (List ℕ) → Bool
same_count [] [] = true
same_count (x ∷ xs) (p ∷ ps) = same_count xs ps
same_count _ _ = false

-- each part, of as many
abbrev pub all_fit : List Part → List (List ℕ) → Bool
all_fit (x ∷ []) (p ∷ ps) = part_fits x p
all_fit (x ∷ y ∷ xs) (p ∷ ps) = part_fits x p && all_fit (y ∷ xs) ps
all_fit _ _ = true

abbrev pub fits : List Part → List (List ℕ) → Bool
fits xs ps = same_count xs ps && all_fit xs ps

abbrev pub found : Route → Methods → Option Found
found route methods = Some (record { route = route; methods = methods })

-- behind `/pscheduler`
abbrev pub found_of : List (List ℕ) → Option Found
found_of ps = option_map (λ p. record { route = p.route; methods = p.methods }) (find (λ p. fits p.parts ps) paths)

-- ---- of a whole path, cut at its slashes
-- the part at this place
abbrev pub part : List (List ℕ) → ℕ → List ℕ
part ps i = slice_index_or ps i []

-- the first part, before the slash, is empty
abbrev pub is_under : List (List ℕ) → Bool
is_under ps = is_empty (part ps 0) && bytes_eq (part ps 1) (codes "pscheduler")

abbrev pub route_of : List (List ℕ) → Option Found
route_of ps = if is_under ps then found_of (drop 2 ps) else None

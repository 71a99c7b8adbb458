-- What is wanted, one pair and one task after another.
use Rattle.std.proofs.Common.{◌≡◌, ◌<◌, ◌≤◌, ℕ, ◌+◌, ◌&&◌, List, [], ◌∷◌, ◌++◌, map, flat_map, fold, drop, length, slice_index_or, Bool, true, false, refl, sym, ap, ◌∙◌, append_assoc}
use Rattle.std.proofs.lemmas.List.{append-nil, at_drop_more, at_drop_all, length-map}
use Rattle.std.proofs.lemmas.List.Concat.{length-flat_map}
use Rattle.std.specs.List.{list_all}
use Rattle.mesh_parts.specs.declared.group.Pair.{Pair}
use Rattle.psconfig_mesh.specs.declared.mesh.Mesh.{Mesh}
use Rattle.psconfig_mesh.specs.declared.mesh.MeshTask.{MeshTask}
use Rattle.psconfig_mesh.specs.declared.mesh.Wanted.{Wanted}
use Rattle.psconfig_mesh.specs.Mesh.{pairs_in, wanted, wanted_by, wanted_of, wanted_count}

-- one more pair
pub pair_pushed : (all done more : List Wanted) (write : Pair → Wanted) (pair : Pair) (pairs left : List Pair) (w : Wanted) → all ≡ done ++ map write pairs → pairs ≡ pair ∷ left → w ≡ write pair → more ≡ done ++ w ∷ []
    → all ≡ more ++ map write left
pair_pushed all done more write pair pairs left w before steps is put =
    before ∙ rw (steps, put, is) (sym (append_assoc done (write pair ∷ []) (map write left)))

pub fit_left : (test : Pair → Bool) (pair : Pair) (pairs left : List Pair) → pairs ≡ pair ∷ left → list_all test pairs ≡ true → list_all test left ≡ true
fit_left test pair pairs left steps all = by_first (test pair) (rw steps at all)
  where
    by_first : (b : Bool) → (b && list_all test left) ≡ true → list_all test left ≡ true
    by_first true is = is
    by_first false is = absurd cc

-- one more task
pub task_pushed : (all done more : List Wanted) (write : MeshTask → List Wanted) (tasks : List MeshTask) (i : ℕ) (task : MeshTask) → i < length tasks → task ≡ slice_index_or tasks i task → all ≡ done ++ flat_map write (drop i tasks) → more ≡ done ++ write task
    → all ≡ more ++ flat_map write (drop (i + 1) tasks)
task_pushed all done more write tasks i task within read before put =
    let rest = flat_map write (drop (i + 1) tasks) in
    before
    ∙ at_drop_more (λ ts. done ++ flat_map write ts) tasks i task within
    ∙ ap (λ t. done ++ (write t ++ rest)) (sym read)
    ∙ sym (append_assoc done (write task) rest)
    ∙ ap (λ m. m ++ rest) (sym put)

-- and all of them
pub all_pushed : (all done : List Wanted) (write : MeshTask → List Wanted) (tasks : List MeshTask) (i : ℕ) → length tasks ≤ i → all ≡ done ++ flat_map write (drop i tasks) → done ≡ all
all_pushed all done write tasks i over before = sym (before ∙ at_drop_all (λ ts. done ++ flat_map write ts) tasks i over ∙ append-nil done)

same_sum : (f g : MeshTask → ℕ) → ((task : MeshTask) → f task ≡ g task) → (n : ℕ) (tasks : List MeshTask) → fold (λ a task. a + f task) n tasks ≡ fold (λ a task. a + g task) n tasks
same_sum f g same n [] = refl
same_sum f g same n (task ∷ tasks) = rw (same task) (same_sum f g same (n + g task) tasks)

-- how many are wanted
pub counted : (mesh : Mesh) → length (wanted_of mesh) ≡ wanted_count mesh.addresses mesh.tasks
counted mesh =
    length-flat_map (wanted_by mesh) mesh.tasks
    ∙ same_sum (λ task. length (wanted_by mesh task)) (λ task. length (pairs_in mesh.addresses task)) (λ task. length-map (pairs_in mesh.addresses task) (wanted mesh task)) 0 mesh.tasks

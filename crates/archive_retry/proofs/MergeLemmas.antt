-- The merged tree has whole numbers alone, and isn't deeper than its results by more than three levels.
use Rattle.std.proofs.Common.{◌≡◌, ℕ, ◌+◌, ◌≤◌, List, [], ◌∷◌, All, false, Option, Some, None, refl, arith}
use Rattle.std.proofs.lemmas.List.Elements.{All-head, All-tail, All-nil, All-cons}
use Rattle.serde_json.specs.Data.{depth, items_depth}
use Rattle.serde_json.specs.View.{items_of}
use Rattle.serde_json.specs.Written.{has_float, items_have_float}
use Rattle.ps_json.specs.Tree.{IsWhole}
use Rattle.ps_json.specs.TreeText.{kept_tree}
use Rattle.archive_retry.specs.Merge.{IsMergeable, IsResult, participants, merged}

tree_whole : (r : Option (List ℕ)) → IsMergeable r → has_float (kept_tree r) ≡ false
tree_whole None is = refl
tree_whole (Some bs) is = rw is.reads is.whole

tree_depth : (r : Option (List ℕ)) → IsMergeable r → depth (kept_tree r) ≤ 64
tree_depth None is = omega arith
tree_depth (Some bs) is = rw is.reads is.flat

all_whole : (hosts : List (List ℕ)) (results : List (Option (List ℕ))) → All IsMergeable results → items_have_float (items_of (participants hosts results)) ≡ false
all_whole [] results are = refl
all_whole (h ∷ hs) [] are = refl
all_whole (h ∷ hs) (r ∷ rs) are =
    rw (tree_whole r (All-head IsMergeable r rs are)) (all_whole hs rs (All-tail IsMergeable r rs are))

all_depth : (most : ℕ) (hosts : List (List ℕ)) (results : List (Option (List ℕ))) → All (λ r. depth (kept_tree r) ≤ most) results → items_depth (items_of (participants hosts results)) ≤ most + 1
all_depth most [] results are = omega arith
all_depth most (h ∷ hs) [] are = omega arith
all_depth most (h ∷ hs) (r ∷ rs) are =
    omega (arith, All-head (λ r. depth (kept_tree r) ≤ most) r rs are, all_depth most hs rs (All-tail (λ r. depth (kept_tree r) ≤ most) r rs are))

pub merged_whole : (hosts : List (List ℕ)) (results : List (Option (List ℕ))) → All IsMergeable results → IsWhole (merged hosts results)
merged_whole hosts results are = rw (all_whole hosts results are) refl

pub merged_depth : (most : ℕ) (hosts : List (List ℕ)) (results : List (Option (List ℕ))) → All (λ r. depth (kept_tree r) ≤ most) results → depth (merged hosts results) ≤ most + 3
merged_depth most hosts results are = omega (arith, all_depth most hosts results are)

all_read : (results : List (Option (List ℕ))) → All IsMergeable results → All (λ r. depth (kept_tree r) ≤ 64) results
all_read [] are = All-nil (λ r. depth (kept_tree r) ≤ 64)
all_read (r ∷ rs) are = All-cons (λ r. depth (kept_tree r) ≤ 64) r rs (tree_depth r (All-head IsMergeable r rs are)) (all_read rs (All-tail IsMergeable r rs are))

pub merged_shallow : (hosts : List (List ℕ)) (results : List (Option (List ℕ))) → All IsMergeable results → depth (merged hosts results) ≤ 127
merged_shallow hosts results are = omega (arith, merged_depth 64 hosts results (all_read results are))

-- results of participants may be merged, and are flat enough for what is merged to be kept
mergeable : (r : Option (List ℕ)) → IsResult r → IsMergeable r
mergeable None is = tt
mergeable (Some bs) is = record { tree = is.tree; reads = is.reads; flat = omega (arith, is.flat); whole = is.whole }

flat_result : (r : Option (List ℕ)) → IsResult r → depth (kept_tree r) ≤ 60
flat_result None is = omega arith
flat_result (Some bs) is = rw is.reads is.flat

pub all_mergeable : (results : List (Option (List ℕ))) → All IsResult results → All IsMergeable results
all_mergeable [] are = All-nil IsMergeable
all_mergeable (r ∷ rs) are = All-cons IsMergeable r rs (mergeable r (All-head IsResult r rs are)) (all_mergeable rs (All-tail IsResult r rs are))

pub all_flat : (results : List (Option (List ℕ))) → All IsResult results → All (λ r. depth (kept_tree r) ≤ 60) results
all_flat [] are = All-nil (λ r. depth (kept_tree r) ≤ 60)
all_flat (r ∷ rs) are = All-cons (λ r. depth (kept_tree r) ≤ 60) r rs (flat_result r (All-head IsResult r rs are)) (all_flat rs (All-tail IsResult r rs are))

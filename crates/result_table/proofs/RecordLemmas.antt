-- Tables of records: what a put keeps, what a key finds, what stands above one.
use Rattle.std.proofs.Common.{◌≡◌, ℕ, zero, suc, ◌≤◌, Bool, true, false, cond, List, [], ◌∷◌, length, take, Option, Some, None, Result, Ok, Err, OnOk, OnErr, refl, arith}
use Rattle.std.specs.List.{All, AllByRecursion, filter}
use Rattle.std.specs.Ordering.{is_eq, is_lt}
use Rattle.std.specs.declared.cmp.Ordering.TheVariants.{Less, Equal, Greater}
use Rattle.std.proofs.lemmas.List.Elements.{All-filter, All-take}
use Rattle.ps_time.specs.Key.{key_cmp}
use Rattle.ps_time.specs.Numbers.{greatest_moment}
use Rattle.ps_time.proofs.KeyLemmas.{key_cmp_total, same_key}
use Rattle.ps_time.proofs.SortedLemmas.{ascending-filter}
use Rattle.ps_time.specs.declared.key.RunKey.{RunKey}
use Rattle.result_table.specs.Record.{first_record, renewed, put_record, find_record, above, first_above, IsTable, HasMoments, IsAbove}
use Rattle.result_table.specs.declared.record.Record.{Record}
use Rattle.result_table.proofs.UpsertLemmas.{all-upsert, ascending-upsert}

abbrev key_of : Record → RunKey
key_of r = r.key

pub by_recursion : {X : Type 0} (P : X → Type 0) (xs : List X) → All P xs → AllByRecursion P xs
by_recursion P [] all = tt
by_recursion P (x ∷ xs) all = (all 0 x (omega arith), by_recursion P xs (λ i d low. all (suc i) d (omega arith)))

pub by_place : {X : Type 0} (P : X → Type 0) (xs : List X) → AllByRecursion P xs → All P xs
by_place P [] all i d low = absurd (omega arith)
by_place P (x ∷ xs) all zero d low = all.0
by_place P (x ∷ xs) all (suc i) d low = by_place P xs all.1 i d (omega arith)

pub table_put : (table : List Record) (key : RunKey) (moment : ℕ) (body : List ℕ) → IsTable table → IsTable (put_record table key moment body)
table_put table key moment body up = ascending-upsert key_cmp_total key_of key (first_record key moment body) (renewed moment body) refl (λ r. refl) table up

pub moments_put : (table : List Record) (key : RunKey) (moment : ℕ) (body : List ℕ) → moment ≤ greatest_moment → All HasMoments table → All HasMoments (put_record table key moment body)
moments_put table key moment body fits all =
    by_place HasMoments (put_record table key moment body)
    (all-upsert key_cmp_total key_of HasMoments key (first_record key moment body) (renewed moment body) (fits, fits) (λ r has. (has.0, fits)) table (by_recursion HasMoments table all))

-- what a key finds has the key, and whatever holds of all
pub found_has : (table : List Record) (key : RunKey) (r : Record) → find_record table key ≡ Some r → AllByRecursion HasMoments table → (r.key ≡ key) × HasMoments r
found_has [] key r is all = absurd cc
found_has (x ∷ xs) key r is all =
    let cases = elim (key_cmp x.key key) as (λ c. key_cmp x.key key ≡ c → cond (is_eq c) (Some x) (find_record xs key) ≡ Some r → (r.key ≡ key) × HasMoments r) [
      | Less ↦ λ cmp is. found_has xs key r is all.1
      | Equal ↦ λ cmp is. let same : x ≡ r = cc in let keyed = same_key x.key key cmp in rw (← same) (keyed, all.0)
      | Greater ↦ λ cmp is. found_has xs key r is all.1
    ] in
    cases refl is

ascending_take : (n : ℕ) (xs : List Record) → IsTable xs → IsTable (take n xs)
ascending_take zero xs up = tt
ascending_take (suc n) [] up = tt
ascending_take (suc n) (x ∷ xs) up = (all_take n xs up.0, ascending_take n xs up.1)
  where
    all_take : (n : ℕ) (xs : List Record) → AllByRecursion (λ y. key_cmp x.key y.key ≡ Less) xs → AllByRecursion (λ y. key_cmp x.key y.key ≡ Less) (take n xs)
    all_take zero xs all = tt
    all_take (suc n) [] all = tt
    all_take (suc n) (y ∷ ys) all = (all.0, all_take n ys all.1)

pub table_above : (table : List Record) (after : Option RunKey) (count : ℕ) → IsTable table → IsTable (first_above table after count)
table_above table None count up = ascending_take count table up
table_above table (Some key) count up = ascending_take count (above (Some key) table) (ascending-filter key_cmp_total key_of (λ r. is_lt (key_cmp key r.key)) table up)

passes : (p : Record → Bool) (xs : List Record) → AllByRecursion (λ r. p r ≡ true) (filter p xs)
passes p [] = tt
passes p (x ∷ xs) =
    let cases = elim (p x) as (λ b. p x ≡ b → AllByRecursion (λ r. p r ≡ true) (cond b (x ∷ filter p xs) (filter p xs))) [
      | true ↦ λ is. (is, passes p xs)
      | false ↦ λ is. passes p xs
    ] in
    cases refl

pub all_above : (table : List Record) (after : Option RunKey) (count : ℕ) → All (IsAbove after) (first_above table after count)
all_above table None count = λ i d low. tt
all_above table (Some key) count =
    All-take (IsAbove (Some key)) count (above (Some key) table) (by_place (IsAbove (Some key)) (above (Some key) table) (passes (λ r. is_lt (key_cmp key r.key)) table))

pub moments_above : (table : List Record) (after : Option RunKey) (count : ℕ) → All HasMoments table → All HasMoments (first_above table after count)
moments_above table None count all = All-take HasMoments count table all
moments_above table (Some key) count all = All-take HasMoments count (above (Some key) table) (All-filter (λ r. is_lt (key_cmp key r.key)) HasMoments table all)

few : {X : Type 0} (n : ℕ) (xs : List X) → length (take n xs) ≤ n
few zero xs = omega arith
few (suc n) [] = omega arith
few (suc n) (x ∷ xs) = let more = few n xs in omega arith

pub few_above : (table : List Record) (after : Option RunKey) (count : ℕ) → length (first_above table after count) ≤ count
few_above table after count = few count (above after table)

-- a put that succeeded, and one that was refused, keep what a table keeps
pub kept_after : {A E : Type 0} (r : Result A E) (old new : List Record) (key : RunKey) (moment : ℕ) (body : List ℕ) → OnOk r (new ≡ put_record old key moment body) → OnErr r (new ≡ old) → moment ≤ greatest_moment
    → IsTable old × All HasMoments old → IsTable new × All HasMoments new
kept_after (Ok x) old new key moment body ok err fits has = rw ok (table_put old key moment body has.0, moments_put old key moment body fits has.1)
kept_after (Err e) old new key moment body ok err fits has = rw err has

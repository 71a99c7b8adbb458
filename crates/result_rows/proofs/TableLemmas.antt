-- Tables of records: the one of a key, those above it, and a put as a list that is given anew.
use Rattle.std.proofs.Common.{◌≡◌, Bool, true, false, ◌||◌, cond, List, [], ◌∷◌, map, filter, Some, refl, sym, ap, subst}
use Rattle.std.specs.List.{AllByRecursion, list_any}
use Rattle.std.specs.List.Sorted.{IsPermutation}
use Rattle.std.specs.Option.{option_to_list}
use Rattle.std.specs.Ordering.{is_eq, is_lt, is_gt, match_ordering, ordering_reverse}
use Rattle.std.specs.declared.cmp.Ordering.{Ordering}
use Rattle.std.specs.declared.cmp.Ordering.TheVariants.{Less, Equal, Greater}
use Rattle.std.proofs.lemmas.List.Sorted.{IsPermutation-refl, IsPermutation-cons, IsPermutation-sym, IsPermutation-trans, IsPermutation-middle}
use Rattle.ps_time.specs.Key.{key_cmp}
use Rattle.ps_time.proofs.KeyLemmas.{key_cmp_total, same_key, key_cmp_same}
use Rattle.ps_time.proofs.SortedLemmas.{below_all}
use Rattle.ps_time.specs.declared.key.RunKey.{RunKey}
use Rattle.result_table.specs.Record.{find_record, IsTable}
use Rattle.result_table.specs.Upsert.{upsert}
use Rattle.result_table.specs.declared.record.Record.{Record}

abbrev pub key_of : Record → RunKey
key_of r = r.key

-- the record has the key
abbrev pub has : RunKey → Record → Bool
has key r = is_eq (key_cmp r.key key)

-- the record with `change` of it in its place, if it has the key
abbrev pub change_if : RunKey → (Record → Record) → Record → Record
change_if key change r = cond (has key r) (change r) r

-- a key below another isn't it, from either side
apart : (a b : RunKey) → key_cmp a b ≡ Less → is_eq (key_cmp b a) ≡ false
apart a b less = rw (key_cmp_total.antisymm b a, less) refl

none_has : (key : RunKey) (xs : List Record) → AllByRecursion (λ r. key_cmp key r.key ≡ Less) xs → list_any (has key) xs ≡ false
none_has key [] all = refl
none_has key (x ∷ xs) all = rw (apart key x.key all.0, none_has key xs all.1) refl

none_kept : (key : RunKey) (xs : List Record) → AllByRecursion (λ r. key_cmp key r.key ≡ Less) xs → filter (has key) xs ≡ []
none_kept key [] all = refl
none_kept key (x ∷ xs) all = rw (apart key x.key all.0) (none_kept key xs all.1)

none_changed : (key : RunKey) (change : Record → Record) (xs : List Record) → AllByRecursion (λ r. key_cmp key r.key ≡ Less) xs → map (change_if key change) xs ≡ xs
none_changed key change [] all = refl
none_changed key change (x ∷ xs) all = rw (apart key x.key all.0) (ap (λ l. x ∷ l) (none_changed key change xs all.1))

-- those that have the key are the one that is found
pub found_alone : (table : List Record) (key : RunKey) → IsTable table → filter (has key) table ≡ option_to_list (find_record table key)
found_alone [] key up = refl
found_alone (x ∷ xs) key up =
    let more = found_alone xs key up.1 in
    let cases = elim (key_cmp x.key key) as (λ c. key_cmp x.key key ≡ c → cond (is_eq c) (x ∷ filter (has key) xs) (filter (has key) xs) ≡ option_to_list (cond (is_eq c) (Some x) (find_record xs key))) [
      | Less ↦ λ is. more
      | Equal ↦ λ is. ap (λ l. x ∷ l) (none_kept key xs (subst (λ k. AllByRecursion (λ r. key_cmp k r.key ≡ Less) xs) (same_key x.key key is) up.0))
      | Greater ↦ λ is. more
    ] in
    cases refl

first_false : (a b : Bool) → a || b ≡ false → a ≡ false
first_false true b is = is
first_false false b is = refl

second_false : (a b : Bool) → a || b ≡ false → b ≡ false
second_false true b is = absurd cc
second_false false b is = is

second_true : (a b : Bool) → a ≡ false → a || b ≡ true → b ≡ true
second_true a b unlike some = rw unlike at some

-- where no record has the key, the new one comes to the others
pub put_new : (table : List Record) (key : RunKey) (new : Record) (change : Record → Record) → list_any (has key) table ≡ false → IsPermutation (new ∷ table) (upsert key_cmp key_of key new change table)
put_new [] key new change none = IsPermutation-refl (new ∷ [])
put_new (x ∷ xs) key new change none =
    let rest = upsert key_cmp key_of key new change xs in
    let more = put_new xs key new change (second_false (has key x) (list_any (has key) xs) none) in
    let cases = elim (key_cmp key x.key) as (λ c. key_cmp key x.key ≡ c → IsPermutation (new ∷ x ∷ xs) (match_ordering c (new ∷ x ∷ xs) (change x ∷ xs) (x ∷ rest))) [
      | Less ↦ λ is. IsPermutation-refl (new ∷ x ∷ xs)
      | Equal ↦ λ is. absurd (let unlike = first_false (has key x) (list_any (has key) xs) none in let there : has key x ≡ true = rw (← same_key key x.key is, key_cmp_same key) refl in cc)
      | Greater ↦ λ is. IsPermutation-trans _ _ _ (IsPermutation-sym _ _ (IsPermutation-middle (x ∷ []) new xs)) (IsPermutation-cons x _ _ more)
    ] in
    cases refl

-- where a record has it, that one is changed in its place
pub put_there : (table : List Record) (key : RunKey) (new : Record) (change : Record → Record) → IsTable table → list_any (has key) table ≡ true → upsert key_cmp key_of key new change table ≡ map (change_if key change) table
put_there [] key new change up some = absurd cc
put_there (x ∷ xs) key new change up some =
    let rest = upsert key_cmp key_of key new change xs in
    let cases = elim (key_cmp key x.key) as (λ c. key_cmp key x.key ≡ c → match_ordering c (new ∷ x ∷ xs) (change x ∷ xs) (x ∷ rest) ≡ change_if key change x ∷ map (change_if key change) xs) [
      | Less ↦ λ is. absurd (let none = none_has key (x ∷ xs) (is, below_all key_cmp_total key_of xs key x.key is up.0) in cc)
      | Equal ↦ λ is.
          let same = same_key key x.key is in
          let here : has key x ≡ true = rw (← same, key_cmp_same key) refl in
          rw (here, none_changed key change xs (subst (λ k. AllByRecursion (λ r. key_cmp k r.key ≡ Less) xs) (sym same) up.0)) refl
      | Greater ↦ λ is.
          let unlike : has key x ≡ false = rw (key_cmp_total.antisymm x.key key, is) refl in
          rw unlike (ap (λ l. x ∷ l) (put_there xs key new change up.1 (second_true (has key x) (list_any (has key) xs) unlike some)))
    ] in
    cases refl

-- above a key, from either side
pub turned : (c : Ordering) → is_gt (ordering_reverse c) ≡ is_lt c
turned Less = refl
turned Equal = refl
turned Greater = refl

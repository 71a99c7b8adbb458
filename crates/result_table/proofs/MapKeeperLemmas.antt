-- A map of records after one more result.
use Rattle.std.proofs.Common.{◌≡◌, ℕ, true, false, ◌&&◌, cond, All, IfSome, ◌-◌, ◌<◌, suc, length, take, length-append, ◌++◌, List, [], ◌∷◌, Option, Some, None, refl, ap, sym, ◌∙◌, arith}
use Rattle.std.proofs.lemmas.List.{append_assoc}
use Rattle.std.specs.BTreeMap.{insert_entry, is_at}
use Rattle.std.specs.BTreeMap.Range.{entries_between}
use Rattle.std.specs.declared.ops.Bound.TheVariants.{Excluded, Unbounded}
use Rattle.std.specs.Map.{keys_of, lookup}
use Rattle.std.specs.List.Sorted.{IsStrictlySortedBy}
use Rattle.std.specs.Ordering.{is_eq, is_lt, match_ordering}
use Rattle.std.specs.declared.cmp.Ordering.TheVariants.{Less, Equal, Greater}
use Rattle.std.proofs.lemmas.Map.{lookup-none}
use Rattle.std.proofs.lemmas.Map.Keys.{sorted_tail}
use Rattle.std.proofs.lemmas.Map.Entries.{none_below_head}
use Rattle.ps_time.specs.Key.{key_cmp}
use Rattle.ps_time.proofs.KeyLemmas.{key_cmp_total, same_key}
use Rattle.ps_time.specs.declared.key.RunKey.{RunKey}
use Rattle.result_table.specs.MapKeeper.{record_of, records_of, since_in}
use Rattle.result_table.specs.Record.{says_good, put_record, find_record, above, HasMoments}
use Rattle.result_table.specs.declared.map_keeper.Stored.{Stored}
use Rattle.result_table.specs.declared.record.Record.{Record}
use Rattle.result_table.proofs.UpsertLemmas.{flipped}
use Rattle.result_table.proofs.RecordLemmas.{by_recursion, found_has}

abbrev pub stored_with : ℕ → ℕ → List ℕ → Stored
stored_with since moment body = record { since = since; latest = moment; good = says_good body; body = body }

pub records_put : (entries : List (RunKey × Stored)) (key : RunKey) (moment since : ℕ) (body : List ℕ) → IsStrictlySortedBy key_cmp (keys_of entries) → since ≡ since_in (lookup (is_at (key_cmp key)) entries) moment
    → records_of (insert_entry key_cmp entries key (stored_with since moment body)) ≡ put_record (records_of entries) key moment body
records_put [] key moment since body up is = rw is refl
records_put (e ∷ es) key moment since body up is =
    let v = stored_with since moment body in
    let rest = insert_entry key_cmp es key v in
    let more = put_record (records_of es) key moment body in
    let cases = elim (key_cmp key e.0) as (λ c. key_cmp key e.0 ≡ c → since ≡ since_in (cond (is_eq c) (Some e.1) (lookup (is_at (key_cmp key)) es)) moment
    → records_of (match_ordering c ((key, v) ∷ e ∷ es) ((e.0, v) ∷ es) (e ∷ rest))
    ≡ match_ordering c (record_of (key, stored_with moment moment body) ∷ record_of e ∷ records_of es) (record_of (e.0, stored_with e.1.since moment body) ∷ records_of es) (record_of e ∷ more)) [
      | Less ↦ λ below is.
          let none : lookup (is_at (key_cmp key)) es ≡ None = lookup-none (is_at (key_cmp key)) es (none_below_head key_cmp_total key e es up below).1 in
          let first : since ≡ moment = is ∙ ap (λ found. since_in found moment) none in
          rw first refl
      | Equal ↦ λ same is. rw is refl
      | Greater ↦ λ over is. ap (λ rs. record_of e ∷ rs) (records_put es key moment since body (sorted_tail key_cmp e.0 (keys_of es) up) is)
    ] in
    cases refl is

-- the record of a key, or that there is none
abbrev pub shown_at : RunKey → Option Stored → Option Record
shown_at key None = None
shown_at key (Some stored) = Some (record_of (key, stored))

pub record_found : (entries : List (RunKey × Stored)) (key : RunKey) → find_record (records_of entries) key ≡ shown_at key (lookup (is_at (key_cmp key)) entries)
record_found [] key = refl
record_found (e ∷ es) key =
    let rest = find_record (records_of es) key in
    let found = lookup (is_at (key_cmp key)) es in
    let cases = elim (key_cmp key e.0) as (λ c. key_cmp key e.0 ≡ c → cond (is_eq c) (Some (record_of e)) rest ≡ shown_at key (cond (is_eq c) (Some e.1) found)) [
      | Less ↦ λ is. record_found es key
      | Equal ↦ λ is. let same : key ≡ e.0 = same_key key e.0 is in rw same refl
      | Greater ↦ λ is. record_found es key
    ] in
    rw (flipped key_cmp_total e.0 key) (cases refl)

-- the entries above a key, and all of them
pub above_key : (entries : List (RunKey × Stored)) (key : RunKey) → records_of (entries_between key_cmp (Excluded key) Unbounded entries) ≡ above (Some key) (records_of entries)
above_key entries key = between entries
  where
    between : (entries : List (RunKey × Stored)) → records_of (entries_between key_cmp (Excluded key) Unbounded entries) ≡ above (Some key) (records_of entries)
    between [] = refl
    between (e ∷ es) =
        let b = is_lt (key_cmp key e.0) in
        let cases = elim b as (λ b. records_of (cond (b && true) (e ∷ entries_between key_cmp (Excluded key) Unbounded es) (entries_between key_cmp (Excluded key) Unbounded es)) ≡ cond b (record_of e ∷ above (Some key) (records_of es)) (above (Some key) (records_of es))) [
          | true ↦ ap (λ rs. record_of e ∷ rs) (between es)
          | false ↦ between es
        ] in
        cases

pub all_between : (entries : List (RunKey × Stored)) → entries_between key_cmp Unbounded Unbounded entries ≡ entries
all_between [] = refl
all_between (e ∷ es) = ap (λ rest. e ∷ rest) (all_between es)

-- what is found in a table has the key, and moments
pub found_bound : (table : List Record) (key : RunKey) (found : Option Record) → All HasMoments table → found ≡ find_record table key → IfSome found (λ r. (r.key ≡ key) × HasMoments r)
found_bound table key None all is = tt
found_bound table key (Some r) all is = found_has table key r (sym is) (by_recursion HasMoments table all)

-- one record more of those that are taken
pub take_step : (n : ℕ) (whole found : List Record) (r : Record) (rest : List Record) → length found < n → whole ≡ found ++ take (n - length found) (r ∷ rest)
    → whole ≡ (found ++ r ∷ []) ++ take (n - length (found ++ r ∷ [])) rest
take_step n whole found r rest room is =
    let one : n - length found ≡ suc (n - length (found ++ r ∷ [])) = let more = length-append found (r ∷ []) in omega (arith, more) in
    is ∙ (ap (λ k. found ++ take k (r ∷ rest)) one ∙ sym (append_assoc found (r ∷ []) (take (n - length (found ++ r ∷ [])) rest)))

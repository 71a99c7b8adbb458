-- A table that takes up attempts one after another is what all of them store.
use Rattle.std.proofs.Common.{◌≡◌, true, false, ◌||◌, cond, List, [], ◌∷◌, ◌++◌, map, append-nil, refl, ap, sym, subst, ◌∙◌}
use Rattle.std.specs.List.{list_any, fold}
use Rattle.std.specs.Ordering.{is_eq}
use Rattle.std.specs.declared.cmp.Ordering.TheVariants.{Equal}
use Rattle.std.proofs.lemmas.List.{map-append, append_assoc}
use Rattle.std.proofs.lemmas.List.Elements.{filter-append}
use Rattle.ps_time.specs.Key.{key_cmp}
use Rattle.ps_time.specs.declared.key.RunKey.{RunKey}
use Rattle.ps_time.proofs.KeyLemmas.{key_cmp_total, same_key, key_cmp_same}
use Rattle.result_table.specs.Record.{first_record, renewed, put_record}
use Rattle.result_table.specs.Stored.{Delivery, has_succeeded, succeeded, attempts_of, last_behind, record_from, record_of, stored, after_delivery}
use Rattle.result_table.specs.Upsert.{occurring}
use Rattle.result_table.specs.declared.record.Record.{Record}
use Rattle.result_table.proofs.UpsertLemmas.{upsert-map, occurring-more, ascending-occurring, any_occurring, flipped}

abbrev key_of : Delivery → RunKey
key_of a = a.key

record_keyed : (key : RunKey) (attempts : List Delivery) → (record_of key attempts).key ≡ key
record_keyed key [] = refl
record_keyed key (first ∷ more) = refl

last_more : (first : Delivery) (more : List Delivery) (a : Delivery) → last_behind first (more ++ a ∷ []) ≡ a
last_more first [] a = refl
last_more first (next ∷ more) a = last_more next more a

-- no attempt is of a key that doesn't occur
none_of : (key : RunKey) (attempts : List Delivery) → list_any (λ j. is_eq (key_cmp key j)) (map key_of attempts) ≡ false → attempts_of key attempts ≡ []
none_of key [] none = refl
none_of key (a ∷ more) none =
    let cases = elim (is_eq (key_cmp key a.key)) as (λ b. b || list_any (λ j. is_eq (key_cmp key j)) (map key_of more) ≡ false → cond b (a ∷ attempts_of key more) (attempts_of key more) ≡ []) [
      | true ↦ λ none. absurd cc
      | false ↦ λ none. none_of key more none
    ] in
    cases none

some_of : (key : RunKey) (attempts : List Delivery) → list_any (λ j. is_eq (key_cmp key j)) (map key_of attempts) ≡ true → (first : Delivery) × (more : List Delivery) × (attempts_of key attempts ≡ first ∷ more)
some_of key [] any = absurd cc
some_of key (a ∷ more) any =
    let cases = elim (is_eq (key_cmp key a.key)) as (λ b. b || list_any (λ j. is_eq (key_cmp key j)) (map key_of more) ≡ true → (first : Delivery) × (rest : List Delivery) × (cond b (a ∷ attempts_of key more) (attempts_of key more) ≡ first ∷ rest)) [
      | true ↦ λ any. (a, attempts_of key more, refl)
      | false ↦ λ any. some_of key more any
    ] in
    cases any

alike : (key i j : RunKey) → key_cmp i j ≡ Equal → is_eq (key_cmp key i) ≡ is_eq (key_cmp key j)
alike key i j same = rw (same_key i j same) refl

-- the record of each key, after one attempt more that succeeded
module _ (all : List Delivery) (a : Delivery) where
  abbrev item : RunKey → Record
  item j = record_of j (attempts_of j all)

  abbrev next : RunKey → Record
  next j = record_of j (attempts_of j (all ++ a ∷ []))

  abbrev keys : List RunKey
  keys = occurring key_cmp (map key_of all)

  stay : (j : RunKey) → is_eq (key_cmp a.key j) ≡ false → next j ≡ item j
  stay j other =
      let apart : attempts_of j (a ∷ []) ≡ [] = rw (flipped key_cmp_total j a.key, other) refl in
      ap (record_of j) (filter-append (λ x. is_eq (key_cmp j x.key)) all (a ∷ []) ∙ rw apart (append-nil (attempts_of j all)))

  here : attempts_of a.key (all ++ a ∷ []) ≡ attempts_of a.key all ++ a ∷ []
  here = filter-append (λ x. is_eq (key_cmp a.key x.key)) all (a ∷ []) ∙ rw (key_cmp_same a.key) refl

  fresh : list_any (λ j. is_eq (key_cmp a.key j)) keys ≡ false → next a.key ≡ first_record a.key a.moment a.body
  fresh none =
      let absent = none_of a.key all (sym (any_occurring (λ j. is_eq (key_cmp a.key j)) (alike a.key) (map key_of all)) ∙ none) in
      let alone : attempts_of a.key (all ++ a ∷ []) ≡ a ∷ [] = rw (here, absent) refl in
      ap (record_of a.key) alone

  known : (j : RunKey) → key_cmp a.key j ≡ Equal → list_any (λ i. is_eq (key_cmp a.key i)) keys ≡ true → next j ≡ renewed a.moment a.body (item j)
  known j same any = subst (λ i. next i ≡ renewed a.moment a.body (item i)) (same_key a.key j same) at_key
    where
      at_key : next a.key ≡ renewed a.moment a.body (item a.key)
      at_key =
          let there = some_of a.key all (sym (any_occurring (λ i. is_eq (key_cmp a.key i)) (alike a.key) (map key_of all)) ∙ any) in
          let after : attempts_of a.key (all ++ a ∷ []) ≡ there.0 ∷ (there.1 ++ a ∷ []) = rw (here, there.2) refl in
          let before : item a.key ≡ record_from a.key there.0 (last_behind there.0 there.1) = ap (record_of a.key) there.2 in
          ap (record_of a.key) after ∙ (ap (record_from a.key there.0) (last_more there.0 there.1 a) ∙ sym (ap (renewed a.moment a.body) before))

  put_more : map next (occurring key_cmp (map key_of (all ++ a ∷ []))) ≡ put_record (map item keys) a.key a.moment a.body
  put_more =
      ap (map next) (ap (occurring key_cmp) (map-append key_of all (a ∷ [])) ∙ occurring-more key_cmp_total (map key_of all) a.key)
      ∙ upsert-map key_cmp_total (λ r. r.key) a.key (first_record a.key a.moment a.body) (renewed a.moment a.body) item next (λ j. record_keyed j (attempts_of j all)) stay keys
      (ascending-occurring key_cmp_total (map key_of all)) fresh known

one_more : (done : List Delivery) (a : Delivery) → stored (done ++ a ∷ []) ≡ after_delivery (stored done) a
one_more done a =
    let both = filter-append (λ x. has_succeeded x.outcome) done (a ∷ []) in
    let cases = elim (has_succeeded a.outcome) as (λ b. succeeded (done ++ a ∷ []) ≡ succeeded done ++ cond b (a ∷ []) [] → stored (done ++ a ∷ []) ≡ cond b (put_record (stored done) a.key a.moment a.body) (stored done)) [
      | true ↦ λ both. rw both (put_more (succeeded done) a)
      | false ↦ λ both. let same : succeeded (done ++ a ∷ []) ≡ succeeded done = both ∙ append-nil (succeeded done) in rw same refl
    ] in
    cases both

from : (done attempts : List Delivery) → fold after_delivery (stored done) attempts ≡ stored (done ++ attempts)
from done [] = ap stored (sym (append-nil done))
from done (a ∷ more) = rw (← one_more done a) (from (done ++ a ∷ []) more ∙ ap stored (append_assoc done (a ∷ []) more))

pub all_stored : (attempts : List Delivery) → fold after_delivery [] attempts ≡ stored attempts
all_stored attempts = from [] attempts

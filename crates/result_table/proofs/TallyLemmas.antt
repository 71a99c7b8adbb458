-- Counts of records, kept one record after another, are those of filters over all records.
use Rattle.std.proofs.Common.{◌≡◌, ℕ, ◌+◌, Bool, true, false, not, ◌||◌, cond, List, [], ◌∷◌, ◌++◌, length, map, Some, append-nil, refl, ap, sym, ◌∙◌, arith}
use Rattle.std.specs.BTreeMap.{insert_entry, is_at}
use Rattle.std.specs.Cmp.{IsTotalOrder}
use Rattle.std.specs.List.{list_any, filter}
use Rattle.std.specs.Map.{lookup}
use Rattle.std.specs.Option.{unwrap_or}
use Rattle.std.specs.Ordering.{is_eq}
use Rattle.std.specs.declared.cmp.Ordering.{Ordering}
use Rattle.std.specs.declared.cmp.Ordering.TheVariants.{Less, Equal, Greater}
use Rattle.std.proofs.lemmas.List.{map-append}
use Rattle.std.proofs.lemmas.List.Elements.{filter-append}
use Rattle.ps_ports.specs.Causes.{counted, raised}
use Rattle.result_table.specs.Tally.{counts_of, records_at, counts_by, none_counted, counted_one, counted_in}
use Rattle.result_table.specs.Upsert.{upsert, occurring}
use Rattle.result_table.specs.declared.record.Record.{Record}
use Rattle.result_table.specs.declared.tally.Counts.{Counts}
use Rattle.result_table.proofs.UpsertLemmas.{upsert-map, occurring-more, ascending-occurring, any_occurring, flipped, same_self}

-- ---- counts

-- how many pass a test, after one more
passing_more : (p : Record → Bool) (rs : List Record) (r : Record) → length (filter p (rs ++ r ∷ [])) ≡ length (filter p rs) + cond (p r) 1 0
passing_more p [] r = elim (p r) as (λ b. length (cond b (r ∷ []) []) ≡ length (filter p []) + cond b 1 0) [ true ↦ refl | false ↦ refl ]
passing_more p (x ∷ rs) r = elim (p x) as (λ b. length (cond b (x ∷ filter p (rs ++ r ∷ [])) (filter p (rs ++ r ∷ []))) ≡ length (cond b (x ∷ filter p rs) (filter p rs)) + cond (p r) 1 0) [
  | true ↦ let more = passing_more p rs r in omega arith
  | false ↦ passing_more p rs r
]

all_more : (rs : List Record) (r : Record) → length (rs ++ r ∷ []) ≡ length rs + 1
all_more [] r = refl
all_more (x ∷ rs) r = let more = all_more rs r in omega arith

counted_more : (n : ℕ) → counted (n + 1) ≡ raised (counted n)
counted_more n = omega arith

counted_same : (n : ℕ) → counted (n + 0) ≡ counted n
counted_same n = omega arith

abbrev counts : ℕ → ℕ → ℕ → Counts
counts records good others = record { records = records; good = good; others = others }

counted_as : (n g o : ℕ) (b : Bool) → counts (counted (n + 1)) (counted (g + cond b 1 0)) (counted (o + cond (not b) 1 0)) ≡ counted_one (counts (counted n) (counted g) (counted o)) b
counted_as n g o true =
    ap (λ x. counts x (counted (g + 1)) (counted (o + 0))) (counted_more n)
    ∙ (ap (λ x. counts (raised (counted n)) x (counted (o + 0))) (counted_more g) ∙ ap (λ x. counts (raised (counted n)) (raised (counted g)) x) (counted_same o))
counted_as n g o false =
    ap (λ x. counts x (counted (g + 0)) (counted (o + 1))) (counted_more n)
    ∙ (ap (λ x. counts (raised (counted n)) x (counted (o + 1))) (counted_same g) ∙ ap (λ x. counts (raised (counted n)) (counted g) x) (counted_more o))

pub counts_more : (rs : List Record) (r : Record) → counts_of (rs ++ r ∷ []) ≡ counted_one (counts_of rs) r.good
counts_more rs r =
    rw (all_more rs r, passing_more (λ x. x.good) rs r, passing_more (λ x. not x.good) rs r)
    (counted_as (length rs) (length (filter (λ x. x.good) rs)) (length (filter (λ x. not x.good) rs)) r.good)

-- ---- by a key

insert-upsert : {K X : Type 0} (cmp : K → K → Ordering) (es : List (K × X)) (k : K) (v : X) → upsert cmp (λ e. e.0) k (k, v) (λ e. (e.0, v)) es ≡ insert_entry cmp es k v
insert-upsert cmp [] k v = refl
insert-upsert cmp (e ∷ es) k v = rw (insert-upsert cmp es k v) refl

module _ {K : Type 0} {cmp : K → K → Ordering} (o : IsTotalOrder cmp) (group : Record → K) where
  alike : (k i j : K) → cmp i j ≡ Equal → is_eq (cmp k i) ≡ is_eq (cmp k j)
  alike k i j same = rw (o.antisymm k i, o.congr i j k same, ← o.antisymm k j) refl

  -- equal keys have the same records
  same_records : (rs : List Record) (i j : K) → cmp i j ≡ Equal → records_at cmp group rs i ≡ records_at cmp group rs j
  same_records [] i j same = refl
  same_records (r ∷ rs) i j same = rw (o.congr i j (group r) same, same_records rs i j same) refl

  -- a key that doesn't occur has none
  no_records : (rs : List Record) (k : K) → list_any (λ j. is_eq (cmp k j)) (map group rs) ≡ false → records_at cmp group rs k ≡ []
  no_records [] k none = refl
  no_records (r ∷ rs) k none =
      let cases = elim (is_eq (cmp k (group r))) as (λ b. b || list_any (λ j. is_eq (cmp k j)) (map group rs) ≡ false → cond b (r ∷ records_at cmp group rs k) (records_at cmp group rs k) ≡ []) [
        | true ↦ λ none. absurd cc
        | false ↦ λ none. no_records rs k none
      ] in
      cases none

  found_in : (counts : K → Counts) (k : K) → ((j : K) → cmp k j ≡ Equal → counts j ≡ counts k) → (ks : List K) → (list_any (λ j. is_eq (cmp k j)) ks ≡ false → counts k ≡ none_counted)
      → unwrap_or (lookup (is_at (cmp k)) (map (λ j. (j, counts j)) ks)) none_counted ≡ counts k
  found_in counts k same [] absent = sym (absent refl)
  found_in counts k same (j ∷ js) absent =
      let rest = lookup (is_at (cmp k)) (map (λ i. (i, counts i)) js) in
      let cases = elim (cmp k j) as (λ c. cmp k j ≡ c → (is_eq c || list_any (λ i. is_eq (cmp k i)) js ≡ false → counts k ≡ none_counted) → unwrap_or (cond (is_eq c) (Some (counts j)) rest) none_counted ≡ counts k) [
        | Less ↦ λ is absent. found_in counts k same js absent
        | Equal ↦ λ is absent. same j is
        | Greater ↦ λ is absent. found_in counts k same js absent
      ] in
      cases refl absent

  -- the counts of a key are found under it
  found_counts : (rs : List Record) (k : K) → unwrap_or (lookup (is_at (cmp k)) (counts_by cmp group rs)) none_counted ≡ counts_of (records_at cmp group rs k)
  found_counts rs k =
      found_in (λ j. counts_of (records_at cmp group rs j)) k (λ j same. ap counts_of (sym (same_records rs k j same))) (occurring cmp (map group rs)) (λ none.
      ap counts_of (no_records rs k (sym (any_occurring (λ j. is_eq (cmp k j)) (alike k) (map group rs)) ∙ none)))

  records_more : (rs : List Record) (r : Record) (k : K) → records_at cmp group (rs ++ r ∷ []) k ≡ records_at cmp group rs k ++ cond (is_eq (cmp k (group r))) (r ∷ []) []
  records_more rs r k = filter-append (λ x. is_eq (cmp k (group x))) rs (r ∷ [])

  entry : (k : K) {a b : Counts} → a ≡ b → ◌≡◌ {A = K × Counts} (k, a) (k, b)
  entry k same = rw same refl

  pair : (k : K) {xs ys : List Record} → xs ≡ ys → ◌≡◌ {A = K × Counts} (k, counts_of xs) (k, counts_of ys)
  pair k same = rw same refl

  -- after one record more
  pub counts_by_more : (rs : List Record) (r : Record) → counts_by cmp group (rs ++ r ∷ []) ≡ counted_in cmp (counts_by cmp group rs) (group r) r.good
  counts_by_more rs r =
      let k = group r in
      let v = counted_one (counts_of (records_at cmp group rs k)) r.good in
      let item : K → K × Counts = λ j. (j, counts_of (records_at cmp group rs j)) in
      let next : K → K × Counts = λ j. (j, counts_of (records_at cmp group (rs ++ r ∷ []) j)) in
      let at_key : (j : K) → cmp k j ≡ Equal → counts_of (records_at cmp group (rs ++ r ∷ []) j) ≡ v = λ j same.
      let here : records_at cmp group (rs ++ r ∷ []) k ≡ records_at cmp group rs k ++ r ∷ [] = records_more rs r k ∙ ap (λ c. records_at cmp group rs k ++ cond (is_eq c) (r ∷ []) []) (same_self o k) in
      ap counts_of (sym (same_records (rs ++ r ∷ []) k j same) ∙ here) ∙ counts_more (records_at cmp group rs k) r in
      let stay : (j : K) → is_eq (cmp k j) ≡ false → next j ≡ item j = λ j other.
      let same : records_at cmp group (rs ++ r ∷ []) j ≡ records_at cmp group rs j = records_more rs r j ∙ (ap (λ b. records_at cmp group rs j ++ cond b (r ∷ []) []) (flipped o j k ∙ other) ∙ append-nil (records_at cmp group rs j)) in pair j same in
      ap (map next) (ap (occurring cmp) (map-append group rs (r ∷ [])) ∙ occurring-more o (map group rs) k)
      ∙ (upsert-map o (λ e. e.0) k (k, v) (λ e. (e.0, v)) item next (λ j. refl) stay (occurring cmp (map group rs)) (ascending-occurring o (map group rs))
      (λ none. entry k (at_key k (same_self o k))) (λ j same any. entry j (at_key j same))
      ∙ (insert-upsert cmp (counts_by cmp group rs) k v ∙ ap (λ c. insert_entry cmp (counts_by cmp group rs) k (counted_one c r.good)) (sym (found_counts rs k))))

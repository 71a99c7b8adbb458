-- Rows that are records, in the order of their keys.
use Rattle.std.proofs.Common.{◌≡◌, ℕ, zero, suc, ◌+◌, ◌<◌, ◌≤◌, Bool, true, false, ◌&&◌, List, [], ◌∷◌, ◌++◌, length, drop, get_or, append-nil, map, Option, Some, None, IfSome, All, refl, sym, ap, ap₂, subst, ◌∙◌, arith}
use Rattle.std.proofs.lemmas.List.{append_assoc}
use Rattle.sqlite.specs.Order.{Row}
use Rattle.std.specs.List.{AllByRecursion}
use Rattle.std.specs.Cmp.Lexicographic.{slice_cmp}
use Rattle.std.specs.Option.{option_to_list}
use Rattle.std.specs.Ordering.{is_lt, nat_cmp}
use Rattle.std.specs.declared.cmp.Ordering.{Ordering}
use Rattle.std.specs.declared.cmp.Ordering.TheVariants.{Less, Equal, Greater}
use Rattle.ps_time.specs.Key.{key_cmp}
use Rattle.ps_time.specs.Id.{InRange}
use Rattle.ps_time.specs.declared.id.Id.TheVariants.{Run}
use Rattle.ps_time.proofs.KeyLemmas.{key_cmp_total, same_key, key_cmp_same}
use Rattle.ps_time.specs.declared.key.RunKey.{RunKey}
use Rattle.result_keeper.specs.Row.{is_further, in_order, AreRowsOf, IsFound}
use Rattle.result_rows.specs.Rows.{number_of, key_text, columns_of, HasKey, IsRowOf}
use Rattle.result_rows.proofs.SelectLemmas.{texts}
use Rattle.result_table.specs.Record.{IsTable, IsAbove}
use Rattle.result_table.specs.declared.record.Record.{Record}
use Rattle.result_table.proofs.RecordLemmas.{by_place}

both : (a b : Bool) → a && b ≡ true → (a ≡ true) × (b ≡ true)
both true true is = (refl, refl)
both true false is = absurd cc
both false b is = absurd cc

less_is : (c : Ordering) → is_lt c ≡ true → c ≡ Less
less_is Less is = refl
less_is Equal is = absurd cc
less_is Greater is = absurd cc

-- all are above the key
above_all : (key : RunKey) (rs : List Record) → in_order (Some key) rs ≡ true → AllByRecursion (λ r. key_cmp key r.key ≡ Less) rs
above_all key [] is = tt
above_all key (r ∷ rs) is =
    let parts = both (is_lt (key_cmp key r.key)) (in_order (Some r.key) rs) is in
    let first = less_is (key_cmp key r.key) parts.0 in
    (first, further_all key r.key rs first (above_all r.key rs parts.1))
  where
    further_all : (a b : RunKey) (rs : List Record) → key_cmp a b ≡ Less → AllByRecursion (λ r. key_cmp b r.key ≡ Less) rs → AllByRecursion (λ r. key_cmp a r.key ≡ Less) rs
    further_all a b [] below all = tt
    further_all a b (x ∷ xs) below all = (key_cmp_total.trans a b x.key below all.0, further_all a b xs below all.1)

-- so they are a table
pub order_is_table : (after : Option RunKey) (rs : List Record) → in_order after rs ≡ true → IsTable rs
order_is_table after [] is = tt
order_is_table after (r ∷ rs) is =
    let rest = (both (is_further after r.key) (in_order (Some r.key) rs) is).1 in
    (above_all r.key rs rest, order_is_table (Some r.key) rs rest)

weaker : (key : RunKey) (rs : List Record) → AllByRecursion (λ r. key_cmp key r.key ≡ Less) rs → AllByRecursion (IsAbove (Some key)) rs
weaker key [] all = tt
weaker key (r ∷ rs) all = (rw all.0 refl, weaker key rs all.1)

any : (rs : List Record) → AllByRecursion (IsAbove None) rs
any [] = tt
any (r ∷ rs) = (tt, any rs)

-- above the key that was given
pub order_is_above : (after : Option RunKey) (rs : List Record) → in_order after rs ≡ true → All (IsAbove after) rs
order_is_above None rs is = by_place (IsAbove None) rs (any rs)
order_is_above (Some key) rs is = by_place (IsAbove (Some key)) rs (weaker key rs (above_all key rs is))

-- ---- rows that are read one after another

drop_one : (rows : List Row) (i : ℕ) (d : Row) → i < length rows → drop i rows ≡ get_or rows i d ∷ drop (i + 1) rows
drop_one [] i d within = absurd (omega arith)
drop_one (x ∷ xs) zero d within = refl
drop_one (x ∷ xs) (suc i) d within = let e : suc i + 1 ≡ suc (i + 1) = omega arith in rw e (drop_one xs i d (omega arith))

drop_none : (rows : List Row) (i : ℕ) → length rows ≤ i → drop i rows ≡ []
drop_none [] zero over = refl
drop_none [] (suc i) over = refl
drop_none (x ∷ xs) zero over = absurd (omega arith)
drop_none (x ∷ xs) (suc i) over = drop_none xs i (omega arith)

-- one row more was read
pub rows_more : (rows : List Row) (i : ℕ) (d : Row) (found : List Record) (r : Record) → i < length rows → IsRowOf (get_or rows i d) r → ((rest : List Record) → AreRowsOf (drop i rows) rest → AreRowsOf rows (found ++ rest))
    → (rest : List Record) → AreRowsOf (drop (i + 1) rows) rest → AreRowsOf rows ((found ++ r ∷ []) ++ rest)
rows_more rows i d found r within is all rest more =
    let front : AreRowsOf (drop i rows) (r ∷ rest) = subst (λ xs. AreRowsOf xs (r ∷ rest)) (sym (drop_one rows i d within)) (is, more) in
    subst (AreRowsOf rows) (sym (append_assoc found (r ∷ []) rest)) (all (r ∷ rest) front)

-- all were read
pub rows_end : (rows : List Row) (i : ℕ) (found : List Record) → length rows ≤ i → ((rest : List Record) → AreRowsOf (drop i rows) rest → AreRowsOf rows (found ++ rest)) → AreRowsOf rows found
rows_end rows i found over all =
    let none : AreRowsOf (drop i rows) [] = subst (λ xs. AreRowsOf xs []) (sym (drop_none rows i over)) tt in
    subst (AreRowsOf rows) (append-nil found) (all [] none)

-- ---- rows of a table's records are read as these

same_flag : (a b : Bool) → number_of a ≡ number_of b → a ≡ b
same_flag true true is = refl
same_flag true false is = absurd (omega (arith, is))
same_flag false true is = absurd (omega (arith, is))
same_flag false false is = refl

same_text : (a b : RunKey) → InRange (Run a) → InRange (Run b) → key_text a ≡ key_text b → a ≡ b
same_text a b ra rb is = same_key a b (sym (texts a b ra rb) ∙ ap (slice_cmp nat_cmp (key_text a)) (sym is) ∙ texts a a ra ra ∙ key_cmp_same a)

pub same_record : (r s : Record) → HasKey r → IsRowOf (columns_of r) s → s ≡ r
same_record r s range is =
    let texts_are : key_text s.key ≡ key_text r.key = let e = is.key in cc in
    let key : s.key ≡ r.key = same_text s.key r.key is.range range texts_are in
    let since : s.since ≡ r.since = let e = is.since in cc in
    let latest : s.latest ≡ r.latest = let e = is.latest in cc in
    let flags : number_of s.good ≡ number_of r.good = let e = is.good in cc in
    let good : s.good ≡ r.good = same_flag s.good r.good flags in
    let body : s.body ≡ r.body = let e = is.body in cc in
    λ i. record { key = key i; since = since i; latest = latest i; good = good i; body = body i }

-- those of one key
pub found_is : (o found : Option Record) (rows : List Row) → IfSome o HasKey → rows ≡ map columns_of (option_to_list o) → IsFound rows found → found ≡ o
found_is None None rows keys are is = refl
found_is None (Some s) rows keys are is = absurd (let e : [] ≡ is.0 ∷ [] = sym are ∙ is.1 in cc)
found_is (Some r) None rows keys are is = absurd (let e : [] ≡ columns_of r ∷ [] = sym is ∙ are in cc)
found_is (Some r) (Some s) rows keys are is =
    let e : columns_of r ∷ [] ≡ is.0 ∷ [] = sym are ∙ is.1 in
    let row : is.0 ≡ columns_of r = cc in
    ap Some (same_record r s keys (subst (λ x. IsRowOf x s) row is.2))

-- and those of many
read_as : (table records : List Record) → AllByRecursion HasKey table → AreRowsOf (map columns_of table) records → records ≡ table
read_as [] [] keys are = refl
read_as [] (s ∷ records) keys are = absurd are
read_as (r ∷ table) [] keys are = absurd are
read_as (r ∷ table) (s ∷ records) keys are = ap₂ ◌∷◌ (same_record r s keys.0 are.0) (read_as table records keys.1 are.1)

pub listed_is : (table records : List Record) (rows : List Row) → AllByRecursion HasKey table → rows ≡ map columns_of table → AreRowsOf rows records → records ≡ table
listed_is table records rows keys is are = read_as table records keys (subst (λ x. AreRowsOf x records) is are)

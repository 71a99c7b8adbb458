-- Records with the numbers of their rows, as rows come and are changed.
use Rattle.std.proofs.Common.{◌≡◌, inl, inr, ℤ, ◌<ℤ◌, ◌+ℤ◌, pos, true, false, not, cond, List, [], ◌∷◌, map, filter, fold, length, ◌≤◌, refl, sym, ap, ap₂, subst, ◌∙◌, arith, int_cmp, int_eq, Greater}
use Rattle.std.specs.List.{AllByRecursion}
use Rattle.std.proofs.lemmas.Int.{ints}
use Rattle.sqlite_keyed.specs.Keyed.{IsKeyedBy, insert_by}
use Rattle.sqlite_keyed.specs.Lists.{without_key}
use Rattle.sqlite_keyed.proofs.ListLemmas.{all_weaker, filter_all, filter_none}
use Rattle.sqlite_keyed.proofs.KeyedLemmas.{Less-from_lt}
use Rattle.sqlite_rules.specs.Edit.{id_in}
use Rattle.sqlite_rules.specs.Lists.{Has}
use Rattle.sqlite_rules.proofs.ListLemmas.{all_has}
use Rattle.sqlite_trees.specs.Tree.{rowid}
use Rattle.sqlite.specs.Order.{Row}
use Rattle.result_rows.specs.Rows.{Numbered, number, kept, row_of}
use Rattle.result_table.specs.declared.record.Record.{Record}

-- the entry with `f` of its record, if it has the number
abbrev pub change_at : ℤ → (Record → Record) → Numbered → Numbered
change_at id f x = cond (int_eq x.0 id) (x.0, f x.1) x

none_at : (id : ℤ) (f : Record → Record) (xs : List Numbered) → AllByRecursion (λ x. id <ℤ number x) xs → map (change_at id f) xs ≡ xs
none_at id f [] all = refl
none_at id f (x ∷ xs) all =
    let over = all.0 in
    let unlike : int_eq (number x) id ≡ false = grind (arith, ints) in
    rw unlike (ap (λ l. x ∷ l) (none_at id f xs all.1))

before_all : (new : Numbered) (xs : List Numbered) → AllByRecursion (λ x. number new <ℤ number x) xs → insert_by number xs new ≡ new ∷ xs
before_all new [] all = refl
before_all new (x ∷ xs) all =
    let over = all.0 in
    let is : int_cmp (number x) (number new) ≡ Greater = grind (arith, ints) in
    rw is refl

-- a row that is taken out and put back changed is changed in its place
pub put_over : (f : Record → Record) (xs : List Numbered) (e : Numbered) → IsKeyedBy number xs → Has xs e → insert_by number (without_key number xs e.0) (e.0, f e.1) ≡ map (change_at e.0 f) xs
put_over f [] e up has = absurd has
put_over f (x ∷ xs) e up (inl same) =
    let here : int_eq x.0 x.0 ≡ true = grind (arith, ints) in
    let others = filter_all (λ y. not (int_eq (number y) x.0)) xs (all_weaker _ (λ y. not (int_eq (number y) x.0) ≡ true) (λ y h. grind (arith, ints)) xs up.0) in
    let gone : without_key number (x ∷ xs) x.0 ≡ xs = rw here others in
    let after : insert_by number (without_key number (x ∷ xs) x.0) (x.0, f x.1) ≡ map (change_at x.0 f) (x ∷ xs) =
    ap (λ l. insert_by number l (x.0, f x.1)) gone ∙ before_all (x.0, f x.1) xs up.0 ∙ rw (here, none_at x.0 f xs up.0) refl in
    subst (λ y. insert_by number (without_key number (x ∷ xs) y.0) (y.0, f y.1) ≡ map (change_at y.0 f) (x ∷ xs)) (sym same) after
put_over f (x ∷ xs) e up (inr later) =
    let below = all_has (λ y. number x <ℤ number y) xs e up.0 later in
    let unlike : int_eq (number x) (number e) ≡ false = grind (arith, ints) in
    let less = Less-from_lt (number x) (number e) below in
    rw (unlike, less) (ap (λ l. x ∷ l) (put_over f xs e up.1 later))

-- no two have one number
pub same_number : (xs : List Numbered) (a b : Numbered) → IsKeyedBy number xs → Has xs a → Has xs b → int_eq (number a) (number b) ≡ true → a ≡ b
same_number [] a b up in_a in_b same = absurd in_a
same_number (x ∷ xs) a b up (inl first) (inl second) same = first ∙ sym second
same_number (x ∷ xs) a b up (inl first) (inr second) same =
    absurd (let below = all_has (λ y. number x <ℤ number y) xs b up.0 second in let is : number a ≡ number x = ap number first in let unlike : int_eq (number a) (number b) ≡ false = grind (arith, ints) in cc)
same_number (x ∷ xs) a b up (inr first) (inl second) same =
    absurd (let below = all_has (λ y. number x <ℤ number y) xs a up.0 first in let is : number b ≡ number x = ap number second in let unlike : int_eq (number a) (number b) ≡ false = grind (arith, ints) in cc)
same_number (x ∷ xs) a b up (inr first) (inr second) same = same_number xs a b up.1 first second same

-- the number that is chosen for a row is one above the last
pub next_is : (a : ℤ) (xs : List Numbered) → fold (λ _ r. id_in (rowid r) +ℤ pos 1) a (map row_of xs) ≡ fold (λ _ x. number x +ℤ pos 1) a xs
next_is a [] = refl
next_is a (x ∷ xs) = next_is (number x +ℤ pos 1) xs

-- what is among the rows is the row of an entry
pub entry_has : (xs : List Numbered) (row : Row) → Has (map row_of xs) row → (e : Numbered) × Has xs e × (row ≡ row_of e)
entry_has [] row has = absurd has
entry_has (x ∷ xs) row (inl is) = (x, inl refl, is)
entry_has (x ∷ xs) row (inr later) = let more = entry_has xs row later in (more.0, inr more.1, more.2)

pub row_has : (xs : List Numbered) (e : Numbered) → Has xs e → Has (map row_of xs) (row_of e)
row_has [] e has = absurd has
row_has (x ∷ xs) e (inl is) = inl (ap row_of is)
row_has (x ∷ xs) e (inr later) = inr (row_has xs e later)

-- the entries that have the number of one of them are that one
pub only_one : (xs : List Numbered) (e : Numbered) → IsKeyedBy number xs → Has xs e → filter (λ x. int_eq (number x) (number e)) xs ≡ e ∷ []
only_one [] e up has = absurd has
only_one (x ∷ xs) e up (inl same) =
    let here : int_eq x.0 x.0 ≡ true = grind (arith, ints) in
    let others = filter_none (λ y. int_eq (number y) x.0) xs (all_weaker _ (λ y. int_eq (number y) x.0 ≡ false) (λ y h. grind (arith, ints)) xs up.0) in
    let after : filter (λ y. int_eq (number y) x.0) (x ∷ xs) ≡ x ∷ [] = rw here (ap (λ l. x ∷ l) others) in
    subst (λ y. filter (λ z. int_eq (number z) (number y)) (x ∷ xs) ≡ y ∷ []) (sym same) after
only_one (x ∷ xs) e up (inr later) =
    let below = all_has (λ y. number x <ℤ number y) xs e up.0 later in
    let unlike : int_eq (number x) (number e) ≡ false = grind (arith, ints) in
    rw unlike (only_one xs e up.1 later)

pub kept_has : (xs : List Numbered) (r : Record) → Has (map kept xs) r → (e : Numbered) × Has xs e × (r ≡ kept e)
kept_has [] r has = absurd has
kept_has (x ∷ xs) r (inl is) = (x, inl refl, is)
kept_has (x ∷ xs) r (inr later) = let more = kept_has xs r later in (more.0, inr more.1, more.2)

pub has_record : (xs : List Numbered) (e : Numbered) → Has xs e → Has (map kept xs) (kept e)
has_record [] e has = absurd has
has_record (x ∷ xs) e (inl is) = inl (ap kept is)
has_record (x ∷ xs) e (inr later) = inr (has_record xs e later)

-- of at most one item
pub alone : {X : Type 0} (ys : List X) (a b : X) → length ys ≤ 1 → Has ys a → Has ys b → a ≡ b
alone [] a b few in_a in_b = absurd in_a
alone (y ∷ []) a b few (inl first) (inl second) = first ∙ sym second
alone (y ∷ []) a b few (inl first) (inr second) = absurd second
alone (y ∷ []) a b few (inr first) in_b = absurd first
alone (y ∷ z ∷ ys) a b few in_a in_b = absurd (omega (arith, few))

pub map_alike : {A B : Type 0} (f g : A → B) (xs : List A) → AllByRecursion (λ x. f x ≡ g x) xs → map f xs ≡ map g xs
map_alike f g [] all = refl
map_alike f g (x ∷ xs) all = ap₂ ◌∷◌ all.0 (map_alike f g xs all.1)

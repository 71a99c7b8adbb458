-- What a stable sort makes of lines with different keys is the lines in order.
use Rattle.std.proofs.Common.{◌≡◌, ◌+◌, List, [], ◌∷◌, ◌++◌, Bool, cond, true, false, refl, ap, sym, ◌∙◌, append-nil, rules}
use Rattle.std.specs.List.{filter, AllByRecursion}
use Rattle.std.specs.List.Sorted.{IsSortedBy, IsStableBy, ties}
use Rattle.std.specs.declared.cmp.Ordering.{Ordering}
use Rattle.std.specs.declared.cmp.Ordering.TheVariants.{Less, Equal, Greater}
use Rattle.std.specs.Ordering.{is_lt, ordering_then, nat_cmp}
use Rattle.std.specs.Cmp.{IsTotalOrder, IsStrictWeakOrder}
use Rattle.std.specs.Cmp.Rules.{comparing}
use Rattle.std.proofs.lemmas.List.Sorted.{ranks_by}
use Rattle.ps_time.specs.Key.{key_cmp}
use Rattle.ps_time.proofs.KeyLemmas.{key_cmp_total}
use Rattle.host_model.specs.Views.{in_order, line_cmp}
use Rattle.host_model.specs.declared.view.Line.{Line}
use Rattle.host_pages.specs.Walks.{HaveKeysAscending}
use Rattle.run_states.proofs.StableLemmas.{Rising, rising_sorted, rising_put, tie_equal, filter_put, same_rising}

pub line_total : IsTotalOrder line_cmp
line_total = search (comparing, rules, key_cmp_total)

pub line_weak : IsStrictWeakOrder (λ a b. is_lt (line_cmp a b))
line_weak = ranks_by line_total (λ line. line)

abbrev below : Line → Line → Bool
below a b = is_lt (line_cmp a b)

rising_order : (ls : List Line) → Rising line_total (in_order ls)
rising_order [] = tt
rising_order (l ∷ ls) = rising_put line_total (in_order ls) l (rising_order ls)

-- lines that compare equal have one key
same_line_key : (a b : Line) → line_cmp a b ≡ Equal → key_cmp a.key b.key ≡ Equal
same_line_key a b is = go (nat_cmp a.interval.start b.interval.start) (nat_cmp a.interval.end b.interval.end) is
  where
    go : (s e : Ordering) → ordering_then s (ordering_then e (key_cmp a.key b.key)) ≡ Equal → key_cmp a.key b.key ≡ Equal
    go Less e is = cc
    go Greater e is = cc
    go Equal Less is = cc
    go Equal Greater is = cc
    go Equal Equal is = is

-- of lines with greater keys none ties with what ties with this one
none_tie : (d l : Line) (ls : List Line) → ties below d l ≡ true → AllByRecursion (λ y. key_cmp l.key y.key ≡ Less) ls → filter (ties below d) ls ≡ []
none_tie d l [] tie above = refl
none_tie d l (y ∷ ys) tie above = go (ties below d y) refl (none_tie d l ys tie above.1)
  where
    go : (b : Bool) → ties below d y ≡ b → filter (ties below d) ys ≡ [] → cond b (y ∷ filter (ties below d) ys) (filter (ties below d) ys) ≡ []
    go false is rest = rest
    go true is rest =
        let one : line_cmp d l ≡ Equal = tie_equal line_total d l tie in
        let other : line_cmp d y ≡ Equal = tie_equal line_total d y is in
        let both : line_cmp l y ≡ Equal = sym (line_total.congr d l y one) ∙ other in
        let keys : key_cmp l.key y.key ≡ Equal = same_line_key l y both in
        let never : Less ≡ Equal = sym above.0 ∙ keys in
        cc

-- so lines of one kind stay in their order
filter_order : (d : Line) (ls : List Line) → HaveKeysAscending ls → filter (ties below d) (in_order ls) ≡ filter (ties below d) ls
filter_order d [] up = refl
filter_order d (l ∷ ls) up =
    filter_put line_total d (in_order ls) l (rising_order ls)
    ∙ (ap (λ k. k ++ filter (ties below d) (l ∷ [])) (filter_order d ls up.1)
    ∙ go (ties below d l) refl)
  where
    rest : List Line
    rest = filter (ties below d) ls

    go : (b : Bool) → ties below d l ≡ b → rest ++ cond b (l ∷ []) [] ≡ cond b (l ∷ rest) rest
    go false is = append-nil rest
    go true is = let none : rest ≡ [] = none_tie d l ls is up.0 in ap (λ r. r ++ l ∷ []) none ∙ sym (ap (λ r. l ∷ r) none)

-- what a stable sort makes of the lines
pub sorted_is_order : (xs ys : List Line) → HaveKeysAscending xs → IsSortedBy below ys → IsStableBy below xs ys → ys ≡ in_order xs
sorted_is_order xs ys up sorted stable =
    same_rising line_total ys (in_order xs) (rising_sorted line_total ys sorted) (rising_order xs) (λ d. stable d ∙ sym (filter_order d xs up))

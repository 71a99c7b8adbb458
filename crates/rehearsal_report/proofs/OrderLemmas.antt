-- What a stable sort leaves is the list with its items put in order one after another.
use Rattle.std.proofs.Common.{◌≡◌, ◌+◌, List, [], ◌∷◌, ◌++◌, Option, Some, None, refl, ap, sym, ◌∙◌, append-nil, append_assoc, rules}
use Rattle.std.specs.List.{filter}
use Rattle.std.specs.List.Sorted.{IsSortedBy, IsStableBy, ties}
use Rattle.std.specs.declared.cmp.Ordering.TheVariants.{Less, Equal}
use Rattle.std.specs.Ordering.{is_lt, ordering_reverse, nat_cmp, on, then_cmp}
use Rattle.std.specs.Cmp.{IsTotalOrder, IsStrictWeakOrder}
use Rattle.std.specs.Cmp.Rules.{comparing}
use Rattle.std.proofs.lemmas.List.Sorted.{ranks_by}
use Rattle.std.proofs.lemmas.List.Elements.{filter-append}
use Rattle.ps_time.specs.Sorted.{insert_key}
use Rattle.ps_time.specs.Span.{Span}
use Rattle.ps_time.proofs.KeyLemmas.{key_cmp_total}
use Rattle.rehearsal_report.specs.declared.table.Entry.{Entry}
use Rattle.rehearsal_report.specs.Table.{interval_cmp, entry_cmp, ordered_with, ordered}
use Rattle.run_states.proofs.StableLemmas.{Rising, lt, rising_sorted, rising_put, filter_put, same_rising}

spans_total : IsTotalOrder (then_cmp (on (λ (i : Span). i.start) nat_cmp) (on (λ i. i.end) nat_cmp))
spans_total = search (comparing, rules)

anti : (a b : Option Span) → interval_cmp a b ≡ ordering_reverse (interval_cmp b a)
anti (Some s) (Some t) = spans_total.antisymm s t
anti (Some s) None = refl
anti None (Some t) = refl
anti None None = refl

chain : (a b c : Option Span) → interval_cmp a b ≡ Less → interval_cmp b c ≡ Less → interval_cmp a c ≡ Less
chain (Some s) (Some t) (Some u) p q = spans_total.trans s t u p q
chain (Some s) (Some t) None p q = refl
chain (Some s) None (Some u) p q = cc
chain (Some s) None None p q = refl
chain None (Some t) c p q = cc
chain None None (Some u) p q = cc
chain None None None p q = p

alike : (a b c : Option Span) → interval_cmp a b ≡ Equal → interval_cmp a c ≡ interval_cmp b c
alike (Some s) (Some t) (Some u) e = spans_total.congr s t u e
alike (Some s) (Some t) None e = refl
alike (Some s) None c e = cc
alike None (Some t) c e = cc
alike None None c e = refl

interval_total : IsTotalOrder interval_cmp
interval_total = record { antisymm = anti; trans = chain; congr = alike }

pub entry_total : IsTotalOrder entry_cmp
entry_total = search (comparing, rules, interval_total, key_cmp_total)

pub entry_weak : IsStrictWeakOrder (λ a b. is_lt (entry_cmp a b))
entry_weak = ranks_by entry_total (λ e. e)

rising_with : (done es : List Entry) → Rising entry_total done → Rising entry_total (ordered_with done es)
rising_with done [] up = up
rising_with done (e ∷ es) up = rising_with (insert_key entry_cmp (λ x. x) done e) es (rising_put entry_total done e up)

filter_with : (d : Entry) (done es : List Entry) → Rising entry_total done → filter (ties (lt entry_total) d) (ordered_with done es) ≡ filter (ties (lt entry_total) d) done ++ filter (ties (lt entry_total) d) es
filter_with d done [] up = sym (append-nil (filter (ties (lt entry_total) d) done))
filter_with d done (e ∷ es) up =
    let p = ties (lt entry_total) d in
    filter_with d (insert_key entry_cmp (λ x. x) done e) es (rising_put entry_total done e up)
    ∙ (ap (λ l. l ++ filter p es) (filter_put entry_total d done e up)
    ∙ (append_assoc (filter p done) (filter p (e ∷ [])) (filter p es)
    ∙ ap (λ l. filter p done ++ l) (sym (filter-append p (e ∷ []) es))))

-- what a stable sort makes of the entries
pub sorted_is_ordered : (xs ys : List Entry) → IsSortedBy (λ a b. is_lt (entry_cmp a b)) ys → IsStableBy (λ a b. is_lt (entry_cmp a b)) xs ys → ys ≡ ordered xs
sorted_is_ordered xs ys sorted stable =
    same_rising entry_total ys (ordered xs) (rising_sorted entry_total ys sorted) (rising_with [] xs tt) (λ d. stable d ∙ sym (filter_with d [] xs tt))

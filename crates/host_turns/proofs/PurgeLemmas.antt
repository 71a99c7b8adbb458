-- A row isn't the newest of its task exactly where the newest one has a greater key.
use Rattle.std.specs.List.{AllByRecursion, last_or, list_any}
use Rattle.std.specs.Ordering.{is_lt}
use Rattle.std.specs.declared.cmp.Ordering.{Ordering}
use Rattle.std.specs.declared.cmp.Ordering.TheVariants.{Less, Equal, Greater}
use Rattle.std.specs.Prelude.{◌==◌}
use Rattle.std.proofs.Common.{◌≡◌, ◌||◌, ◌&&◌, Bool, true, false, cond, List, [], ◌∷◌, filter, Option, Some, None, refl, sym, ap, ◌∙◌}
use Rattle.ps_time.specs.Key.{key_cmp}
use Rattle.ps_time.specs.declared.key.RunKey.{RunKey}
use Rattle.ps_time.proofs.KeyLemmas.{key_cmp_total}
use Rattle.run_states.specs.declared.row.RunRow.{RunRow}
use Rattle.run_states.specs.Purging.{is_later}
use Rattle.run_states.specs.Rows.{IsAscendingRows}
use Rattle.run_states.specs.TaskRows.{is_of_task, newest_row}

less_is : (o : Ordering) → is_lt o ≡ true → o ≡ Less
less_is Less e = refl
less_is Equal e = cc
less_is Greater e = cc

grouped : (p q x : Bool) → (p && (q && x)) ≡ ((p && q) && x)
grouped true q x = refl
grouped false q x = refl

module _ (k : RunKey) where
  -- the row is of the key's task
  abbrev own : RunRow → Bool
  own = is_of_task k.lead k.task

  -- the row that may be there has a greater key
  abbrev pub is_above : Option RunRow → Bool
  is_above None = false
  is_above (Some r) = is_lt (key_cmp k r.key)

  above_up : (a b : RunRow) → is_above (Some a) ≡ true → key_cmp a.key b.key ≡ Less → is_above (Some b) ≡ true
  above_up a b first less = ap is_lt (key_cmp_total.trans k a.key b.key (less_is (key_cmp k a.key) first) less)

  later_is : (r : RunRow) → is_later k r.key ≡ (own r && is_above (Some r))
  later_is r = grouped (r.key.lead == k.lead) (r.key.task == k.task) (is_lt (key_cmp k r.key))

  -- the row that may be there is below all of these
  abbrev IsBelow : Option RunRow → List RunRow → Type 0
  IsBelow None rows = Unit {0}
  IsBelow (Some r) rows = AllByRecursion (λ y. key_cmp r.key y.key ≡ Less) rows

  below_rest : (o : Option RunRow) (r : RunRow) (rs : List RunRow) → IsBelow o (r ∷ rs) → IsBelow o rs
  below_rest None r rs below = tt
  below_rest (Some s) r rs below = below.1

  -- what is above stays so with a greater one
  joined : (o : Option RunRow) (r : RunRow) (rs : List RunRow) → IsBelow o (r ∷ rs) → (rest : Bool) → (is_above o || (is_above (Some r) || rest)) ≡ (is_above (Some r) || rest)
  joined None r rs below rest = refl
  joined (Some s) r rs below rest = go (is_above (Some s)) refl
    where
      go : (b : Bool) → is_above (Some s) ≡ b → (b || (is_above (Some r) || rest)) ≡ (is_above (Some r) || rest)
      go true is = sym (ap (λ x. x || rest) (above_up s r is below.0))
      go false is = refl

  newest_is : (rows : List RunRow) (o : Option RunRow) → IsAscendingRows rows → IsBelow o rows → (is_above o || list_any (λ s. is_later k s.key) rows) ≡ is_above (last_or o (filter own rows))
  newest_is [] None up below = refl
  newest_is [] (Some s) up below = last (is_above (Some s))
    where
      last : (b : Bool) → (b || false) ≡ b
      last true = refl
      last false = refl
  newest_is (r ∷ rs) o up below = ap (λ b. is_above o || (b || list_any (λ s. is_later k s.key) rs)) (later_is r) ∙ go (own r) (newest_is rs (Some r) up.1 up.0) (newest_is rs o up.1 (below_rest o r rs below))
    where
      go : (b : Bool) → (is_above (Some r) || list_any (λ s. is_later k s.key) rs) ≡ is_above (last_or (Some r) (filter own rs)) → (is_above o || list_any (λ s. is_later k s.key) rs) ≡ is_above (last_or o (filter own rs)) →
          (is_above o || ((b && is_above (Some r)) || list_any (λ s. is_later k s.key) rs)) ≡ is_above (last_or o (cond b (r ∷ filter own rs) (filter own rs)))
      go true mine others = joined o r rs below (list_any (λ s. is_later k s.key) rs) ∙ mine
      go false mine others = others

  pub later_newest : (rows : List RunRow) → IsAscendingRows rows → list_any (λ s. is_later k s.key) rows ≡ is_above (newest_row k.lead k.task rows)
  later_newest rows up = newest_is rows None up tt

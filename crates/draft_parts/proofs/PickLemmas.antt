-- The first row that passes a test, in an order of keys: of rows that lie over others, and of these.
use Rattle.std.specs.Prelude.{find}
use Rattle.std.specs.List.{AllByRecursion, last_or}
use Rattle.std.specs.Ordering.{is_eq, is_lt, ordering_reverse}
use Rattle.std.specs.declared.cmp.Ordering.{Ordering}
use Rattle.std.specs.declared.cmp.Ordering.TheVariants.{Less, Equal, Greater}
use Rattle.std.proofs.Common.{◌≡◌, ◌⊎◌, ◌<◌, ◌≤◌, ◌-◌, inl, inr, ℕ, ℤ, zero, suc, take, length, get_or, arith, Bool, true, false, cond, not, ◌&&◌, ◌||◌, List, [], ◌∷◌, filter, Option, Some, None, option_map, is_some, refl, ap, ap₂, sym, subst, ◌∙◌}
use Rattle.ps_time.specs.Key.{key_cmp}
use Rattle.ps_time.specs.Span.{Span}
use Rattle.ps_time.specs.declared.class.Class.{Class}
use Rattle.ps_time.specs.declared.key.RunKey.{RunKey}
use Rattle.ps_time.proofs.KeyLemmas.{key_cmp_same, key_cmp_total, same_key}
use Rattle.plugin_core.specs.TestSpec.{test_class}
use Rattle.run_states.specs.declared.row.RunRow.{RunRow}
use Rattle.run_states.specs.Life.{first_there, is_booked}
use Rattle.run_states.specs.Rows.{find_row, IsAscendingRows}
use Rattle.run_states.specs.Conflict.{blocks, clashes, in_conflict}
use Rattle.run_states.specs.Preemption.{yields}
use Rattle.host_timeline.specs.Booking.{conflicting_after, conflicts_with, is_after, keys_of, lesser_of}
use Rattle.host_timeline.specs.declared.booking.Booking.{Booking}
use Rattle.part_core.specs.Reservations.{booking_of, bookings_of, reserved, with_some}
use Rattle.part_core.specs.Seen.{firm_key, next_key}
use Rattle.host_model.specs.Book.{keys_of_rows}
use Rattle.host_model.proofs.Placed.{find_row-key}
use Rattle.host_rows.proofs.RowLemmas.{each_found}
use Rattle.draft_parts.specs.Overlay.{hard_below, hides, is_hard, meets, meets_below, named, over}
use Rattle.draft_parts.specs.declared.overlay.Sought.{Sought}

-- ---- an order of keys
-- one key comes before another; of two, neither does only where they are one
pub record IsOrder (before : RunKey → RunKey → Bool) : Type 0 where
  pub one_way : (a b : RunKey) → before a b ≡ true → before b a ≡ false
  pub between : (a b c : RunKey) → before a c ≡ true → (before a b ≡ true) ⊎ (before b c ≡ true)
  pub same : (a b : RunKey) → before a b ≡ false → before b a ≡ false → a ≡ b

module _ (before : RunKey → RunKey → Bool) (order : IsOrder before) where
  never_own : (a : RunKey) → before a a ≡ false
  never_own a = go (before a a) refl
    where
      go : (b : Bool) → before a a ≡ b → b ≡ false
      go false e = refl
      go true e = sym e ∙ order.one_way a a e

  -- what doesn't come before the later of two doesn't come before the earlier
  not_earlier : (s a b : RunKey) → before s b ≡ false → before b a ≡ false → before s a ≡ false
  not_earlier s a b f g = go (before s a) refl
    where
      go : (x : Bool) → before s a ≡ x → x ≡ false
      go false e = refl
      go true e = one (order.between s b a e)
        where
          one : (before s b ≡ true) ⊎ (before b a ≡ true) → true ≡ false
          one (inl h) = sym h ∙ f
          one (inr h) = sym h ∙ g

  not_later : (s a b : RunKey) → before s a ≡ false → before b a ≡ true → before s b ≡ false
  not_later s a b f g = one (order.between b s a g)
    where
      one : (before b s ≡ true) ⊎ (before s a ≡ true) → before s b ≡ false
      one (inl h) = order.one_way b s h
      one (inr h) = let never : true ≡ false = sym h ∙ f in cc

  -- the row passes, and none that passes comes before it
  abbrev pub IsFirst : (RunRow → Bool) → (RunKey → Option RunRow) → Option RunRow → Type 0
  IsFirst p at None = (k : RunKey) (r : RunRow) → at k ≡ Some r → p r ≡ false
  IsFirst p at (Some r) = (at r.key ≡ Some r) × (p r ≡ true) × ((k : RunKey) (s : RunRow) → at k ≡ Some s → p s ≡ true → before s.key r.key ≡ false)

  module _ (p : RunRow → Bool) (at : RunKey → Option RunRow) where
    -- there is one such row
    pub same_first : (x y : Option RunRow) → IsFirst p at x → IsFirst p at y → x ≡ y
    same_first None None f g = refl
    same_first None (Some s) f g = let never : true ≡ false = sym g.1 ∙ f s.key s g.0 in cc
    same_first (Some r) None f g = let never : true ≡ false = sym f.1 ∙ g r.key r f.0 in cc
    same_first (Some r) (Some s) f g =
        let keys : r.key ≡ s.key = order.same r.key s.key (g.2 r.key r f.0 f.1) (f.2 s.key s g.0 g.1) in
        sym f.0 ∙ (ap at keys ∙ g.0)

  -- the one of two rows that comes first
  abbrev pub earlier : Option RunRow → Option RunRow → Option RunRow
  earlier None y = y
  earlier (Some r) None = Some r
  earlier (Some r) (Some s) = cond (before s.key r.key) (Some s) (Some r)

  -- ---- rows that lie over others
  module _ (p : RunRow → Bool) (now top book : RunKey → Option RunRow) (gone : RunKey → Bool)
      (found : (k : RunKey) → now k ≡ first_there (top k) (cond (gone k) None (book k)))
      (own_book : (k : RunKey) (r : RunRow) → book k ≡ Some r → r.key ≡ k) where
    -- the row passes, and is as it was
    abbrev pub bare : RunRow → Bool
    bare r = p r && not (is_some (top r.key) || gone r.key)

    -- where a row of now comes from
    from_either : (k : RunKey) (s : RunRow) → now k ≡ Some s → p s ≡ true → (top k ≡ Some s) ⊎ ((book k ≡ Some s) × (bare s ≡ true))
    from_either k s e t = go (top k) refl (gone k) refl (sym (found k) ∙ e)
      where
        go : (o : Option RunRow) → top k ≡ o → (g : Bool) → gone k ≡ g → first_there o (cond g None (book k)) ≡ Some s → (top k ≡ Some s) ⊎ ((book k ≡ Some s) × (bare s ≡ true))
        go (Some x) f g h is = inl (f ∙ is)
        go None f true h is = cc
        go None f false h is =
            let key : s.key ≡ k = own_book k s is in
            let not_top : top s.key ≡ None = ap top key ∙ f in
            let not_gone : gone s.key ≡ false = ap gone key ∙ h in
            inr (is, ap₂ (λ a b. a && not b) t (ap₂ (λ o g. is_some o || g) not_top not_gone))

    top_now : (k : RunKey) (r : RunRow) → top k ≡ Some r → now k ≡ Some r
    top_now k r e = found k ∙ ap (λ o. first_there o (cond (gone k) None (book k))) e

    shown : (x y g : Bool) → (x && not (y || g)) ≡ true → (x ≡ true) × (y ≡ false) × (g ≡ false)
    shown true false false e = (refl, refl, refl)
    shown true true g e = cc
    shown true false true e = cc
    shown false y g e = cc

    hidden_none : (o : Option RunRow) → is_some o ≡ false → o ≡ None
    hidden_none None e = refl
    hidden_none (Some r) e = cc

    bare_now : (r : RunRow) → book r.key ≡ Some r → bare r ≡ true → (now r.key ≡ Some r) × (p r ≡ true)
    bare_now r e t =
        let parts = shown (p r) (is_some (top r.key)) (gone r.key) t in
        (found r.key ∙ (ap₂ (λ o g. first_there o (cond g None (book r.key))) (hidden_none (top r.key) parts.1) parts.2 ∙ e), parts.0)

    pub over_first : (x y : Option RunRow) → IsFirst p top x → IsFirst bare book y → IsFirst p now (earlier x y)
    over_first None None f g = λ k r e. go k r e (p r) refl
      where
        go : (k : RunKey) (r : RunRow) → now k ≡ Some r → (b : Bool) → p r ≡ b → b ≡ false
        go k r e false t = refl
        go k r e true t = one (from_either k r e t)
          where
            one : (top k ≡ Some r) ⊎ ((book k ≡ Some r) × (bare r ≡ true)) → true ≡ false
            one (inl h) = sym t ∙ f k r h
            one (inr h) = sym h.1 ∙ g k r h.0
    over_first None (Some b) f g = let here = bare_now b g.0 g.1 in (here.0, here.1, λ k s e t. one k s t (from_either k s e t))
      where
        one : (k : RunKey) (s : RunRow) → p s ≡ true → (top k ≡ Some s) ⊎ ((book k ≡ Some s) × (bare s ≡ true)) → before s.key b.key ≡ false
        one k s t (inl h) = let never : true ≡ false = sym t ∙ f k s h in cc
        one k s t (inr h) = g.2 k s h.0 h.1
    over_first (Some a) None f g = (top_now a.key a f.0, f.1, λ k s e t. one k s t (from_either k s e t))
      where
        one : (k : RunKey) (s : RunRow) → p s ≡ true → (top k ≡ Some s) ⊎ ((book k ≡ Some s) × (bare s ≡ true)) → before s.key a.key ≡ false
        one k s t (inl h) = f.2 k s h t
        one k s t (inr h) = let never : true ≡ false = sym h.1 ∙ g k s h.0 in cc
    over_first (Some a) (Some b) f g = go (before b.key a.key) refl
      where
        both : (k : RunKey) (s : RunRow) → p s ≡ true → (top k ≡ Some s) ⊎ ((book k ≡ Some s) × (bare s ≡ true)) → (before s.key a.key ≡ false) ⊎ (before s.key b.key ≡ false)
        both k s t (inl h) = inl (f.2 k s h t)
        both k s t (inr h) = inr (g.2 k s h.0 h.1)

        before_a : before b.key a.key ≡ false → (s : RunRow) → (before s.key a.key ≡ false) ⊎ (before s.key b.key ≡ false) → before s.key a.key ≡ false
        before_a e s (inl h) = h
        before_a e s (inr h) = not_earlier s.key a.key b.key h e

        before_b : before b.key a.key ≡ true → (s : RunRow) → (before s.key a.key ≡ false) ⊎ (before s.key b.key ≡ false) → before s.key b.key ≡ false
        before_b e s (inl h) = not_later s.key a.key b.key h e
        before_b e s (inr h) = h

        go : (c : Bool) → before b.key a.key ≡ c → IsFirst p now (cond c (Some b) (Some a))
        go true e = let here = bare_now b g.0 g.1 in (here.0, here.1, λ k s h t. before_b e s (both k s t (from_either k s h t)))
        go false e = (top_now a.key a f.0, f.1, λ k s h t. before_a e s (both k s t (from_either k s h t)))

-- ---- ascending and descending keys
abbrev pub is_less : RunKey → RunKey → Bool
is_less a b = is_lt (key_cmp a b)

abbrev pub is_greater : RunKey → RunKey → Bool
is_greater a b = is_lt (key_cmp b a)

below_above : (c : Ordering) → is_lt c ≡ true → is_lt (ordering_reverse c) ≡ false
below_above Less e = refl
below_above Equal e = cc
below_above Greater e = cc

neither : (c : Ordering) → is_lt c ≡ false → is_lt (ordering_reverse c) ≡ false → c ≡ Equal
neither Less e f = cc
neither Equal e f = refl
neither Greater e f = cc

is_below : (c : Ordering) → is_lt c ≡ true → c ≡ Less
is_below Less e = refl
is_below Equal e = cc
is_below Greater e = cc

less_between : (a b c : RunKey) → is_less a c ≡ true → (is_less a b ≡ true) ⊎ (is_less b c ≡ true)
less_between a b c e = go (key_cmp a b) refl
  where
    go : (o : Ordering) → key_cmp a b ≡ o → (is_less a b ≡ true) ⊎ (is_less b c ≡ true)
    go Less f = inl (ap is_lt f)
    go Equal f = inr (ap is_lt (sym (key_cmp_total.congr a b c f)) ∙ e)
    go Greater f =
        let turned : key_cmp b a ≡ Less = key_cmp_total.antisymm b a ∙ ap ordering_reverse f in
        inr (ap is_lt (key_cmp_total.trans b a c turned (is_below (key_cmp a c) e)))

pub less_order : IsOrder is_less
less_order = record {
  one_way = λ a b e. ap is_lt (key_cmp_total.antisymm b a) ∙ below_above (key_cmp a b) e;
  between = less_between;
  same = λ a b e f. same_key a b (neither (key_cmp a b) e (ap is_lt (sym (key_cmp_total.antisymm b a)) ∙ f));
}

turn : {A B : Type 0} → A ⊎ B → B ⊎ A
turn (inl a) = inr a
turn (inr b) = inl b

pub greater_order : IsOrder is_greater
greater_order = record {
  one_way = λ a b e. less_order.one_way b a e;
  between = λ a b c e. turn (less_order.between c b a e);
  same = λ a b e f. less_order.same a b f e;
}

-- ---- of ascending rows
found_has : (P : RunRow → Type 0) (k : RunKey) (rows : List RunRow) (s : RunRow) → AllByRecursion P rows → find_row rows k ≡ Some s → P s
found_has P k [] s all e = cc
found_has P k (r ∷ rs) s all e = go (is_eq (key_cmp r.key k)) e (found_has P k rs s all.1)
  where
    go : (b : Bool) → cond b (Some r) (find_row rs k) ≡ Some s → (find_row rs k ≡ Some s → P s) → P s
    go true e later = let is : r ≡ s = cc in subst P is all.0
    go false e later = later e

above : (r : RunRow) (rs : List RunRow) (k : RunKey) (s : RunRow) → AllByRecursion (λ y. key_cmp r.key y.key ≡ Less) rs → find_row rs k ≡ Some s → key_cmp r.key s.key ≡ Less
above r rs k s up e = found_has (λ y. key_cmp r.key y.key ≡ Less) k rs s up e

own_found : (r : RunRow) (rs : List RunRow) → find_row (r ∷ rs) r.key ≡ Some r
own_found r rs = ap (λ z. cond (is_eq z) (Some r) (find_row rs r.key)) (key_cmp_same r.key)

behind_found : (r : RunRow) (rs : List RunRow) (x : RunRow) → key_cmp r.key x.key ≡ Less → find_row rs x.key ≡ Some x → find_row (r ∷ rs) x.key ≡ Some x
behind_found r rs x less e = ap (λ z. cond (is_eq z) (Some r) (find_row rs x.key)) less ∙ e

module _ (p : RunRow → Bool) where
  -- where the row passes
  here_or : (r : RunRow) (rs : List RunRow) (k : RunKey) (s : RunRow) → find_row (r ∷ rs) k ≡ Some s → (r ≡ s) ⊎ (find_row rs k ≡ Some s)
  here_or r rs k s e = go (is_eq (key_cmp r.key k)) e
    where
      go : (b : Bool) → cond b (Some r) (find_row rs k) ≡ Some s → (r ≡ s) ⊎ (find_row rs k ≡ Some s)
      go true e = let is : r ≡ s = cc in inl is
      go false e = inr e

  none_more : (r : RunRow) (rs : List RunRow) → p r ≡ false → ((k : RunKey) (s : RunRow) → find_row rs k ≡ Some s → p s ≡ false) → (k : RunKey) (s : RunRow) → find_row (r ∷ rs) k ≡ Some s → p s ≡ false
  none_more r rs e none k s f = one (here_or r rs k s f)
    where
      one : (r ≡ s) ⊎ (find_row rs k ≡ Some s) → p s ≡ false
      one (inl is) = ap p (sym is) ∙ e
      one (inr h) = none k s h

  pub find_first : (rows : List RunRow) → IsAscendingRows rows → IsFirst is_less less_order p (find_row rows) (find p rows)
  find_first [] up = λ k s e. cc
  find_first (r ∷ rs) up = go (p r) refl (find p rs) (find_first rs up.1)
    where
      go : (b : Bool) → p r ≡ b → (o : Option RunRow) → IsFirst is_less less_order p (find_row rs) o → IsFirst is_less less_order p (find_row (r ∷ rs)) (cond b (Some r) o)
      go true e o rest = (own_found r rs, e, λ k s f t. one k s (here_or r rs k s f))
        where
          one : (k : RunKey) (s : RunRow) → (r ≡ s) ⊎ (find_row rs k ≡ Some s) → is_less s.key r.key ≡ false
          one k s (inl is) = subst (λ y. is_less y.key r.key ≡ false) is (never_own is_less less_order r.key)
          one k s (inr h) = less_order.one_way r.key s.key (ap is_lt (above r rs k s up.0 h))
      go false e None rest = none_more r rs e rest
      go false e (Some x) rest = (behind_found r rs x (above r rs x.key x up.0 rest.0) rest.0, rest.1, λ k s f t. one k s t (here_or r rs k s f))
        where
          one : (k : RunKey) (s : RunRow) → p s ≡ true → (r ≡ s) ⊎ (find_row rs k ≡ Some s) → is_less s.key x.key ≡ false
          one k s t (inl is) = let never : true ≡ false = sym t ∙ (ap p (sym is) ∙ e) in cc
          one k s t (inr h) = rest.2 k s h t

  -- the last that passes
  last_of : (o : Option RunRow) (xs : List RunRow) → last_or o xs ≡ first_there (last_or None xs) o
  last_of o [] = refl
  last_of o (x ∷ xs) = last_of (Some x) xs ∙ (kept (last_or None xs) ∙ ap (λ y. first_there y o) (sym (last_of (Some x) xs)))
    where
      kept : (y : Option RunRow) → first_there y (Some x) ≡ first_there (first_there y (Some x)) o
      kept None = refl
      kept (Some y) = refl

  pub last_first : (rows : List RunRow) → IsAscendingRows rows → IsFirst is_greater greater_order p (find_row rows) (last_or None (filter p rows))
  last_first [] up = λ k s e. cc
  last_first (r ∷ rs) up = go (p r) refl (last_or None (filter p rs)) refl (last_first rs up.1)
    where
      go : (b : Bool) → p r ≡ b → (o : Option RunRow) → last_or None (filter p rs) ≡ o → IsFirst is_greater greater_order p (find_row rs) o → IsFirst is_greater greater_order p (find_row (r ∷ rs)) (last_or None (cond b (r ∷ filter p rs) (filter p rs)))
      go true e None h rest = subst (IsFirst is_greater greater_order p (find_row (r ∷ rs))) (sym (last_of (Some r) (filter p rs) ∙ ap (λ y. first_there y (Some r)) h)) (own_found r rs, e, λ k s f t. one k s t (here_or r rs k s f))
        where
          one : (k : RunKey) (s : RunRow) → p s ≡ true → (r ≡ s) ⊎ (find_row rs k ≡ Some s) → is_greater s.key r.key ≡ false
          one k s t (inl is) = subst (λ y. is_greater y.key r.key ≡ false) is (never_own is_greater greater_order r.key)
          one k s t (inr g) = let never : true ≡ false = sym t ∙ rest k s g in cc
      go true e (Some x) h rest =
          let less : key_cmp r.key x.key ≡ Less = above r rs x.key x up.0 rest.0 in
          subst (IsFirst is_greater greater_order p (find_row (r ∷ rs))) (sym (last_of (Some r) (filter p rs) ∙ ap (λ y. first_there y (Some r)) h)) (behind_found r rs x less rest.0, rest.1, λ k s f t. one less k s t (here_or r rs k s f))
        where
          one : key_cmp r.key x.key ≡ Less → (k : RunKey) (s : RunRow) → p s ≡ true → (r ≡ s) ⊎ (find_row rs k ≡ Some s) → is_greater s.key x.key ≡ false
          one less k s t (inl is) = subst (λ y. is_greater y.key x.key ≡ false) is (less_order.one_way r.key x.key (ap is_lt less))
          one less k s t (inr g) = rest.2 k s g t
      go false e None h rest = subst (IsFirst is_greater greater_order p (find_row (r ∷ rs))) (sym h) (none_more r rs e rest)
      go false e (Some x) h rest = subst (IsFirst is_greater greater_order p (find_row (r ∷ rs))) (sym h) (behind_found r rs x (above r rs x.key x up.0 rest.0) rest.0, rest.1, λ k s f t. one k s t (here_or r rs k s f))
        where
          one : (k : RunKey) (s : RunRow) → p s ≡ true → (r ≡ s) ⊎ (find_row rs k ≡ Some s) → is_greater s.key x.key ≡ false
          one k s t (inl is) = let never : true ≡ false = sym t ∙ (ap p (sym is) ∙ e) in cc
          one k s t (inr g) = rest.2 k s g t

-- one row less, from the end
pub last_shorter : (g : RunRow → Bool) (rows : List RunRow) (e : ℕ) (d : RunRow) → e < length rows → last_or None (filter g (take (suc e) rows)) ≡ cond (g (get_or rows e d)) (Some (get_or rows e d)) (last_or None (filter g (take e rows)))
last_shorter g [] e d within = absurd (omega arith)
last_shorter g (r ∷ rs) zero d within = elim (g r) as (λ b. last_or None (cond b (r ∷ []) []) ≡ cond b (Some r) None) [ true ↦ refl | false ↦ refl ]
last_shorter g (r ∷ rs) (suc e) d within = go (g r) (last_shorter g rs e d (omega (arith, within)))
  where
    x : RunRow
    x = get_or rs e d

    kept : (b : Bool) (o : Option RunRow) → first_there (cond b (Some x) o) (Some r) ≡ cond b (Some x) (first_there o (Some r))
    kept true o = refl
    kept false o = refl

    go : (b : Bool) → last_or None (filter g (take (suc e) rs)) ≡ cond (g x) (Some x) (last_or None (filter g (take e rs)))
        → last_or None (cond b (r ∷ filter g (take (suc e) rs)) (filter g (take (suc e) rs))) ≡ cond (g x) (Some x) (last_or None (cond b (r ∷ filter g (take e rs)) (filter g (take e rs))))
    go true later =
        last_of g (Some r) (filter g (take (suc e) rs))
        ∙ (ap (λ o. first_there o (Some r)) later
        ∙ (kept (g x) (last_or None (filter g (take e rs)))
        ∙ ap (cond (g x) (Some x)) (sym (last_of g (Some r) (filter g (take e rs))))))
    go false later = later

-- the last of some rows passes
pub last_here : (g : RunRow → Bool) (rows : List RunRow) (n : ℕ) (x : RunRow) → 0 < n → n ≤ length rows → x ≡ get_or rows (n - 1) x → g x ≡ true → last_or None (filter g (take n rows)) ≡ Some x
last_here g rows zero x some within at passes = absurd (omega (arith, some))
last_here g rows (suc e) x some within at passes =
    let less : suc e - 1 ≡ e = omega arith in
    let here : x ≡ get_or rows e x = at ∙ ap (λ i. get_or rows i x) less in
    let rest : Option RunRow = last_or None (filter g (take e rows)) in
    last_shorter g rows e x (omega (arith, within)) ∙ (ap (λ y. cond (g y) (Some y) rest) (sym here) ∙ ap (λ b. cond b (Some x) rest) passes)

-- ---- keys
pub earlier_key : (a b : Option RunRow) → option_map (λ r. r.key) (earlier is_less less_order a b) ≡ lesser_of (option_map (λ r. r.key) a) (option_map (λ r. r.key) b)
earlier_key None b = refl
earlier_key (Some r) None = refl
earlier_key (Some r) (Some s) = elim (is_less s.key r.key) as (λ c. option_map (λ (x : RunRow). x.key) (cond c (Some s) (Some r)) ≡ Some (cond c s.key r.key)) [ true ↦ refl | false ↦ refl ]

-- the first key of rows that pass, that passes itself
pub key_passing : (p : RunRow → Bool) (t : RunKey → Bool) (rows : List RunRow) → find t (keys_of_rows (filter p rows)) ≡ option_map (λ r. r.key) (find (λ r. p r && t r.key) rows)
key_passing p t [] = refl
key_passing p t (r ∷ rs) = go (p r) (key_passing p t rs)
  where
    one : (b : Bool) → find t (keys_of_rows (filter p rs)) ≡ option_map (λ (x : RunRow). x.key) (find (λ x. p x && t x.key) rs) → cond b (Some r.key) (find t (keys_of_rows (filter p rs))) ≡ option_map (λ (x : RunRow). x.key) (cond b (Some r) (find (λ x. p x && t x.key) rs))
    one true later = refl
    one false later = later

    go : (b : Bool) → find t (keys_of_rows (filter p rs)) ≡ option_map (λ (x : RunRow). x.key) (find (λ x. p x && t x.key) rs)
        → find t (keys_of_rows (cond b (r ∷ filter p rs) (filter p rs))) ≡ option_map (λ (x : RunRow). x.key) (cond (b && t r.key) (Some r) (find (λ x. p x && t x.key) rs))
    go true later = one (t r.key) later
    go false later = later

pub find_passing : (p t : RunRow → Bool) (rows : List RunRow) → find t (filter p rows) ≡ find (λ r. p r && t r) rows
find_passing p t [] = refl
find_passing p t (r ∷ rs) = elim (p r) as (λ b. find t (cond b (r ∷ filter p rs) (filter p rs)) ≡ cond (b && t r) (Some r) (find (λ x. p x && t x) rs)) [
  | true ↦ ap (cond (t r) (Some r)) (find_passing p t rs)
  | false ↦ find_passing p t rs
]

pub find_alike : (f g : RunRow → Bool) (xs : List RunRow) → AllByRecursion (λ x. f x ≡ g x) xs → find f xs ≡ find g xs
find_alike f g [] same = refl
find_alike f g (x ∷ xs) same = ap₂ (λ b o. cond b (Some x) o) same.0 (find_alike f g xs same.1)

all_rows : (P : RunRow → Type 0) → ((r : RunRow) → P r) → (xs : List RunRow) → AllByRecursion P xs
all_rows P each [] = tt
all_rows P each (x ∷ xs) = (each x, all_rows P each xs)

weaker : (P Q : RunRow → Type 0) → ((r : RunRow) → P r → Q r) → (xs : List RunRow) → AllByRecursion P xs → AllByRecursion Q xs
weaker P Q f [] all = tt
weaker P Q f (x ∷ xs) all = (f x all.0, weaker P Q f xs all.1)

and_true : (b c : Bool) → (b && c) ≡ (b && (c && true))
and_true true true = refl
and_true true false = refl
and_true false c = refl

-- ---- what is sought among rows
module _ (m : ℕ) (key : RunKey) (class : Class) (i : Span) (rows : List RunRow) where
  pub firm_sought : (priority : ℤ) → firm_key key class i priority m rows ≡ option_map (λ r. r.key) (find (meets m (record { key = key; class = class; interval = i; after = None; priority = Some priority })) rows)
  firm_sought priority = ap (option_map (λ r. r.key)) (find_passing (in_conflict key class i) (λ r. not (yields priority m r)) rows)

  pub next_sought : (after : Option RunKey) → next_key key class i after rows ≡ option_map (λ r. r.key) (find (meets m (record { key = key; class = class; interval = i; after = after; priority = None })) rows)
  next_sought after =
      key_passing (in_conflict key class i) (is_after after) rows
      ∙ ap (option_map (λ r. r.key)) (find_alike (λ r. in_conflict key class i r && is_after after r.key) (λ r. in_conflict key class i r && (is_after after r.key && true)) rows (all_rows (λ r. (in_conflict key class i r && is_after after r.key) ≡ (in_conflict key class i r && (is_after after r.key && true))) (λ r. and_true (in_conflict key class i r) (is_after after r.key)) rows))

-- ---- what a walk over the reservations of a book finds
abbrev Agrees : (RunRow → Bool) → (Booking → Bool) → RunRow → Option Booking → Type 0
Agrees p q r None = p r ≡ false
Agrees p q r (Some b) = (b.key ≡ r.key) × (q b ≡ p r)

module _ (class : Class) (i : Span) (r : RunRow) where
  against_at : (booked : Bool) (o : Option Span) → is_booked r ≡ booked → r.interval ≡ o → Agrees (blocks class i) (conflicts_with class i) r (cond booked (reserved r o) None)
  against_at false o e f = ap (λ b. b && clashes class i (test_class r.test) r.interval) e
  against_at true None e f = ap₂ (λ b x. b && clashes class i (test_class r.test) x) e f
  against_at true (Some s) e f = (refl, sym (ap₂ (λ b x. b && clashes class i (test_class r.test) x) e f))

  -- the row is in the way of a run exactly where what it reserves is
  pub against : Agrees (blocks class i) (conflicts_with class i) r (booking_of r)
  against = against_at (is_booked r) r.interval refl refl

module _ (p : RunRow → Bool) (q : Booking → Bool) (each : (r : RunRow) → Agrees p q r (booking_of r)) where
  kept_one : (r : RunRow) (rs : List RunRow) (o : Option Booking) (t : Bool) → Agrees p q r o → p r ≡ t → keys_of (filter q (bookings_of rs)) ≡ keys_of_rows (filter p rs)
      → keys_of (filter q (with_some o (bookings_of rs))) ≡ keys_of_rows (cond t (r ∷ filter p rs) (filter p rs))
  kept_one r rs None true none is later = let never : true ≡ false = sym is ∙ none in cc
  kept_one r rs None false none is later = later
  kept_one r rs (Some b) true same is later = ap (λ t. keys_of (cond t (b ∷ filter q (bookings_of rs)) (filter q (bookings_of rs)))) (same.1 ∙ is) ∙ ap₂ (λ k ks. k ∷ ks) same.0 later
  kept_one r rs (Some b) false same is later = ap (λ t. keys_of (cond t (b ∷ filter q (bookings_of rs)) (filter q (bookings_of rs)))) (same.1 ∙ is) ∙ later

  -- the same keys pass
  pub kept_keys : (rows : List RunRow) → keys_of (filter q (bookings_of rows)) ≡ keys_of_rows (filter p rows)
  kept_keys [] = refl
  kept_keys (r ∷ rs) = kept_one r rs (booking_of r) (p r) (each r) refl (kept_keys rs)

swapped : (a b : Bool) → (a && b) ≡ (b && a)
swapped true true = refl
swapped true false = refl
swapped false true = refl
swapped false false = refl

regrouped : (b a o h d : Bool) → ((b && a) && (o && (not h && d))) ≡ (((o && b) && (a && d)) && not h)
regrouped true true true h d = swapped (not h) d
regrouped true true false h d = refl
regrouped true false true h d = refl
regrouped true false false h d = refl
regrouped false a true h d = refl
regrouped false a false h d = refl

module _ (m : ℕ) (s : Sought) (touched : List RunRow) (gone : List RunKey) (book : List RunRow) (up : IsAscendingRows book) where
  abbrev in_way : RunRow → Bool
  in_way r = blocks s.class s.interval r && is_after s.after r.key

  after_agrees : (r : RunRow) (o : Option Booking) → Agrees (blocks s.class s.interval) (conflicts_with s.class s.interval) r o → Agrees in_way (λ b. is_after s.after b.key && conflicts_with s.class s.interval b) r o
  after_agrees r None none = ap (λ b. b && is_after s.after r.key) none
  after_agrees r (Some b) way = (way.0, ap₂ (λ k c. is_after s.after k && c) way.0 way.1 ∙ swapped (is_after s.after r.key) (blocks s.class s.interval r))

  abbrev unhidden : RunRow → Bool
  unhidden r = meets m s r && not (hides touched gone r.key)

  one_row : (r : RunRow) → find_row book r.key ≡ Some r → (in_way r && meets_below m s touched gone book r.key) ≡ unhidden r
  one_row r at =
      ap (λ o. in_way r && (not (is_eq (key_cmp r.key s.key)) && (not (hides touched gone r.key) && hard_below m s o))) at
      ∙ regrouped (blocks s.class s.interval r) (is_after s.after r.key) (not (is_eq (key_cmp r.key s.key))) (hides touched gone r.key) (is_hard m s.priority r)

  pub walked : find (meets_below m s touched gone book) (keys_of (conflicting_after s.class s.interval s.after (bookings_of book))) ≡ option_map (λ r. r.key) (find unhidden book)
  walked =
      ap (find (meets_below m s touched gone book)) (kept_keys in_way (λ b. is_after s.after b.key && conflicts_with s.class s.interval b) (λ r. after_agrees r (booking_of r) (against s.class s.interval r)) book)
      ∙ (key_passing in_way (meets_below m s touched gone book) book
      ∙ ap (option_map (λ r. r.key)) (find_alike (λ r. in_way r && meets_below m s touched gone book r.key) unhidden book
      (weaker (λ r. find_row book r.key ≡ Some r) (λ r. (in_way r && meets_below m s touched gone book r.key) ≡ unhidden r) one_row book (each_found book up))))

-- ---- what is sought among rows that lie over those of a book
module _ (now touched : List RunRow) (gone : List RunKey) (book : List RunRow) (up : IsAscendingRows now) (above_up : IsAscendingRows touched) (below_up : IsAscendingRows book) (found : (k : RunKey) → find_row now k ≡ over touched gone book k) where
  -- the first of all is the earlier of the first ones
  pub find_over : (p : RunRow → Bool) → find p now ≡ earlier is_less less_order (find p touched) (find (λ r. p r && not (hides touched gone r.key)) book)
  find_over p =
      let rest : RunRow → Bool = λ r. p r && not (hides touched gone r.key) in
      let first_now = over_first is_less less_order p (find_row now) (find_row touched) (find_row book) (λ k. named k gone) found (find_row-key book) (find p touched) (find rest book) (find_first p touched above_up) (find_first rest book below_up) in
      same_first is_less less_order p (find_row now) (find p now) (earlier is_less less_order (find p touched) (find rest book)) (find_first p now up) first_now

  pub sought_over : (m : ℕ) (s : Sought) → option_map (λ r. r.key) (find (meets m s) now)
      ≡ lesser_of (option_map (λ r. r.key) (find (meets m s) touched)) (find (meets_below m s touched gone book) (keys_of (conflicting_after s.class s.interval s.after (bookings_of book))))
  sought_over m s =
      let p : RunRow → Bool = meets m s in
      let rest : RunRow → Bool = λ r. p r && not (hides touched gone r.key) in
      ap (option_map (λ r. r.key)) (find_over p)
      ∙ (earlier_key (find p touched) (find rest book)
      ∙ ap (lesser_of (option_map (λ r. r.key) (find p touched))) (sym (walked m s touched gone book below_up)))

  -- the last of all is the later of the last ones
  pub last_over : (p : RunRow → Bool) → last_or None (filter p now) ≡ earlier is_greater greater_order (last_or None (filter p touched)) (last_or None (filter (λ r. p r && not (hides touched gone r.key)) book))
  last_over p =
      let rest : RunRow → Bool = λ r. p r && not (hides touched gone r.key) in
      let last_now = over_first is_greater greater_order p (find_row now) (find_row touched) (find_row book) (λ k. named k gone) found (find_row-key book) (last_or None (filter p touched)) (last_or None (filter rest book)) (last_first p touched above_up) (last_first rest book below_up) in
      same_first is_greater greater_order p (find_row now) (last_or None (filter p now)) (earlier is_greater greater_order (last_or None (filter p touched)) (last_or None (filter rest book))) (last_first p now up) last_now

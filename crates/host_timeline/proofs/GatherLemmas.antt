-- The maximal windows of the starts that pass a test: starts that fail are skipped, a run of starts that pass is one window.
use Rattle.std.proofs.Common.{◌≡◌, ◌∙◌, ℕ, zero, suc, ◌+◌, ◌-◌, ◌<◌, ◌≤◌, List, [], ◌∷◌, Bool, true, false, cond, eqb, inl, inr, refl, sym, ap, arith}
use Rattle.std.specs.List.{filter, range_with_len}
use Rattle.std.proofs.lemmas.Bool.{cases_lt}
use Rattle.std.proofs.lemmas.Bool.Decides.{nat_tests}
use Rattle.ps_time.specs.Span.{Range}
use Rattle.ps_time.specs.Starts.{join_start, gathered}

-- the windows of the starts from a on, before e, that pass
abbrev pub windows_from : (ℕ → Bool) → ℕ → ℕ → List Range
windows_from test e a = gathered (filter test (range_with_len a (e - a)))

-- a window from a start to another
abbrev pub range : ℕ → ℕ → Range
range first last = record { first = first; last = last }

join_before : (c a : ℕ) (ws : List Range) → eqb a (c + 1) ≡ false → join_start c (join_start a ws) ≡ range c c ∷ join_start a ws
join_before c a [] other = rw other refl
join_before c a (w ∷ ws) other =
    elim (eqb w.first (a + 1)) as (λ b. join_start c (cond b (range a w.last ∷ ws) (range a a ∷ w ∷ ws)) ≡ range c c ∷ cond b (range a w.last ∷ ws) (range a a ∷ w ∷ ws)) [
      | true ↦ rw other refl
      | false ↦ rw other refl
    ]

-- a start that is two or more before all others makes a window of its own
join_apart : (test : ℕ → Bool) (n c a : ℕ) → c + 1 < a → join_start c (gathered (filter test (range_with_len a n))) ≡ range c c ∷ gathered (filter test (range_with_len a n))
join_apart test zero c a apart = refl
join_apart test (suc n) c a apart =
    let rest = gathered (filter test (range_with_len (a + 1) n)) in
    let other : eqb a (c + 1) ≡ false = grind (arith, nat_tests) in
    let before : (ws : List Range) → join_start c (join_start a ws) ≡ range c c ∷ join_start a ws = λ ws. join_before c a ws other in
    elim (test a) as (λ b. join_start c (gathered (cond b (a ∷ filter test (range_with_len (a + 1) n)) (filter test (range_with_len (a + 1) n)))) ≡ range c c ∷ gathered (cond b (a ∷ filter test (range_with_len (a + 1) n)) (filter test (range_with_len (a + 1) n)))) [
      | true ↦ before rest
      | false ↦ join_apart test n c (a + 1) (omega arith)
    ]

module _ (test : ℕ → Bool) (e : ℕ) where
  -- there is none from the end on
  pub nothing : (a : ℕ) → e ≤ a → windows_from test e a ≡ []
  nothing a over = let is : e - a ≡ 0 = omega arith in rw is refl

  skip_count : (k a : ℕ) → ((s : ℕ) → a ≤ s → s < a + k → test s ≡ false) → windows_from test e a ≡ windows_from test e (a + k)
  skip_count zero a none = ap (windows_from test e) (omega arith)
  skip_count (suc k) a none =
      let here : test a ≡ false = none a (omega arith) (omega arith) in
      let rest : windows_from test e (a + 1) ≡ windows_from test e (a + 1 + k) = skip_count k (a + 1) (λ s le lt. none s (omega arith) (omega arith)) in
      let same : windows_from test e (a + 1 + k) ≡ windows_from test e (a + suc k) = ap (windows_from test e) (omega arith) in
      elim (cases_lt a e) [
        | inl more ↦ let is : e - a ≡ suc (e - (a + 1)) = omega arith in rw (is, here) (rest ∙ same)
        | inr done ↦ nothing a done ∙ sym (nothing (a + suc k) (omega arith))
      ]

  -- starts that fail are skipped
  pub skip : (a b : ℕ) → a ≤ b → ((s : ℕ) → a ≤ s → s < b → test s ≡ false) → windows_from test e a ≡ windows_from test e b
  skip a b order none =
      let to : a + (b - a) ≡ b = omega arith in
      skip_count (b - a) a (λ s le lt. none s le (omega arith)) ∙ ap (windows_from test e) to

  one_more : (a : ℕ) → a < e → test a ≡ true → windows_from test e a ≡ join_start a (windows_from test e (a + 1))
  one_more a within here = let is : e - a ≡ suc (e - (a + 1)) = omega arith in rw (is, here) refl

  -- a start behind which one fails, or none is
  alone : (a : ℕ) → a < e → test a ≡ true → (a + 1 < e → test (a + 1) ≡ false) → windows_from test e a ≡ range a a ∷ windows_from test e (a + 1)
  alone a within here next =
      one_more a within here ∙ elim (cases_lt (a + 1) e) [
        | inl more ↦
            let over : windows_from test e (a + 1) ≡ windows_from test e (a + 1 + 1) = skip (a + 1) (a + 1 + 1) (omega arith) (λ s le lt. let is : a + 1 ≡ s = omega arith in ap test (sym is) ∙ next more) in
            rw over (join_apart test (e - (a + 1 + 1)) a (a + 1 + 1) (omega arith))
        | inr done ↦ let over : windows_from test e (a + 1) ≡ [] = nothing (a + 1) done in rw over refl
      ]

  run_count : (k a : ℕ) → a + k < e → ((s : ℕ) → a ≤ s → s ≤ a + k → test s ≡ true) → (a + k + 1 < e → test (a + k + 1) ≡ false) → windows_from test e a ≡ range a (a + k) ∷ windows_from test e (a + k + 1)
  run_count zero a within all next =
      let is : a + 0 ≡ a = omega arith in
      rw is (alone a (omega arith) (all a (omega arith) (omega arith)) (λ more. ap test (omega arith) ∙ next (omega arith)))
  run_count (suc k) a within all next =
      let same : a + 1 + k ≡ a + suc k = omega arith in
      let rest : windows_from test e (a + 1) ≡ range (a + 1) (a + 1 + k) ∷ windows_from test e (a + 1 + k + 1) = run_count k (a + 1) (omega arith) (λ s le lt. all s (omega arith) (omega arith)) (λ more. ap test (ap (λ n. n + 1) same) ∙ next (omega arith)) in
      let joined : join_start a (windows_from test e (a + 1)) ≡ range a (a + 1 + k) ∷ windows_from test e (a + 1 + k + 1) = rw rest (let is : eqb (a + 1) (a + 1) ≡ true = grind (arith, nat_tests) in rw is refl) in
      one_more a (omega arith) (all a (omega arith) (omega arith)) ∙ joined ∙ ap (λ m. range a m ∷ windows_from test e (m + 1)) same

  -- a run of starts that pass is one window, where the start behind it fails or is past the end
  pub run : (a b : ℕ) → a < b → b ≤ e → ((s : ℕ) → a ≤ s → s < b → test s ≡ true) → (b < e → test b ≡ false) → windows_from test e a ≡ range a (b - 1) ∷ windows_from test e b
  run a b some within all next =
      let last : a + (b - 1 - a) ≡ b - 1 = omega arith in
      let behind : a + (b - 1 - a) + 1 ≡ b = omega arith in
      run_count (b - 1 - a) a (omega arith) (λ s le lt. all s le (omega arith)) (λ more. ap test behind ∙ next (omega arith)) ∙ ap (λ m. range a m ∷ windows_from test e (m + 1)) last ∙ ap (λ m. range a (b - 1) ∷ windows_from test e m) (omega arith)

-- two tests that agree there have the same windows
module _ (p q : ℕ → Bool) where
  same_count : (n a : ℕ) → ((s : ℕ) → a ≤ s → s < a + n → p s ≡ q s) → filter p (range_with_len a n) ≡ filter q (range_with_len a n)
  same_count zero a same = refl
  same_count (suc n) a same =
      let rest = same_count n (a + 1) (λ s le lt. same s (omega arith) (omega arith)) in
      rw (same a (omega arith) (omega arith), rest) refl

  pub same_windows : (e a : ℕ) → ((s : ℕ) → a ≤ s → s < e → p s ≡ q s) → windows_from p e a ≡ windows_from q e a
  same_windows e a same = ap gathered (same_count (e - a) a (λ s le lt. same s le (omega arith)))

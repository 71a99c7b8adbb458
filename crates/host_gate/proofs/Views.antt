-- Lists of views of which one changes, or that get one more.
use Rattle.std.proofs.Common.{◌≡◌, ◌≢◌, ℕ, suc, zero, List, [], ◌∷◌, ◌++◌, set, sym, refl, subst, ◌∙◌, ⊎_elim}
use mathlib.Core.Option.{some, some-injective, some-ne-none}
use lib.ListN.{get_elem?}
use Rattle.atomic_table.proofs.Lists.{at_set, at_snoc}
use Rattle.host_gate.specs.declared.view.View.{View}
use Rattle.host_gate.specs.Stages.{At}

module _ {K : Type 0} where
  -- what holds of the changed view and of the others holds of each
  pub each : (P : ℕ → View K → Type 0) (vs : List (View K)) (me : ℕ) (w : View K) → P me w → ((j : ℕ) (d : View K) → j ≢ me → At vs j d → P j d)
      → (j : ℕ) (d : View K) → At (set vs me w) j d → P j d
  each P vs me w mine others j d e = ⊎_elim (λ (t : (j ≡ me) × (w ≡ d)). subst (λ (x : ℕ × View K). P x.0 x.1) (λ i. (sym t.0 i, t.1 i)) mine)
      (λ (t : (j ≢ me) × (get_elem? vs j ≡ some d)). others j d t.0 t.1) (at_set vs me j w d e)

  pub there : (vs : List (View K)) (me : ℕ) (v w : View K) → At vs me v → At (set vs me w) me w
  there [] me v w at = absurd (some-ne-none v (sym at))
  there (x ∷ xs) zero v w at = refl
  there (x ∷ xs) (suc me) v w at = there xs me v w at

  -- a view is one
  pub one : (vs : List (View K)) (me : ℕ) (v w : View K) → At vs me v → At vs me w → v ≡ w
  one vs me v w a b = some-injective v w (sym a ∙ b)

  -- what holds of the views and of one more holds of each
  pub each_more : (P : ℕ → View K → Type 0) (vs : List (View K)) (w : View K) → ((j : ℕ) → P j w) → ((j : ℕ) (d : View K) → At vs j d → P j d) → (j : ℕ) (d : View K) → At (vs ++ w ∷ []) j d → P j d
  each_more P vs w new old j d e = ⊎_elim (λ (t : get_elem? vs j ≡ some d). old j d t) (λ (t : w ≡ d). subst (P j) t (new j)) (at_snoc vs w d j e)

-- The greatest of a list as a loop finds it, and the ceiling of bounded priorities, which is bounded.
use Rattle.std.proofs.Common.{◌≡◌, ℕ, ◌+◌, ◌<◌, ℤ, true, false, cond, List, [], ◌∷◌, length, get_or, drop, map, filter, All, int_lt, refl, sym, ap, subst, ◌∙◌, arith}
use Rattle.std.specs.Int.{int_max}
use Rattle.std.proofs.lemmas.Int.{ints, clamps}
use Rattle.std.proofs.lemmas.List.{at_drop_more}
use Rattle.std.proofs.lemmas.List.Elements.{All-head, All-tail}
use Rattle.ps_time.specs.declared.asker.Asker.{Asker}
use Rattle.limit_apply.specs.Limits.{LimitsConfig, IsPriority, AreBounded, greatest, held_ceilings, holds_at, ceiling_of}
use Rattle.limit_apply.specs.declared.limits.Ceiling.{Ceiling}

max_moved : (x y z : ℤ) → int_max x (int_max y z) ≡ int_max y (int_max x z)
max_moved x y z = omega (arith, ints, clamps)

-- the first of a list may be looked at before the others
greatest_next : (z y : ℤ) (ys : List ℤ) → greatest z (y ∷ ys) ≡ greatest (int_max y z) ys
greatest_next z y [] = refl
greatest_next z y (x ∷ ys) = max_moved y x (greatest z ys) ∙ ap (int_max x) (greatest_next z y ys)

-- so the entries with ceilings may be looked at one after another
held_next : (config : LimitsConfig) (asker : Asker) (z : ℤ) (c : Ceiling) (cs : List Ceiling)
    → greatest z (held_ceilings config asker (c ∷ cs)) ≡ greatest (greatest z (held_ceilings config asker (c ∷ []))) (held_ceilings config asker cs)
held_next config asker z c cs =
    let held = filter (λ (e : Ceiling). holds_at config asker e.classifier) cs in
    let ceilings = map (λ (e : Ceiling). e.ceiling) in
    elim (holds_at config asker c.classifier) as (λ t. greatest z (ceilings (cond t (c ∷ held) held)) ≡ greatest (greatest z (ceilings (cond t (c ∷ []) []))) (ceilings held)) [
      | true ↦ greatest_next z c.ceiling (ceilings held)
      | false ↦ refl
    ]

-- one turn of the loop: what is left decides, behind the entry at `i`
pub ceiling_step : (config : LimitsConfig) (asker : Asker) (all z more : ℤ) (seen cs : List Ceiling) (i : ℕ) (d : Ceiling)
    → i < length seen → all ≡ greatest z (held_ceilings config asker (drop i cs)) → more ≡ greatest z (held_ceilings config asker (get_or seen i d ∷ [])) → seen ≡ cs
    → all ≡ greatest more (held_ceilings config asker (drop (i + 1) cs))
ceiling_step config asker all z more seen cs i d within so_far here same =
    so_far
    ∙ at_drop_more (λ es. greatest z (held_ceilings config asker es)) cs i d (subst (λ es. i < length es) same within)
    ∙ held_next config asker z (get_or cs i d) (drop (i + 1) cs)
    ∙ ap (λ y. greatest y (held_ceilings config asker (drop (i + 1) cs))) (sym (here ∙ ap (λ es. greatest z (held_ceilings config asker (get_or es i d ∷ []))) same))

max_within : (a b : ℤ) → IsPriority a → IsPriority b → IsPriority (int_max a b)
max_within a b here there = elim (int_lt b a) as (λ t. IsPriority (cond t a b)) [
  | true ↦ here
  | false ↦ there
]

held_within : (config : LimitsConfig) (asker : Asker) (z : ℤ) (cs : List Ceiling) → IsPriority z → All (λ c. IsPriority c.ceiling) cs → IsPriority (greatest z (held_ceilings config asker cs))
held_within config asker z [] here all = here
held_within config asker z (c ∷ cs) here all =
    let later = held_within config asker z cs here (All-tail (λ c. IsPriority c.ceiling) c cs all) in
    let held = filter (λ (e : Ceiling). holds_at config asker e.classifier) cs in
    elim (holds_at config asker c.classifier) as (λ t. IsPriority (greatest z (map (λ (e : Ceiling). e.ceiling) (cond t (c ∷ held) held)))) [
      | true ↦ max_within c.ceiling _ (All-head (λ c. IsPriority c.ceiling) c cs all) later
      | false ↦ later
    ]

pub ceiling_within : (config : LimitsConfig) (asker : Asker) → AreBounded config.priorities → IsPriority (ceiling_of config asker)
ceiling_within config asker bounded = held_within config asker config.priorities.default config.priorities.ceilings bounded.default bounded.ceilings

pub of_ceiling : (z : ℤ) (config : LimitsConfig) (asker : Asker) → z ≡ ceiling_of config asker → AreBounded config.priorities → IsPriority z
of_ceiling z config asker is bounded = rw is (ceiling_within config asker bounded)

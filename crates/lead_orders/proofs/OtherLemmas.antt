-- Whether an acceptance is the last one that was missing, told place by place.
use Rattle.std.specs.List.{list_all}
use Rattle.std.specs.Prelude.{◌&&◌, ◌==◌, ◌||◌}
use Rattle.std.proofs.Common.{◌≡◌, ◌+◌, ◌<◌, ℕ, zero, suc, true, false, List, [], ◌∷◌, refl, sym, ap, ap₂, ◌∙◌, arith}
use Rattle.std.proofs.lemmas.Bool.Decides.{nat_tests}
use Rattle.run_states.specs.Effect.{change_at, change_other, is_complete, with_acceptance}
use Rattle.run_states.specs.declared.answer.Other.{Other}
use Rattle.run_states.specs.declared.row.RunRow.{RunRow}
use Rattle.lead_orders.specs.Others.{accepted_beside}

differs : (at place : ℕ) → place < at → (at == place) ≡ false
differs at place below = grind (arith, nat_tests)

-- behind the place each one counts
behind : (place at : ℕ) (os : List Other) → place < at → accepted_beside place at os ≡ list_all (λ o. o.accepted) os
behind place at [] below = refl
behind place at (o ∷ os) below = ap₂ (λ x y. (x || o.accepted) && y) (differs at place below) (behind place (at + 1) os (omega arith))

changed : (i at : ℕ) (os : List Other) → accepted_beside (i + at) at os ≡ list_all (λ o. o.accepted) (change_at with_acceptance i os)
changed i at [] = refl
changed zero at (o ∷ os) =
    let here : (at == 0 + at) ≡ true = grind (arith, nat_tests) in
    ap₂ (λ x y. (x || o.accepted) && y) here (behind (0 + at) (at + 1) os (omega arith))
changed (suc i) at (o ∷ os) =
    let other : (at == suc i + at) ≡ false = grind (arith, nat_tests) in
    let place : suc i + at ≡ i + (at + 1) = omega arith in
    ap₂ (λ x y. (x || o.accepted) && y) other (ap (λ p. accepted_beside p (at + 1) os) place ∙ changed i (at + 1) os)

pub complete_beside : (place : ℕ) (r : RunRow) → is_complete (change_other with_acceptance place r) ≡ accepted_beside place 1 r.others
complete_beside zero r = sym (behind zero 1 r.others (omega arith))
complete_beside (suc i) r = let at : suc i ≡ i + 1 = omega arith in sym (ap (λ p. accepted_beside p 1 r.others) at ∙ changed i 1 r.others)

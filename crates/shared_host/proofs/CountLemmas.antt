-- Which calls count as changes.
use Rattle.std.specs.Prelude.{Bool, ◌==◌, ◌&&◌, ◌||◌, is_some, not}
use Rattle.std.proofs.Common.{◌≡◌, ◌≤◌, ℕ, ◌+◌, ◌-◌, true, false, List, Option, None, Some, ap, arith, length, option_map, refl, ◌∙◌}
use Rattle.std.proofs.lemmas.Bool.Decides.{nat_tests}
use Rattle.host_journal.specs.State.{State}
use Rattle.machine_keep.specs.Course.{Moves}

-- the records end elsewhere
abbrev pub moved : {D : Type 0} → State D → State D → Bool
moved old now = not ((now.generation == old.generation) && (now.end - now.start == old.end - old.start))

both_same : (a b c d : ℕ) → a ≡ b → c ≡ d → not ((a == b) && (c == d)) ≡ false
both_same a b c d first second = grind (arith, nat_tests)

first_differs : (a b c d : ℕ) → a ≡ b + 1 → not ((a == b) && (c == d)) ≡ true
first_differs a b c d first = grind (arith, nat_tests)

second_differs : (a b c d n : ℕ) → c ≡ d + 5 + n → not ((a == b) && (c == d)) ≡ true
second_differs a b c d n second = grind (arith, nat_tests)

-- exactly where a step was kept
pub moved_by : {D : Type 0} (old place now : State D) (o i : Option (List ℕ)) → place ≡ old → old.start ≤ old.end → Moves place o i now → moved old now ≡ is_some o
moved_by {D} old place now None i is order m =
    let generation : now.generation ≡ old.generation = ap (λ (s : State D). s.generation) m ∙ ap (λ (s : State D). s.generation) is in
    let end : now.end ≡ old.end = ap (λ (s : State D). s.end) m ∙ ap (λ (s : State D). s.end) is in
    let start : now.start ≡ old.start = ap (λ (s : State D). s.start) m ∙ ap (λ (s : State D). s.start) is in
    both_same now.generation old.generation (now.end - now.start) (old.end - old.start) generation (omega (arith, end, start))
moved_by {D} old place now (Some payload) None is order m =
    let end : place.end ≡ old.end = ap (λ (s : State D). s.end) is in
    let start : place.start ≡ old.start = ap (λ (s : State D). s.start) is in
    second_differs now.generation old.generation (now.end - now.start) (old.end - old.start) (length payload) (omega (arith, end, start, order, m.end, m.start))
moved_by {D} old place now (Some payload) (Some image) is order m =
    first_differs now.generation old.generation (now.end - now.start) (old.end - old.start) (m.generation ∙ ap (λ (s : State D). s.generation + 1) is)

pub some_bytes : {T : Type 0} (bytes : T → List ℕ) (o : Option T) → is_some (option_map bytes o) ≡ is_some o
some_bytes bytes None = refl
some_bytes bytes (Some step) = refl

-- ---- what it comes to where no disk failed
pub step_counts : (ready m some : Bool) → (ready ≡ true → m ≡ some) → (not ready || m) ≡ (not ready || some)
step_counts true m some is = is refl
step_counts false m some is = refl

pub none_counts : (ready m : Bool) → (ready ≡ true → m ≡ false) → (not ready || m) ≡ not ready
none_counts true m is = is refl
none_counts false m is = refl

-- ---- what no change means
pub no_step : {T : Type 0} (ready : Bool) (o : Option T) → (not ready || is_some o) ≡ false → (ready ≡ true) × (o ≡ None)
no_step true None e = (refl, refl)
no_step true (Some step) e = let never : ⊥ = cc in absurd never
no_step false o e = let never : ⊥ = cc in absurd never

pub was_ready : (ready : Bool) → not ready ≡ false → ready ≡ true
was_ready true e = refl
was_ready false e = cc

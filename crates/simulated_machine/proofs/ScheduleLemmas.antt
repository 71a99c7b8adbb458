-- Which call of a schedule is to fail, from which one fails of the calls that a step makes.
use Rattle.std.specs.Prelude.{option_map}
use Rattle.std.proofs.Common.{◌≡◌, ◌∙◌, ℕ, suc, ◌+◌, ◌-◌, ◌==◌, Bool, true, false, not, if◌then◌else◌, List, [], ◌∷◌, ◌++◌, length, map, take, Option, None, Some, ap, arith, refl}
use Rattle.host_journal.specs.State.{State}
use Rattle.machine_keep.specs.Calls.{PairCalls, first_calls, second_calls, step_calls}
use Rattle.machine_keep.specs.Stopped.{first_fault}
use Rattle.simulated_machine.specs.Held.{calls_of, failing, four, on_first, on_second, seven, syncs}
use Rattle.simulated_machine.specs.AfterStep.{IsBeyond}

-- of calls it is that of their disks
pub by_disks : (first second : ℕ) (calls : PairCalls) → first_fault first second calls ≡ failing first second (map (λ c. c.0) calls)
by_disks first second [] = refl
by_disks first second ((false, call) ∷ calls) = by (first == 1) (by_disks (first - 1) second calls)
  where
    by : (b : Bool) → first_fault (first - 1) second calls ≡ failing (first - 1) second (map (λ c. c.0) calls)
        → (if b then Some 1 else option_map (λ n. n + 1) (first_fault (first - 1) second calls)) ≡ (if b then Some 1 else option_map (λ n. n + 1) (failing (first - 1) second (map (λ c. c.0) calls)))
    by true rest = refl
    by false rest = ap (option_map (λ n. n + 1)) rest
by_disks first second ((true, call) ∷ calls) = by (second == 1) (by_disks first (second - 1) calls)
  where
    by : (b : Bool) → first_fault first (second - 1) calls ≡ failing first (second - 1) (map (λ c. c.0) calls)
        → (if b then Some 1 else option_map (λ n. n + 1) (first_fault first (second - 1) calls)) ≡ (if b then Some 1 else option_map (λ n. n + 1) (failing first (second - 1) (map (λ c. c.0) calls)))
    by true rest = refl
    by false rest = ap (option_map (λ n. n + 1)) rest

-- so many are of the first disk, and of the second
pub first_counted : (calls : PairCalls) → length (first_calls calls) ≡ on_first (map (λ c. c.0) calls)
first_counted [] = refl
first_counted ((false, call) ∷ calls) = omega (arith, first_counted calls)
first_counted ((true, call) ∷ calls) = first_counted calls

pub second_counted : (calls : PairCalls) → length (second_calls calls) ≡ on_second (map (λ c. c.0) calls)
second_counted [] = refl
second_counted ((false, call) ∷ calls) = second_counted calls
second_counted ((true, call) ∷ calls) = omega (arith, second_counted calls)

-- the disks of a step's calls are the front of the schedule
pub disks_of_step : {D : Type 0} (ready : Bool) (place : State D) (payload image : Option (List ℕ)) → (payload ≡ None → image ≡ None)
    → map (λ c. c.0) (step_calls ready place payload image) ≡ take (calls_of ready payload image) (syncs ready ++ (four place.second ++ seven (not place.second)))
disks_of_step true place None None none = refl
disks_of_step false place None None none = refl
disks_of_step true place (Some payload) None none = refl
disks_of_step false place (Some payload) None none = refl
disks_of_step true place (Some payload) (Some image) none = refl
disks_of_step false place (Some payload) (Some image) none = refl
disks_of_step ready place None (Some image) none = absurd (cc (none refl))

-- ---- the front of a schedule
-- a call is to fail in the front: it is the first of all
pub met_in_front : (first second n : ℕ) (front back : List Bool) → failing first second front ≡ Some n → failing first second (front ++ back) ≡ Some n
met_in_front first second n [] back met = absurd (cc met)
met_in_front first second n (false ∷ front) back met = by (first == 1) (failing (first - 1) second front) (λ m. met_in_front (first - 1) second m front back) refl met
  where
    by : (b : Bool) (o : Option ℕ) → ((m : ℕ) → failing (first - 1) second front ≡ Some m → failing (first - 1) second (front ++ back) ≡ Some m)
        → failing (first - 1) second front ≡ o → (if b then Some 1 else option_map (λ n. n + 1) o) ≡ Some n
        → (if b then Some 1 else option_map (λ n. n + 1) (failing (first - 1) second (front ++ back))) ≡ Some n
    by true o rest is met = met
    by false (Some m) rest is met = ap (option_map (λ n. n + 1)) (rest m is) ∙ met
    by false None rest is met = absurd (cc met)
met_in_front first second n (true ∷ front) back met = by (second == 1) (failing first (second - 1) front) (λ m. met_in_front first (second - 1) m front back) refl met
  where
    by : (b : Bool) (o : Option ℕ) → ((m : ℕ) → failing first (second - 1) front ≡ Some m → failing first (second - 1) (front ++ back) ≡ Some m)
        → failing first (second - 1) front ≡ o → (if b then Some 1 else option_map (λ n. n + 1) o) ≡ Some n
        → (if b then Some 1 else option_map (λ n. n + 1) (failing first (second - 1) (front ++ back))) ≡ Some n
    by true o rest is met = met
    by false (Some m) rest is met = ap (option_map (λ n. n + 1)) (rest m is) ∙ met
    by false None rest is met = absurd (cc met)

-- each is counted from 1
counted_from : (o : Option ℕ) → IsBeyond 0 (option_map (λ n. n + 1) o)
counted_from None = tt
counted_from (Some n) = omega arith

one_at_least : (first second : ℕ) (calls : List Bool) → IsBeyond 0 (failing first second calls)
one_at_least first second [] = tt
one_at_least first second (false ∷ calls) = by (first == 1)
  where
    by : (b : Bool) → IsBeyond 0 (if b then Some 1 else option_map (λ n. n + 1) (failing (first - 1) second calls))
    by true = omega arith
    by false = counted_from (failing (first - 1) second calls)
one_at_least first second (true ∷ calls) = by (second == 1)
  where
    by : (b : Bool) → IsBeyond 0 (if b then Some 1 else option_map (λ n. n + 1) (failing first (second - 1) calls))
    by true = omega arith
    by false = counted_from (failing first (second - 1) calls)

one_further : (made : ℕ) (o : Option ℕ) → IsBeyond made o → IsBeyond (suc made) (option_map (λ n. n + 1) o)
one_further made None beyond = tt
one_further made (Some n) beyond = omega (arith, beyond)

-- none is to fail in the front: the first of all comes behind it
pub beyond_front : (first second : ℕ) (front back : List Bool) → failing first second front ≡ None → IsBeyond (length front) (failing first second (front ++ back))
beyond_front first second [] back none = one_at_least first second back
beyond_front first second (false ∷ front) back none = by (first == 1) (failing (first - 1) second front) (beyond_front (first - 1) second front back) refl none
  where
    by : (b : Bool) (o : Option ℕ) → (failing (first - 1) second front ≡ None → IsBeyond (length front) (failing (first - 1) second (front ++ back)))
        → failing (first - 1) second front ≡ o → (if b then Some 1 else option_map (λ n. n + 1) o) ≡ None
        → IsBeyond (suc (length front)) (if b then Some 1 else option_map (λ n. n + 1) (failing (first - 1) second (front ++ back)))
    by true o rest is none = absurd (cc none)
    by false (Some m) rest is none = absurd (cc none)
    by false None rest is none = one_further (length front) (failing (first - 1) second (front ++ back)) (rest is)
beyond_front first second (true ∷ front) back none = by (second == 1) (failing first (second - 1) front) (beyond_front first (second - 1) front back) refl none
  where
    by : (b : Bool) (o : Option ℕ) → (failing first (second - 1) front ≡ None → IsBeyond (length front) (failing first (second - 1) (front ++ back)))
        → failing first (second - 1) front ≡ o → (if b then Some 1 else option_map (λ n. n + 1) o) ≡ None
        → IsBeyond (suc (length front)) (if b then Some 1 else option_map (λ n. n + 1) (failing first (second - 1) (front ++ back)))
    by true o rest is none = absurd (cc none)
    by false (Some m) rest is none = absurd (cc none)
    by false None rest is none = one_further (length front) (failing first (second - 1) (front ++ back)) (rest is)

-- What is new in a row after the change of its key.
use Rattle.std.proofs.Common.{◌≡◌, ◌⊎◌, inl, inr, ◌+◌, ◌<◌, ℕ, zero, suc, true, IsTrue, List, [], ◌∷◌, length, Option, Some, slice_get, refl, sym, ap, ◌∙◌, subst, arith}
use Rattle.std.specs.List.{list_all}
use Rattle.ps_time.proofs.PictureLemmas.{and_true}
use Rattle.run_states.specs.Effect.{change_at, change_other, is_complete, with_acceptance, with_free, with_result, with_told}
use Rattle.run_states.specs.declared.answer.Other.{Other}
use Rattle.run_states.specs.declared.answer.Told.{Told}
use Rattle.run_states.specs.declared.answer.Told.TheVariants.{Confirm as told_confirm, Cancel as told_cancel, Material as told_material}
use Rattle.run_states.specs.declared.row.RunRow.{RunRow}
use Rattle.world_law.proofs.Allowed.{AllFlagged, HasFlag}

-- ---- lists
-- an item after a change at a place was there before, or is the changed one
changed_get : {A : Type 0} (f : A → A) (i : ℕ) (xs : List A) (j : ℕ) (y : A) → slice_get (change_at f i xs) j ≡ Some y → (x : A) × (slice_get xs j ≡ Some x) × ((x ≡ y) ⊎ ((i ≡ j) × (f x ≡ y)))
changed_get f i [] j y e = cc
changed_get f zero (x ∷ xs) zero y e = (x, refl, inr (refl, cc))
changed_get f zero (x ∷ xs) (suc j) y e = (y, e, inl refl)
changed_get f (suc i) (x ∷ xs) zero y e = (x, refl, inl cc)
changed_get f (suc i) (x ∷ xs) (suc j) y e = let z = changed_get f i xs j y e in (z.0, z.1, elim z.2 [ inl s ↦ inl s | inr s ↦ inr (ap suc s.0, s.1) ])

-- ---- flags
-- what is known of the others changed, but for acceptances
pub flag_stays : (f : Other → Other) → ((o : Other) → (f o).accepted ≡ o.accepted) → (place : ℕ) (r : RunRow) (j : ℕ) → HasFlag j (change_other f place r) → HasFlag j r
flag_stays f same zero r j x = x
flag_stays f same (suc i) r j x =
    let y = changed_get f i r.others j x.0 x.1 in
    (y.0, y.1, elim y.2 [ inl s ↦ subst (λ o. IsTrue o.accepted) (sym s) x.2 | inr s ↦ sym (same y.0) ∙ subst (λ o. IsTrue o.accepted) (sym s.1) x.2 ])

pub free_same : (answer : _) (o : Other) → (with_free answer o).accepted ≡ o.accepted
free_same answer o = refl

pub result_same : (result : Option (List ℕ)) (o : Other) → (with_result result o).accepted ≡ o.accepted
result_same result o = refl

pub told_same : (told : Told) (o : Other) → (with_told told o).accepted ≡ o.accepted
told_same told_confirm o = refl
told_same told_cancel o = refl
told_same told_material o = refl

-- the flag of this place came
pub flag_comes : (place : ℕ) (r : RunRow) (j : ℕ) → HasFlag j (change_other with_acceptance place r) → HasFlag j r ⊎ (place ≡ suc j)
flag_comes zero r j x = inl x
flag_comes (suc i) r j x =
    let y = changed_get with_acceptance i r.others j x.0 x.1 in
    elim y.2 [ inl s ↦ inl (y.0, y.1, subst (λ o. IsTrue o.accepted) (sym s) x.2) | inr s ↦ inr (ap suc s.0) ]

-- ---- all are flagged
flag_at : (xs : List Other) (j : ℕ) → j < length xs → (o : Other) × (slice_get xs j ≡ Some o)
flag_at [] j low = absurd (omega (arith, low))
flag_at (x ∷ xs) zero low = (x, refl)
flag_at (x ∷ xs) (suc j) low = flag_at xs j (omega (arith, low))

pub get_within : {A : Type 0} (xs : List A) (j : ℕ) (x : A) → slice_get xs j ≡ Some x → j < length xs
get_within [] j x e = cc
get_within (y ∷ ys) zero x e = omega arith
get_within (y ∷ ys) (suc j) x e = let low = get_within ys j x e in omega (arith, low)

complete_at : (xs : List Other) (j : ℕ) (o : Other) → list_all (λ o. o.accepted) xs ≡ true → slice_get xs j ≡ Some o → IsTrue o.accepted
complete_at [] j o all e = cc
complete_at (x ∷ xs) zero o all e = let same : x ≡ o = cc in subst (λ y. IsTrue y.accepted) same (and_true x.accepted _ all).0
complete_at (x ∷ xs) (suc j) o all e = complete_at xs j o (and_true x.accepted _ all).1 e

pub complete_flags : (r : RunRow) → length r.others + 1 ≡ length r.participants → is_complete r ≡ true → AllFlagged r
complete_flags r count all j name e =
    let low = get_within r.participants (suc j) name e in
    let x = flag_at r.others j (omega (arith, count, low)) in
    (x.0, x.1, complete_at r.others j x.0 all x.1)

-- a row whose only participant is the lead has none
pub alone_flags : (r : RunRow) → length r.participants ≡ 1 → AllFlagged r
alone_flags r one j name e = let low = get_within r.participants (suc j) name e in absurd (omega (arith, one, low))

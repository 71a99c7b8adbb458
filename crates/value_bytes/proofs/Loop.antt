-- Reading and writing values one after the other, as a loop does.
use Rattle.std.proofs.Common.{◌≡◌, ℕ, suc, ◌-◌, ◌+◌, ◌≤◌, ◌<◌, List, [], ◌∷◌, ◌++◌, All, length, get_or, take, flat_map, Option, Some, None, refl, sym, ap, ◌∙◌, append_assoc, arith}
use Rattle.std.proofs.lemmas.List.{append-nil, flat_map_more, take_more}
use Rattle.value_bytes.specs.Gives.{Fails}
use Rattle.value_bytes.specs.Reading.{behind, times_at}
use Rattle.value_bytes.specs.declared.fault.CodeFault.{CodeFault}
use Rattle.value_bytes.specs.declared.fault.CodeFault.TheVariants.{Memory, NoValue}

-- what was read before, and what is still read
abbrev pub with_front : {A : Type 0} → List A → Option (List A × List ℕ) → Option (List A × List ℕ)
with_front front read = behind read (λ xs rest. Some (front ++ xs, rest))

regroup : {A : Type 0} (front : List A) (a : A) (read : Option (List A × List ℕ)) → with_front front (behind read (λ xs rest. Some (a ∷ xs, rest))) ≡ with_front (front ++ a ∷ []) read
regroup {A} front a (Some x) = ap (λ (xs : List A). Some (xs, x.1)) (sym (append_assoc front (a ∷ []) x.0))
regroup front a None = refl

module _ {A : Type 0} (read : List ℕ → Option (A × List ℕ)) where
  pub goes_on : (front : List A) (count i : ℕ) (bytes : List ℕ) (a : A) (after : List ℕ) (total : Option (List A × List ℕ)) → i < count → read bytes ≡ Some (a, after)
      → with_front front (times_at read (count - i) bytes) ≡ total → with_front (front ++ a ∷ []) (times_at read (count - (i + 1)) after) ≡ total
  goes_on front count i bytes a after total lt h so_far =
      let k : count - i ≡ suc (count - (i + 1)) = omega arith in
      let one : with_front front (times_at read (count - i) bytes) ≡ with_front (front ++ a ∷ []) (times_at read (count - (i + 1)) after) = rw (k, h) (regroup front a (times_at read (count - (i + 1)) after)) in
      sym one ∙ so_far

  pub ends : (fault : CodeFault) (front : List A) (count i : ℕ) (bytes : List ℕ) (total : Option (List A × List ℕ)) → i < count → Fails fault (read bytes)
      → with_front front (times_at read (count - i) bytes) ≡ total → Fails fault total
  ends Memory front count i bytes total lt h so_far = tt
  ends NoValue front count i bytes total lt h so_far =
      let k : count - i ≡ suc (count - (i + 1)) = omega arith in
      let one : with_front front (times_at read (count - i) bytes) ≡ None = rw (k, h) refl in
      sym so_far ∙ one

  pub is_done : (front : List A) (count i : ℕ) (bytes : List ℕ) (total : Option (List A × List ℕ)) → count ≤ i → with_front front (times_at read (count - i) bytes) ≡ total → total ≡ Some (front, bytes)
  is_done front count i bytes total le so_far =
      let k : count - i ≡ 0 = omega arith in
      let one : with_front front (times_at read (count - i) bytes) ≡ Some (front, bytes) = rw k (ap (λ (xs : List A). Some (xs, bytes)) (append-nil front)) in
      sym so_far ∙ one

-- what a loop keeps: what was read and what is left make the whole
pub record IsReading {A : Type 0} (Fits : A → Type 0) (read : List ℕ → Option (A × List ℕ)) (count i : ℕ) (front : List A) (bytes : List ℕ) (total : Option (List A × List ℕ)) : Type 0 where
  pub so_far : with_front front (times_at read (count - i) bytes) ≡ total
  pub number : length front ≡ i
  pub within : i ≤ count
  pub fit : All Fits front

-- one more value is written
pub written_more : {A : Type 0} (code : A → List ℕ) (items : List A) (i : ℕ) (item : A) (front before after : List ℕ) → i < length items → item ≡ get_or items i item
    → before ≡ front ++ flat_map code (take i items) → after ≡ before ++ code item → after ≡ front ++ flat_map code (take (i + 1) items)
written_more {A} code items i item front before after here is so_far wrote =
    wrote ∙ (ap (λ (t : List ℕ). t ++ code item) so_far ∙ (flat_map_more code front (take i items) item
    ∙ ap (λ (xs : List A). front ++ flat_map code xs) (ap (λ (x : A). take i items ++ x ∷ []) is ∙ sym (take_more items i item here))))

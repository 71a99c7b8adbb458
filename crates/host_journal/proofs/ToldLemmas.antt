-- The calls that disks tell, where the last of a run failed.
use Rattle.std.proofs.Common.{◌≡◌, ◌⊎◌, inl, inr, ⊎_elim, ℕ, ◌+◌, Bool, false, true, if◌then◌else◌, List, [], ◌∷◌, ◌++◌, length, refl, sym, ◌∙◌, ap, subst, append-nil, append_assoc}
use Rattle.std.specs.Prelude.{IsErrAnd, Option, None, Some, Result, Ok, Err}
use Rattle.std.specs.Int.{w32, to_be_bytes}
use Rattle.ps_ports.specs.Causes.{Rose}
use Rattle.ps_disks.specs.declared.disk.DiskCall.{DiskCall}
use Rattle.ps_disks.specs.declared.disk.DiskCall.TheVariants.{Write, Sync}
use Rattle.host_journal.specs.State.{State, append_calls}
use Rattle.host_journal.specs.Told.{TellsAll, MakesAll, TellsFirst, TellsSyncs}
use Rattle.host_journal.proofs.CallLemmas.{tells_on}

-- a fault that is handed on
pub handed_on : {T A E : Type 0} (r : Result T E) (q : Result A E) (x z : E) → IsErrAnd r (λ y. y ≡ x) → q ≡ Err x → r ≡ Err z → q ≡ Err z
handed_on (Ok t) q x z is was e = absurd is
handed_on (Err y) q x z is was e = cc

pub tells_nothing : (o : Option (List DiskCall)) → TellsAll o o []
tells_nothing None = tt
tells_nothing (Some calls) = (calls, refl, sym (append-nil calls))

module _ {D : Type 0} (told : D → Option (List DiskCall)) (faults : D → ℕ) (calls_advance : D → D → Type 0) (calls_advance_refl : (disk : D) → calls_advance disk disk) (calls_advance_trans : (a b c : D) → calls_advance a b → calls_advance b c → calls_advance a c) where
  -- two runs without a fault, one after the other
  pub makes_on : (a b c : D) (xs ys : List DiskCall) → MakesAll told faults calls_advance a b xs → MakesAll told faults calls_advance b c ys → MakesAll told faults calls_advance a c (xs ++ ys)
  makes_on a b c xs ys one two = record {
    told = tells_on (told a) (told b) (told c) xs ys one.told two.told;
    no_fault = two.no_fault ∙ one.no_fault;
    calls_advance = calls_advance_trans a b c one.calls_advance two.calls_advance;
  }

  -- the first call failed
  pub fails_now : (a b : D) (call : DiskCall) (rest : List DiskCall) → TellsAll (told a) (told b) (call ∷ []) → Rose (faults a) (faults b) → calls_advance a b → TellsFirst told faults calls_advance a b (call ∷ rest)
  fails_now a b call rest tells rose calls_advance_on = record {
    made = [];
    failed = call;
    rest = rest;
    split = refl;
    mid = a;
    before = record { told = tells_nothing (told a); no_fault = refl; calls_advance = calls_advance_refl a };
    told = tells;
    rose = rose;
    calls_advance = calls_advance_on;
  }

  -- some of the first run
  pub told_part : (a b : D) (xs ys : List DiskCall) → TellsFirst told faults calls_advance a b xs → TellsFirst told faults calls_advance a b (xs ++ ys)
  told_part a b xs ys first = record {
    made = first.made;
    failed = first.failed;
    rest = first.rest ++ ys;
    split = ap (λ (l : List DiskCall). l ++ ys) first.split ∙ append_assoc first.made (first.failed ∷ first.rest) ys;
    mid = first.mid;
    before = first.before;
    told = first.told;
    rose = first.rose;
    calls_advance = first.calls_advance;
  }

  -- all of the first run, and some of the second
  pub told_rest : (a b c : D) (xs ys : List DiskCall) → MakesAll told faults calls_advance a b xs → TellsFirst told faults calls_advance b c ys → TellsFirst told faults calls_advance a c (xs ++ ys)
  told_rest a b c xs ys all first = record {
    made = xs ++ first.made;
    failed = first.failed;
    rest = first.rest;
    split = ap (λ (l : List DiskCall). xs ++ l) first.split ∙ sym (append_assoc xs first.made (first.failed ∷ first.rest));
    mid = first.mid;
    before = makes_on a b first.mid xs first.made all first.before;
    told = first.told;
    rose = first.rose;
    calls_advance = first.calls_advance;
  }

  -- a fault was met at the first of two disks
  pub first_sync : (one other one_new : D) → TellsAll (told one) (told one_new) (Sync ∷ []) → Rose (faults one) (faults one_new) → calls_advance one one_new → TellsSyncs told faults calls_advance one other one_new other
  first_sync one other one_new tells rose calls_advance_on = inl (fails_now one one_new Sync [] tells rose calls_advance_on, refl)

  -- both were synced without a fault, and then a read of one failed
  pub behind_syncs : (one other one_mid other_mid one_new other_new : D) → MakesAll told faults calls_advance one one_mid (Sync ∷ []) → MakesAll told faults calls_advance other other_mid (Sync ∷ [])
      → told one_new ≡ told one_mid → told other_new ≡ told other_mid → Rose (faults one_mid) (faults one_new) ⊎ Rose (faults other_mid) (faults other_new) → calls_advance one_mid one_new → calls_advance other_mid other_new
      → TellsSyncs told faults calls_advance one other one_new other_new
  behind_syncs one other one_mid other_mid one_new other_new first second still still_too rose on on_too = inr (record {
    mid = one_mid;
    before = first;
    still = still;
    told = subst (λ (o : Option (List DiskCall)). TellsAll (told other) o (Sync ∷ [])) (sym still_too) second.told;
    rose = ⊎_elim (λ r. inl r) (λ r. inr (subst (λ (n : ℕ). Rose n (faults other_new)) second.no_fault r)) rose;
    calls_advance_one = on;
    calls_advance_other = calls_advance_trans other other_mid other_new second.calls_advance on_too;
  })

  -- the same in the order of the pair
  pub behind_ordered : (side : Bool) (one other one_mid other_mid one_new other_new : D) → MakesAll told faults calls_advance one one_mid (Sync ∷ []) → MakesAll told faults calls_advance other other_mid (Sync ∷ [])
      → told one_new ≡ told one_mid → told other_new ≡ told other_mid → Rose (faults one_mid) (faults one_new) ⊎ Rose (faults other_mid) (faults other_new) → calls_advance one_mid one_new → calls_advance other_mid other_new
      → TellsSyncs told faults calls_advance (if side then other else one) (if side then one else other) (if side then other_new else one_new) (if side then one_new else other_new)
  behind_ordered false one other one_mid other_mid one_new other_new first second still still_too rose on on_too =
      behind_syncs one other one_mid other_mid one_new other_new first second still still_too rose on on_too
  behind_ordered true one other one_mid other_mid one_new other_new first second still still_too rose on on_too =
      behind_syncs other one other_mid one_mid other_new one_new second first still_too still (⊎_elim (λ r. inr r) (λ r. inl r) rose) on_too on

  -- The calls of an append.
  module _ (s old : State D) (is : s ≡ old) (payload piece : List ℕ) (is_piece : piece ≡ to_be_bytes w32 (length payload) ++ (payload ++ 0 ∷ [])) where
    abbrev behind : ℕ → List ℕ → List DiskCall
    behind end record_piece = Write (end + 1) record_piece ∷ Sync ∷ []

    abbrev gate_byte : ℕ → List DiskCall
    gate_byte end = Write end (1 ∷ []) ∷ Sync ∷ []

    appended_first : (new : D) → TellsFirst told faults calls_advance s.counting new (behind s.end piece ++ gate_byte s.end) → TellsFirst told faults calls_advance old.counting new (append_calls old.end payload)
    appended_first new now =
        subst (λ (o : State D). TellsFirst told faults calls_advance o.counting new (append_calls o.end payload)) is
        (subst (λ (l : List ℕ). TellsFirst told faults calls_advance s.counting new (behind s.end l ++ gate_byte s.end)) is_piece now)

    pub append_told_behind : (new : D) → TellsFirst told faults calls_advance s.counting new (behind s.end piece) → TellsFirst told faults calls_advance old.counting new (append_calls old.end payload)
    append_told_behind new first = appended_first new (told_part s.counting new (behind s.end piece) (gate_byte s.end) first)

    pub append_told_gate : (mid new : D) → MakesAll told faults calls_advance s.counting mid (behind s.end piece) → TellsFirst told faults calls_advance mid new (gate_byte s.end) → TellsFirst told faults calls_advance old.counting new (append_calls old.end payload)
    append_told_gate mid new all first = appended_first new (told_rest s.counting mid new (behind s.end piece) (gate_byte s.end) all first)

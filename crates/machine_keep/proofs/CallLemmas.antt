-- What two disks tell, call by call.
use Rattle.std.proofs.Common.{◌≡◌, inl, inr, ℕ, Bool, true, false, not, if◌then◌else◌, List, [], ◌∷◌, ◌++◌, append_assoc, ap, refl, sym, subst, ◌∙◌}
use Rattle.std.specs.Prelude.{Option}
use Rattle.ps_disks.specs.declared.disk.DiskCall.{DiskCall}
use Rattle.host_journal.specs.Told.{TellsAll, TellsFirst}
use Rattle.host_journal.proofs.CallLemmas.{tells_on}
use Rattle.host_journal.proofs.ToldLemmas.{tells_nothing}
use Rattle.machine_keep.specs.Calls.{MakesPair, PairCalls, TellsPair, TellsSome, all_on, first_calls, second_calls}

pub first_joined : (xs ys : PairCalls) → first_calls (xs ++ ys) ≡ first_calls xs ++ first_calls ys
first_joined [] ys = refl
first_joined ((true, x) ∷ xs) ys = first_joined xs ys
first_joined ((false, x) ∷ xs) ys = ap (λ l. x ∷ l) (first_joined xs ys)

pub second_joined : (xs ys : PairCalls) → second_calls (xs ++ ys) ≡ second_calls xs ++ second_calls ys
second_joined [] ys = refl
second_joined ((true, x) ∷ xs) ys = ap (λ l. x ∷ l) (second_joined xs ys)
second_joined ((false, x) ∷ xs) ys = second_joined xs ys

pub first_only : (calls : List DiskCall) → first_calls (all_on false calls) ≡ calls
first_only [] = refl
first_only (c ∷ cs) = ap (λ l. c ∷ l) (first_only cs)

pub first_none : (calls : List DiskCall) → first_calls (all_on true calls) ≡ []
first_none [] = refl
first_none (c ∷ cs) = first_none cs

pub second_only : (calls : List DiskCall) → second_calls (all_on true calls) ≡ calls
second_only [] = refl
second_only (c ∷ cs) = ap (λ l. c ∷ l) (second_only cs)

pub second_none : (calls : List DiskCall) → second_calls (all_on false calls) ≡ []
second_none [] = refl
second_none (c ∷ cs) = second_none cs

pub all_joined : (side : Bool) (xs ys : List DiskCall) → all_on side (xs ++ ys) ≡ all_on side xs ++ all_on side ys
all_joined side [] ys = refl
all_joined side (x ∷ xs) ys = ap (λ (l : PairCalls). (side, x) ∷ l) (all_joined side xs ys)

module _ {D : Type 0} (told : D → Option (List DiskCall)) where
  -- no call was made
  pub tells_none : (first second : D) → TellsPair told first second first second []
  tells_none first second = (tells_nothing (told first), tells_nothing (told second))

  -- calls on one of the two, that counts or not
  pub tells_counting : (side : Bool) (counting other new : D) (calls : List DiskCall) → TellsAll (told counting) (told new) calls
      → TellsPair told (if side then other else counting) (if side then counting else other) (if side then other else new) (if side then new else other) (all_on side calls)
  tells_counting false counting other new calls all = (subst (TellsAll (told counting) (told new)) (sym (first_only calls)) all, subst (TellsAll (told other) (told other)) (sym (second_none calls)) (tells_nothing (told other)))
  tells_counting true counting other new calls all = (subst (TellsAll (told other) (told other)) (sym (first_none calls)) (tells_nothing (told other)), subst (TellsAll (told counting) (told new)) (sym (second_only calls)) all)

  pub tells_other : (side : Bool) (counting other new : D) (calls : List DiskCall) → TellsAll (told other) (told new) calls
      → TellsPair told (if side then other else counting) (if side then counting else other) (if side then new else counting) (if side then counting else new) (all_on (not side) calls)
  tells_other false counting other new calls all = (subst (TellsAll (told counting) (told counting)) (sym (first_none calls)) (tells_nothing (told counting)), subst (TellsAll (told other) (told new)) (sym (second_only calls)) all)
  tells_other true counting other new calls all = (subst (TellsAll (told other) (told new)) (sym (first_only calls)) all, subst (TellsAll (told counting) (told counting)) (sym (second_none calls)) (tells_nothing (told counting)))

  -- one run after another
  pub tells_both : (a b c d e f : D) (xs ys : PairCalls) → TellsPair told a b c d xs → TellsPair told c d e f ys → TellsPair told a b e f (xs ++ ys)
  tells_both a b c d e f xs ys one two = (
    subst (TellsAll (told a) (told e)) (sym (first_joined xs ys)) (tells_on (told a) (told c) (told e) (first_calls xs) (first_calls ys) one.0 two.0),
    subst (TellsAll (told b) (told f)) (sym (second_joined xs ys)) (tells_on (told b) (told d) (told f) (second_calls xs) (second_calls ys) one.1 two.1),
  )

module _ {D : Type 0} (told : D → Option (List DiskCall)) (faults : D → ℕ) (calls_advance : D → D → Type 0) (calls_advance_refl : (disk : D) → calls_advance disk disk) (calls_advance_trans : (a b c : D) → calls_advance a b → calls_advance b c → calls_advance a c) where
  -- calls on one of the two disks, up to the one that failed
  pub some_on : (side : Bool) (one still new : D) (calls : List DiskCall) → TellsFirst told faults calls_advance one new calls
      → TellsSome told faults calls_advance (if side then still else one) (if side then one else still) (if side then still else new) (if side then new else still) (all_on side calls)
  some_on false one still new calls first = record {
    made = all_on false first.made;
    last = (false, first.failed);
    rest = all_on false first.rest;
    split = ap (all_on false) first.split ∙ all_joined false first.made (first.failed ∷ first.rest);
    first_mid = first.mid;
    second_mid = still;
    before = record { told = tells_counting told false one still first.mid first.made first.before.told; no_fault = (first.before.no_fault, refl); calls_advance = (first.before.calls_advance, calls_advance_refl still) };
    told = tells_counting told false first.mid still new (first.failed ∷ []) first.told;
    rose = inl first.rose;
    calls_advance = (first.calls_advance, calls_advance_refl still);
  }
  some_on true one still new calls first = record {
    made = all_on true first.made;
    last = (true, first.failed);
    rest = all_on true first.rest;
    split = ap (all_on true) first.split ∙ all_joined true first.made (first.failed ∷ first.rest);
    first_mid = still;
    second_mid = first.mid;
    before = record { told = tells_counting told true one still first.mid first.made first.before.told; no_fault = (refl, first.before.no_fault); calls_advance = (calls_advance_refl still, first.before.calls_advance) };
    told = tells_counting told true first.mid still new (first.failed ∷ []) first.told;
    rose = inr first.rose;
    calls_advance = (calls_advance_refl still, first.calls_advance);
  }

  pub some_other : (side : Bool) (counting other new : D) (calls : List DiskCall) → TellsFirst told faults calls_advance other new calls
      → TellsSome told faults calls_advance (if side then other else counting) (if side then counting else other) (if side then new else counting) (if side then counting else new) (all_on (not side) calls)
  some_other false counting other new calls first = some_on true other counting new calls first
  some_other true counting other new calls first = some_on false other counting new calls first

  pub makes_both : (a b c d e f : D) (xs ys : PairCalls) → MakesPair told faults calls_advance a b c d xs → MakesPair told faults calls_advance c d e f ys → MakesPair told faults calls_advance a b e f (xs ++ ys)
  makes_both a b c d e f xs ys one two = record {
    told = tells_both told a b c d e f xs ys one.told two.told;
    no_fault = (two.no_fault.0 ∙ one.no_fault.0, two.no_fault.1 ∙ one.no_fault.1);
    calls_advance = (calls_advance_trans a c e one.calls_advance.0 two.calls_advance.0, calls_advance_trans b d f one.calls_advance.1 two.calls_advance.1);
  }

  -- all of the first run, and some of the second
  abbrev pub some_later : (a b c d e f : D) (xs ys : PairCalls) → MakesPair told faults calls_advance a b c d xs → TellsSome told faults calls_advance c d e f ys → TellsSome told faults calls_advance a b e f (xs ++ ys)
  some_later a b c d e f xs ys one two = record {
    made = xs ++ two.made;
    last = two.last;
    rest = two.rest;
    split = ap (λ (l : PairCalls). xs ++ l) two.split ∙ sym (append_assoc xs two.made (two.last ∷ two.rest));
    first_mid = two.first_mid;
    second_mid = two.second_mid;
    before = makes_both a b c d two.first_mid two.second_mid xs two.made one two.before;
    told = two.told;
    rose = two.rose;
    calls_advance = two.calls_advance;
  }

  -- some of the first run
  pub some_early : (a b c d : D) (xs ys : PairCalls) → TellsSome told faults calls_advance a b c d xs → TellsSome told faults calls_advance a b c d (xs ++ ys)
  some_early a b c d xs ys one = record {
    made = one.made;
    last = one.last;
    rest = one.rest ++ ys;
    split = ap (λ (l : PairCalls). l ++ ys) one.split ∙ append_assoc one.made (one.last ∷ one.rest) ys;
    first_mid = one.first_mid;
    second_mid = one.second_mid;
    before = one.before;
    told = one.told;
    rose = one.rose;
    calls_advance = one.calls_advance;
  }

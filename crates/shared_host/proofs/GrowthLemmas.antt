-- A kept host grows by each step, also by one that is found to stand after a fault.
use Rattle.std.specs.Prelude.{Bool, IfSome}
use Rattle.std.proofs.Common.{◌≡◌, ◌⊎◌, ℕ, true, false, List, Option, None, Some, Result, Ok, Err, inl, inr, refl, subst, sym}
use Rattle.ps_disks.specs.declared.disk.DiskCall.{DiskCall}
use Rattle.machine_keep.specs.Course.{Leaves, Unfound}
use Rattle.machine_keep.specs.Kept.{Kept, after_step, caught}
use Rattle.machine_keep.specs.declared.fault.StepFault.{StepFault}
use Rattle.machine_keep.specs.declared.fault.StepFault.TheVariants.{Disk, Memory}
use Rattle.host_model.specs.Book.{Book}
use Rattle.host_model.specs.Conditions.{MayStep}
use Rattle.host_model.specs.Grown.{Grown}
use Rattle.host_model.specs.Lawful.{Lawful}
use Rattle.host_model.specs.Step.{step_book}
use Rattle.host_model.specs.declared.config.Config.{Config}
use Rattle.host_model.specs.declared.input.Input.{Input}
use Rattle.host_model.specs.declared.reply.Reply.{Reply}
use Rattle.host_model.proofs.GrownLemmas.{Grown-refl, Grown-trans}
use Rattle.host_keep.specs.Laws.{book_answered}
use Rattle.host_keep.specs.Standing.{Answers, IsAsked, Seen, Standing, after}
use Rattle.host_keep.specs.declared.call.HostCall.{HostCall}
use Rattle.host_keep.specs.declared.call.HostStep.{HostStep}
use Rattle.shared_host.specs.Applied.{AnsweredKeep, Applied, UnkeptKeep, OutOfMemoryKeep}
use Rattle.shared_host.specs.Gated.{IsLater, MayStand, seen_of}

-- what is known of every step
abbrev pub StepsGrow : Type 0
StepsGrow = (c : Config) (b : Book) (clock : ℕ) (i : Input) → MayStep c b clock i → Grown b (step_book c b clock i)

abbrev pub StepsKeep : Type 0
StepsKeep = (c : Config) (b : Book) (clock : ℕ) (i : Input) → MayStep c b clock i → Lawful c.number (step_book c b clock i)

-- ---- the host that is found
pub found_config : (s : Standing) (o : Option HostStep) (stood : Bool) → (caught after s o stood).config ≡ s.config
found_config s None stood = refl
found_config s (Some step) true = refl
found_config s (Some step) false = refl

found_grown : (s : Standing) (o : Option HostStep) (stood : Bool) → IfSome o (MayStand s) → Grown s.book (caught after s o stood).book
found_grown s None stood may = Grown-refl s.book
found_grown s (Some step) true may = may.grown
found_grown s (Some step) false may = Grown-refl s.book

found_lawful : (s : Standing) (o : Option HostStep) (stood : Bool) → Lawful s.config.number s.book → IfSome o (MayStand s) → Lawful (caught after s o stood).config.number (caught after s o stood).book
found_lawful s None stood lawful may = lawful
found_lawful s (Some step) true lawful may = may.lawful
found_lawful s (Some step) false lawful may = lawful

-- ---- one step of a host
module _ (grow : StepsGrow) (keep : StepsKeep) (t : Standing) (call : HostCall) (asked : IsAsked t.config call) (lawful : Lawful t.config.number t.book) (said : Reply) (made : Option HostStep) (answers : Answers t call said made) where
  may : MayStep t.config t.book call.clock call.input
  may = record { config = asked.config; book = lawful; moment = asked.clock; bounds = asked.bounds }

  step_grown : Grown t.book (after_step after t made).book
  step_grown = subst (λ (b : Book). Grown t.book b) (sym (book_answered t call said made answers)) (grow t.config t.book call.clock call.input may)

  step_lawful : Lawful t.config.number (after_step after t made).book
  step_lawful = subst (λ (b : Book). Lawful t.config.number b) (sym (book_answered t call said made answers)) (keep t.config t.book call.clock call.input may)

-- a step that is unsure is one by which the book grows
unsure_stands : (grow : StepsGrow) (keep : StepsKeep) (t : Standing) (call : HostCall) → IsAsked t.config call → Lawful t.config.number t.book → (said : Reply) (made : Option HostStep) → Answers t call said made → IfSome made (MayStand t)
unsure_stands grow keep t call asked lawful said None answers = tt
unsure_stands grow keep t call asked lawful said (Some step) answers = record { grown = step_grown grow keep t call asked lawful said (Some step) answers; lawful = step_lawful grow keep t call asked lawful said (Some step) answers }

left_grown : (t : Standing) (made : Option HostStep) (image : Option (List ℕ)) (now : Standing) (unsure : Option HostStep) → Leaves after t made image now unsure → Grown t.book (after_step after t made).book → Grown t.book now.book
left_grown t made None now unsure left grown = subst (λ (s : Standing). Grown t.book s.book) (sym left.0) (Grown-refl t.book)
left_grown t made (Some image) now unsure left grown = subst (λ (s : Standing). Grown t.book s.book) (sym left.0) grown

none_stands : (s : Standing) (o : Option HostStep) → o ≡ None → IfSome o (MayStand s)
none_stands s o none = subst (λ (x : Option HostStep). IfSome x (MayStand s)) (sym none) tt

left_stands : (t : Standing) (made : Option HostStep) (image : Option (List ℕ)) (now : Standing) (unsure : Option HostStep) → Leaves after t made image now unsure → IfSome made (MayStand t) → IfSome unsure (MayStand now)
left_stands t made None now unsure left stands =
    subst (λ (o : Option HostStep). IfSome o (MayStand now)) (sym left.1) (subst (λ (s : Standing). IfSome made (MayStand s)) (sym left.0) stands)
left_stands t made (Some image) now unsure left stands = none_stands now unsure left.1

-- ---- a call of a keep
module _ {D : Type 0} (premise : Type 0) (seen : D → List ℕ) (told : D → Option (List DiskCall)) (may_leave : D → List ℕ → Type 0) (moment : D → ℕ) (left_since : D → ℕ → List ℕ → Type 0) (faults : D → ℕ) (goes : D → D → Type 0)
    (grow : StepsGrow) (keep : StepsKeep) (k l : Kept Seen D HostStep) (call : HostCall)
    (asked : IsAsked k.machine.standing.config call) (lawful : Lawful k.machine.standing.config.number k.machine.standing.book) (unsure : IfSome k.unsure (MayStand k.machine.standing)) where
  abbrev found_by : Bool → Standing
  found_by stood = caught after k.machine.standing k.unsure stood

  found_asked : (stood : Bool) → IsAsked (found_by stood).config call
  found_asked stood = subst (λ (c : Config). IsAsked c call) (sym (found_config k.machine.standing k.unsure stood)) asked

  from_found : (stood : Bool) (said : Reply) (made : Option HostStep) → Answers (found_by stood) call said made → Grown (found_by stood).book (after_step after (found_by stood) made).book
  from_found stood said made answers = step_grown grow keep (found_by stood) call (found_asked stood) (found_lawful k.machine.standing k.unsure stood lawful unsure) said made answers

  to_found : (stood : Bool) → Grown k.machine.standing.book (found_by stood).book
  to_found stood = found_grown k.machine.standing k.unsure stood unsure

  through : (stood : Bool) → Grown (found_by stood).book l.machine.standing.book → Grown k.machine.standing.book l.machine.standing.book
  through stood grown = Grown-trans k.machine.standing.book (found_by stood).book l.machine.standing.book (to_found stood) grown

  answered_grown : (said : Reply) → AnsweredKeep premise seen told k l call said → Grown k.machine.standing.book l.machine.standing.book
  answered_grown said a = through a.stood (subst (λ (s : Standing). Grown (found_by a.stood).book s.book) (sym a.became) (from_found a.stood said a.step a.answered))

  out_of_memory_grown : OutOfMemoryKeep premise seen told k l → Grown k.machine.standing.book l.machine.standing.book
  out_of_memory_grown w = subst (λ (s : Standing). Grown k.machine.standing.book s.book) (sym w.became) (to_found w.stood)

  unkept_grown : UnkeptKeep premise seen told faults goes k l call → Grown k.machine.standing.book l.machine.standing.book
  unkept_grown u = through u.stood (left_grown (found_by u.stood) u.step u.image l.machine.standing l.unsure u.left (from_found u.stood u.reply u.step u.answered))

  failed_grown : Unfound told faults goes (λ (h : Seen). h.standing) k l ⊎ UnkeptKeep premise seen told faults goes k l call → Grown k.machine.standing.book l.machine.standing.book
  failed_grown (inl u) = subst (λ (s : Standing). Grown k.machine.standing.book s.book) (sym u.became) (Grown-refl k.machine.standing.book)
  failed_grown (inr u) = unkept_grown u

  book_grown : (r : Result Reply StepFault) → Applied premise seen told may_leave moment left_since faults goes k l call r → Grown k.machine.standing.book l.machine.standing.book
  book_grown (Ok said) a = answered_grown said a.answered
  book_grown (Err Disk) a = failed_grown (a.failed refl)
  book_grown (Err Memory) a = out_of_memory_grown (a.out_of_memory refl)

  pub later : (r : Result Reply StepFault) → Applied premise seen told may_leave moment left_since faults goes k l call r → IsLater faults (seen_of k) (seen_of l)
  later r a = record { config = a.fixed; book = book_grown r a; first = a.later.0; second = a.later.1 }

  failed_stands : Unfound told faults goes (λ (h : Seen). h.standing) k l ⊎ UnkeptKeep premise seen told faults goes k l call → IfSome l.unsure (MayStand l.machine.standing)
  failed_stands (inl u) =
      subst (λ (o : Option HostStep). IfSome o (MayStand l.machine.standing)) (sym u.unsure) (subst (λ (s : Standing). IfSome k.unsure (MayStand s)) (sym u.became) unsure)
  failed_stands (inr u) =
      left_stands (found_by u.stood) u.step u.image l.machine.standing l.unsure u.left
      (unsure_stands grow keep (found_by u.stood) call (found_asked u.stood) (found_lawful k.machine.standing k.unsure u.stood lawful unsure) u.reply u.step u.answered)

  -- what is unsure then is a step by which the book grows
  pub stands : (r : Result Reply StepFault) → Applied premise seen told may_leave moment left_since faults goes k l call r → IfSome l.unsure (MayStand l.machine.standing)
  stands (Ok said) a = none_stands l.machine.standing l.unsure (a.sure_after (a.ready (λ e. cc)))
  stands (Err Disk) a = failed_stands (a.failed refl)
  stands (Err Memory) a = none_stands l.machine.standing l.unsure (a.sure_after (a.ready (λ e. cc)))

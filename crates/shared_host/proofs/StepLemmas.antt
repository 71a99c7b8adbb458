-- What a step of a kept host comes to, as it is seen behind a gate.
use Rattle.std.specs.Prelude.{Bool, ◌||◌, ◌&&◌, ◌==◌, ◌-◌, is_some, not}
use Rattle.std.proofs.Common.{◌≡◌, ◌≤◌, ◌∙◌, ℕ, true, false, List, Option, None, Result, Ok, Err, ap, inl, inr, option_map, refl, subst, sym, ⊎_elim}
use Rattle.ps_disks.specs.declared.disk.DiskCall.{DiskCall}
use Rattle.host_journal.specs.State.{State, is_ready, with_room}
use Rattle.machine_keep.specs.Course.{Moves, Shortens}
use Rattle.machine_keep.specs.Kept.{Kept, after_step, caught}
use Rattle.machine_keep.specs.declared.fault.StepFault.{StepFault}
use Rattle.machine_keep.specs.declared.fault.StepFault.TheVariants.{Disk, Memory}
use Rattle.host_model.specs.Step.{step_book, step_reply}
use Rattle.host_model.specs.declared.config.Config.{Config}
use Rattle.host_model.specs.declared.reply.Reply.{Reply}
use Rattle.host_keep.specs.Laws.{book_answered}
use Rattle.host_keep.specs.Standing.{Seen, Standing, StandsNow, after}
use Rattle.host_keep.specs.declared.call.HostCall.{HostCall}
use Rattle.host_keep.specs.declared.call.HostStep.{HostStep}
use Rattle.shared_host.specs.Applied.{AnsweredKeep, Applied, OutOfMemoryKeep, is_fault}
use Rattle.shared_host.specs.Comes.{AtEachMoment, Comes, bytes_of}
use Rattle.shared_host.specs.Gated.{seen_of}
use Rattle.shared_host.proofs.CountLemmas.{moved, moved_by, no_step, none_counts, some_bytes, step_counts, was_ready}
use Rattle.shared_host.proofs.GrowthLemmas.{found_config}
use Rattle.shared_host.proofs.RoomLemmas.{answered_seen, same_bare, unfound_seen, unkept_seen, out_of_memory_seen}

-- whether a step counts as a change
abbrev pub counted : {D : Type 0} → Kept Seen D HostStep → Kept Seen D HostStep → Result Reply StepFault → Bool
counted k l r = (is_fault r || not (is_ready k.journal.pending)) || moved k.journal l.journal

pub counted_is : {D : Type 0} (k l : Kept Seen D HostStep) (r : Result Reply StepFault) (failed ready has_moved changed : Bool) (generation bytes : ℕ)
    → failed ≡ is_fault r → ready ≡ is_ready k.journal.pending → generation ≡ k.journal.generation → bytes ≡ k.journal.end - k.journal.start
    → has_moved ≡ not ((l.journal.generation == generation) && (l.journal.end - l.journal.start == bytes)) → changed ≡ ((failed || not ready) || has_moved) → changed ≡ counted k l r
counted_is k l r failed ready has_moved changed generation bytes failed_is ready_is generation_is bytes_is moved_is changed_is =
    rw (changed_is, moved_is, failed_is, ready_is, generation_is, bytes_is) refl

same_seen : {D : Type 0} (k l : Kept Seen D HostStep) → l.machine.standing ≡ k.machine.standing → with_room l.journal 0 ≡ with_room k.journal 0 → l.unsure ≡ k.unsure → l.put_off ≡ k.put_off → seen_of l ≡ seen_of k
same_seen k l standing journal unsure put_off = cc

module _ {D : Type 0} (premise : Type 0) (seen : D → List ℕ) (told : D → Option (List DiskCall)) (may_leave : D → List ℕ → Type 0) (moment : D → ℕ) (left_since : D → ℕ → List ℕ → Type 0) (faults : D → ℕ) (goes : D → D → Type 0)
    (k l : Kept Seen D HostStep) (call : HostCall) where
  abbrev found_by : Bool → Standing
  found_by stood = caught after k.machine.standing k.unsure stood

  -- ---- which calls count
  step_moves : (said : Reply) (a : AnsweredKeep premise seen told k l call said) → k.journal.start ≤ k.journal.end → is_ready k.journal.pending ≡ true → moved k.journal l.journal ≡ is_some a.step
  step_moves said a order ready = moved_by k.journal a.place l.journal (option_map bytes_of a.step) a.image (a.found.same ready) order a.moved ∙ some_bytes bytes_of a.step

  none_moves : (w : OutOfMemoryKeep premise seen told k l) → k.journal.start ≤ k.journal.end → is_ready k.journal.pending ≡ true → moved k.journal l.journal ≡ false
  none_moves w order ready = moved_by k.journal w.place l.journal None None (w.found.same ready) order w.same

  answered_counts : (said : Reply) (a : AnsweredKeep premise seen told k l call said) → k.journal.start ≤ k.journal.end → (not (is_ready k.journal.pending) || moved k.journal l.journal) ≡ (not (is_ready k.journal.pending) || is_some a.step)
  answered_counts said a order = step_counts (is_ready k.journal.pending) (moved k.journal l.journal) (is_some a.step) (step_moves said a order)

  out_of_memory_counts : (w : OutOfMemoryKeep premise seen told k l) → k.journal.start ≤ k.journal.end → (not (is_ready k.journal.pending) || moved k.journal l.journal) ≡ not (is_ready k.journal.pending)
  out_of_memory_counts w order = none_counts (is_ready k.journal.pending) (moved k.journal l.journal) (none_moves w order)

  -- ---- what it comes to
  answered_book : (said : Reply) (a : AnsweredKeep premise seen told k l call said) → l.machine.standing.book ≡ step_book k.machine.standing.config (found_by a.stood).book call.clock call.input
  answered_book said a =
      ap (λ (s : Standing). s.book) a.became ∙ (book_answered (found_by a.stood) call said a.step a.answered
      ∙ ap (λ (c : Config). step_book c (found_by a.stood).book call.clock call.input) (found_config k.machine.standing k.unsure a.stood))

  answered_says : (said : Reply) (a : AnsweredKeep premise seen told k l call said) → said ≡ step_reply k.machine.standing.config (found_by a.stood).book call.clock call.input
  answered_says said a = a.answered.reply ∙ ap (λ (c : Config). step_reply c (found_by a.stood).book call.clock call.input) (found_config k.machine.standing k.unsure a.stood)

  pub comes : (r : Result Reply StepFault) → Applied premise seen told may_leave moment left_since faults goes k l call r → (changed : Bool) → changed ≡ counted k l r → Comes premise seen told may_leave faults goes (seen_of k) call r changed (seen_of l)
  comes (Ok said) a changed is = record {
    course = answered_seen premise seen told k l call said a.answered;
    says = answered_says said a.answered;
    book = answered_book said a.answered;
    durable = a.durable;
    log_bounded = a.log_bounded;
    ready = a.ready (λ e. cc);
    no_fault = a.no_fault (λ e. cc);
    counts = is ∙ answered_counts said a.answered a.order;
  }
  comes (Err Disk) a changed is = record {
    course = ⊎_elim (λ u. inl (unfound_seen premise seen told faults goes k l u)) (λ u. inr (unkept_seen premise seen told faults goes k l call u)) (a.failed refl);
    cause = a.cause refl;
    counts = is;
  }
  comes (Err Memory) a changed is = record {
    course = out_of_memory_seen premise seen told k l (a.out_of_memory refl);
    same = λ p. a.same p refl;
    ready = a.ready (λ e. cc);
    no_fault = a.no_fault (λ e. cc);
    counts = is ∙ out_of_memory_counts (a.out_of_memory refl) a.order;
  }

  pub moments : (r : Result Reply StepFault) → Applied premise seen told may_leave moment left_since faults goes k l call r → AtEachMoment premise seen may_leave moment left_since (seen_of k) (seen_of l) call
  moments r a = record { around = a.around; recovers = a.recovers }

  -- ---- one that doesn't count changes nothing
  found_sure : (stood : Bool) → k.unsure ≡ None → found_by stood ≡ k.machine.standing
  found_sure stood sure = ap (λ (o : Option HostStep). caught after k.machine.standing o stood) sure

  answered_same : (said : Reply) (a : AnsweredKeep premise seen told k l call said) → k.unsure ≡ None → l.unsure ≡ None → is_ready k.journal.pending ≡ true → a.step ≡ None → seen_of l ≡ seen_of k
  answered_same said a sure sure_after ready none =
      let still : Moves a.place None a.image l.journal = subst (λ (o : Option HostStep). Moves a.place (option_map bytes_of o) a.image l.journal) none a.moved in
      let off : Shortens StandsNow l.machine.standing k.put_off l.put_off a.place None a.image =
      subst (λ (o : Option HostStep). Shortens StandsNow l.machine.standing k.put_off l.put_off a.place (option_map bytes_of o) a.image) none a.shortened in
      same_seen k l
      (a.became ∙ (ap (λ (o : Option HostStep). after_step after (found_by a.stood) o) none ∙ found_sure a.stood sure))
      (same_bare a.place l.journal still ∙ ap (λ (s : State D). with_room s 0) (a.found.same ready))
      (sure_after ∙ sym sure)
      off.1

  out_of_memory_same : (w : OutOfMemoryKeep premise seen told k l) → k.unsure ≡ None → l.unsure ≡ None → is_ready k.journal.pending ≡ true → seen_of l ≡ seen_of k
  out_of_memory_same w sure sure_after ready =
      same_seen k l
      (w.became ∙ found_sure w.stood sure)
      (same_bare w.place l.journal w.same ∙ ap (λ (s : State D). with_room s 0) (w.found.same ready))
      (sure_after ∙ sym sure)
      w.put_off

  pub same : (r : Result Reply StepFault) → Applied premise seen told may_leave moment left_since faults goes k l call r → (changed : Bool) → changed ≡ counted k l r → changed ≡ false → seen_of l ≡ seen_of k
  same (Ok said) a changed is still =
      let none = no_step (is_ready k.journal.pending) a.answered.step (sym (answered_counts said a.answered a.order) ∙ (sym is ∙ still)) in
      answered_same said a.answered (a.sure none.0) (a.sure_after (a.ready (λ e. cc))) none.0 none.1
  same (Err Disk) a changed is still = let never : ⊥ = cc in absurd never
  same (Err Memory) a changed is still =
      let ready = was_ready (is_ready k.journal.pending) (sym (out_of_memory_counts (a.out_of_memory refl) a.order) ∙ (sym is ∙ still)) in
      out_of_memory_same (a.out_of_memory refl) (a.sure ready) (a.sure_after (a.ready (λ e. cc))) ready

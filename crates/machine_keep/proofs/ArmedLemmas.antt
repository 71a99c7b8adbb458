-- A step over disks in memory: why it met a fault of a disk, and what is so where it met none.
use Rattle.std.proofs.Common.{◌≡◌, ◌⊎◌, inl, inr, ⊎_elim, ℕ, false, true, if◌then◌else◌, List, ◌++◌, length, drop, map, sym, ◌∙◌, ap, subst, arith, refl, Bool}
use Rattle.std.specs.Prelude.{IfSome, None, Some, Result, Err}
use Rattle.std.specs.List.{drop-map}
use Rattle.std.proofs.Math.Seq.{drop-append_seam}
use Rattle.std.proofs.lemmas.List.{length-map}
use Rattle.ps_disks.specs.MemoryDisk.{DiskState, told_calls}
use Rattle.ps_disks.specs.Run.{IsArmed, IsSpared, MeetsFault, made_since}
use Rattle.ps_disks.specs.declared.disk.DiskCall.{DiskCall}
use Rattle.ps_disks.proofs.RunLemmas.{meets_fault, spared}
use Rattle.host_journal.specs.State.{State, first_disk, second_disk}
use Rattle.host_journal.specs.Told.{TellsAll}
use Rattle.machine_keep.specs.Armed.{IsStep, Lacks}
use Rattle.machine_keep.specs.declared.fault.StepFault.{StepFault}
use Rattle.machine_keep.specs.declared.fault.StepFault.TheVariants.{Disk as disk_fault}

module _ {R : Type 0} (old new : State DiskState) (result : Result R StepFault) (step : IsStep old new result) where
  pub armed_meets : (first second : ℕ) → IsArmed (first_disk old) first → IsArmed (second_disk old) second → result ≡ Err disk_fault
      → MeetsFault (first_disk old) (first_disk new) ⊎ MeetsFault (second_disk old) (second_disk new)
  armed_meets first second one two failed =
      ⊎_elim (λ rose. inl (meets_fault (first_disk old) (first_disk new) first one step.calls_advance.0 rose)) (λ rose. inr (meets_fault (second_disk old) (second_disk new) second two step.calls_advance.1 rose)) (step.cause failed)

  pub armed_spared : (first second : ℕ) → IsArmed (first_disk old) first → IsArmed (second_disk old) second → (result ≡ Err disk_fault → ⊥)
      → IsSpared (first_disk old) (first_disk new) × IsSpared (second_disk old) (second_disk new)
  armed_spared first second one two no_fault =
      let same = step.no_fault no_fault in
      (spared (first_disk old) (first_disk new) first one step.calls_advance.0 same.0, spared (second_disk old) (second_disk new) second two step.calls_advance.1 same.1)

  pub no_fault_lacks : IsArmed (first_disk old) 0 → IsArmed (second_disk old) 0 → result ≡ Err disk_fault → Lacks (first_disk old) (first_disk new) ⊎ Lacks (second_disk old) (second_disk new)
  no_fault_lacks one two failed =
      ⊎_elim (λ met. inl (none_armed (first_disk old) (first_disk new) one met)) (λ met. inr (none_armed (second_disk old) (second_disk new) two met)) (armed_meets 0 0 one two failed)
    where
      none_armed : (a b : DiskState) → IsArmed a 0 → MeetsFault a b → Lacks a b
      none_armed a b no_fault (inl starved) = inl starved
      none_armed a b no_fault (inr (inl far)) = inr far
      none_armed a b no_fault (inr (inr reached)) = absurd (omega (arith, no_fault.armed, reached.0))

-- the calls told since are those that were noted
pub told_made : (old new : DiskState) (calls : List DiskCall) → new.starved ≡ false → TellsAll (told_calls old) (told_calls new) calls → made_since old new ≡ calls
told_made old new calls fed told =
    let now : IfSome (Some (map (λ l. l.call) new.history.log)) (λ all. (before : List DiskCall) × (told_calls old ≡ Some before) × (all ≡ before ++ calls)) =
    subst (λ b. IfSome (if b then None else Some (map (λ l. l.call) new.history.log)) (λ all. (before : List DiskCall) × (told_calls old ≡ Some before) × (all ≡ before ++ calls))) fed told in
    at old.starved refl now
  where
    at : (b : Bool) → old.starved ≡ b → ((before : List DiskCall) × (told_calls old ≡ Some before) × (map (λ l. l.call) new.history.log ≡ before ++ calls)) → made_since old new ≡ calls
    at true starved now = absurd (cc (now.1, ap (λ b. if b then None else Some (map (λ l. l.call) old.history.log)) starved))
    at false was_fed now =
        let same : Some (map (λ l. l.call) old.history.log) ≡ Some now.0 = sym (ap (λ b. if b then None else Some (map (λ l. l.call) old.history.log)) was_fed) ∙ now.1 in
        let before : map (λ l. l.call) old.history.log ≡ now.0 = cc same in
        let size : length now.0 ≡ length old.history.log = ap length (sym before) ∙ length-map old.history.log (λ l. l.call) in
        sym (drop-map (λ l. l.call) (length old.history.log) new.history.log)
        ∙ ap (drop (length old.history.log)) now.2
        ∙ ap (λ n. drop n (now.0 ++ calls)) (sym size)
        ∙ drop-append_seam now.0 calls

use Rattle.std.proofs.Common.{◌≡◌, ◌∙◌, ◌++◌, ◌∷◌, List, [], append_assoc, ap, subst, sym}
use Rattle.std.proofs.lemmas.List.{append-nil}
use Rattle.std.specs.Vec.Iter.{into_iter_items}
use Rattle.simulated_machine.specs.Held.{Held}
use Rattle.ps_disks.specs.MemoryDisk.{DiskState}
use Rattle.world_law.specs.World.{Stage}
use Rattle.rehearsal_lines.specs.Kept.{AreKeptOn}
use Rattle.psched_rehearse.proofs.SimulatedLemmas.{none_left}
use Rattle.psched_rehearse.proofs.rehearse.disks_of.Goals as goal

-- one more
pub loop-held_host-preserved : goal.loop-held_host-preserved
loop-held_host-preserved c =
    let made : List (DiskState × DiskState) = c.loop-held_host.disks.items in
    let pair = c.in_ok-into_disks.field-0 in
    record {
      can_next = tt;
      is_finite = tt;
      kept = λ more left.
          let those : AreKeptOn (into_iter_items c.loop-held_host.held_host-iterator) (pair ∷ more) = subst (λ (xs : List (Held Stage)). AreKeptOn xs (pair ∷ more)) (sym c.in-Some.ensures.steps.0) (c.in_ok-into_disks.ensures, left) in
          subst (AreKeptOn c.args.held_hosts.items) (sym (ap (λ xs. xs ++ more) c.in_ok-push.ensures.items ∙ append_assoc made (pair ∷ []) more)) (c.loop-held_host.invariant.kept (pair ∷ more) those);
    }

-- none is left
pub returns : goal.returns
returns c =
    let left : into_iter_items c.loop-held_host.held_host-iterator ≡ [] =
    none_left (into_iter_items c.loop-held_host.held_host-iterator) (sym c.loop-held_host.held_host-iterator.rest.ok.0 ∙ c.in-None.ensures.steps.0) in
    subst (AreKeptOn c.args.held_hosts.items) (append-nil c.loop-held_host.disks.items) (c.loop-held_host.invariant.kept [] (subst (λ (ss : List (Held Stage)). AreKeptOn ss []) (sym left) tt))

use Rattle.std.specs.Prelude.{All, flat_map}
use Rattle.std.proofs.Common.{◌≡◌, ◌++◌, map}
use Rattle.std.specs.Vec.Iter.{into_iter_items}
use Rattle.host_model.specs.Conditions.{IsConfig}
use Rattle.simulated_machine.specs.Held.{Held}
use Rattle.world_law.specs.World.{Stage}
use Rattle.rehearsal_model.specs.Rehearsal.{stage_table}
use Rattle.psched_rehearse.proofs.rehearse.tell_all.Given as goal

-- with those of the hosts that are left they are those of all
abbrev pub invariant-loop-held_host : goal.invariant-loop-held_host
invariant-loop-held_host l = record {
  can_next : (goal.iterator-loop-held_host).can_next l.held_host-iterator;
  is_finite : (goal.iterator-loop-held_host).is_finite l.held_host-iterator;
  configs : All (λ (h : Held Stage). IsConfig h.state.config) (into_iter_items l.held_host-iterator);
  tables : l.report ++ flat_map (λ (h : Held Stage). stage_table l.moment h.state) (into_iter_items l.held_host-iterator) ≡ l.fn.report ++ flat_map (λ (h : Held Stage). stage_table l.moment h.state) l.fn.held_hosts.items;
  states : map (λ (h : Held Stage). h.state) l.told.items ++ map (λ (h : Held Stage). h.state) (into_iter_items l.held_host-iterator) ≡ map (λ (h : Held Stage). h.state) l.fn.held_hosts.items;
}

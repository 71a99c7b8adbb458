use Rattle.std.proofs.Common.{◌≡◌, ◌++◌, map, All, true}
use Rattle.std.specs.Vec.Iter.{into_iter_items}
use Rattle.psconfig_mesh.specs.Mesh.{IsWanted, wanted, wanted_by}
use Rattle.psconfig_mesh.specs.ReadTasks.{are_fit}
use Rattle.psconfig_mesh.proofs.wanted.push_wanted.Given as goal

-- what was wanted so far, and what is left
abbrev pub invariant-loop-pair : goal.invariant-loop-pair
invariant-loop-pair l = record {
  value : l.initial.wanted.items ++ wanted_by l.mesh l.task ≡ l.wanted.items ++ map (wanted l.mesh l.task) (into_iter_items l.pair-iterator);
  fit : are_fit l.mesh.moment l.mesh.name l.task (into_iter_items l.pair-iterator) ≡ true;
  reads : All (IsWanted l.mesh.moment) l.initial.wanted.items → All (IsWanted l.mesh.moment) l.wanted.items;
}

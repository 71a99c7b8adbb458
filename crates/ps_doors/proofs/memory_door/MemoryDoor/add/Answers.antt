use Rattle.std.proofs.Common.{◌≡◌, ◌∷◌, ◌++◌, [], rules, sym, subst, All}
use Rattle.ps_doors.specs.Door.{HasShortAddress}
use Rattle.ps_doors.proofs.DoorLemmas.{All_more}
use Rattle.ps_doors.proofs.memory_door.MemoryDoor.add.Goals as goal

pub invariant_of-self-2 : goal.invariant_of-self-2
invariant_of-self-2 c =
    let added : c.push_back.new.self.items ≡ c.self.inside.guests.items ++ c.args.guest ∷ [] = search rules in
    subst (All HasShortAddress) (sym added) (All_more HasShortAddress c.self.inside.guests.items c.args.guest c.self.invariant c.requires)

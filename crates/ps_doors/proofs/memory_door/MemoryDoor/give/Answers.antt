use Rattle.std.proofs.Common.{sym, subst, All}
use Rattle.std.proofs.lemmas.List.Elements.{All-drop}
use Rattle.ps_doors.specs.Door.{HasShortAddress}
use Rattle.ps_doors.proofs.memory_door.MemoryDoor.give.Goals as goal

pub invariant_of-self-2 : goal.invariant_of-self-2
invariant_of-self-2 c = subst (All HasShortAddress) (sym c.pop_front.ensures.rest) (All-drop HasShortAddress 1 c.self.inside.guests.items c.self.invariant)

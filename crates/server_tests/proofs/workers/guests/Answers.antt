use Rattle.std.proofs.Common.{◌≡◌, ◌∷◌, ◌++◌, [], rules, tests, sym, subst, All}
use Rattle.ps_doors.specs.Door.{HasShortAddress}
use Rattle.ps_doors.proofs.DoorLemmas.{All_more}
use Rattle.server_tests.proofs.workers.guests.Goals as goal

pub loop-byte-preserved : goal.loop-byte-preserved
loop-byte-preserved c =
    let pushed : c.push.new.self.items ≡ c.loop-byte.guests.items ++ c.in_ok-guest.guest ∷ [] = search (rules, tests) in
    subst (All HasShortAddress) (sym pushed) (All_more HasShortAddress c.loop-byte.guests.items c.in_ok-guest.guest c.loop-byte.invariant c.in_ok-guest.ensures)

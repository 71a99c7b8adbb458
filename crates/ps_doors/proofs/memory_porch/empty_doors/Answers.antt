use Rattle.std.proofs.Common.{◌≡◌, ◌∷◌, ◌++◌, [], rules, ap, ◌∙◌}
use Rattle.ps_doors.specs.Door.{new_door}
use Rattle.ps_doors.proofs.DoorLemmas.{replicate_more}
use Rattle.ps_doors.proofs.memory_porch.empty_doors.Goals as goal

pub loop-preserved : goal.loop-preserved
loop-preserved c =
    let pushed : c.push.new.self.items ≡ c.loop.doors.items ++ new_door [] [] ∷ [] = search rules in
    pushed ∙ ap (λ l. l ++ new_door [] [] ∷ []) c.loop.invariant ∙ replicate_more c.loop.counter (new_door [] [])

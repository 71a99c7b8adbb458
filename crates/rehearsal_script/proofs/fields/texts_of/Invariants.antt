use Rattle.std.proofs.Common.{◌≡◌, map, take}
use Rattle.rehearsal_script.proofs.fields.texts_of.Given as goal

-- the texts so far
abbrev pub invariant-loop-part : goal.invariant-loop-part
invariant-loop-part l = l.texts ≡ map (λ x. x.now) (take l.part-index l.parts)

use Rattle.std.specs.Prelude.{filter_map}
use Rattle.std.proofs.Common.{◌≡◌, ◌++◌, ◌∷◌, drop, map}
use Rattle.lead_core.proofs.plan.tools_of_all.Given as goal

-- the lists so far, and those of what is left
abbrev pub invariant-loop-other : goal.invariant-loop-other
invariant-loop-other l = map (λ a. a.tools) (l.own ∷ filter_map (λ o. o.free) l.others) ≡ l.lists ++ map (λ a. a.tools) (filter_map (λ o. o.free) (drop l.other-index l.others))

use Rattle.std.specs.List.{list_all}
use Rattle.std.specs.Prelude.{is_some}
use Rattle.std.proofs.Common.{◌≡◌, drop}
use Rattle.lead_core.proofs.plan.have_all_answered.Given as goal

-- what is left decides
abbrev pub invariant-loop-other : goal.invariant-loop-other
invariant-loop-other l = list_all (λ o. is_some o.free) l.others ≡ list_all (λ o. is_some o.free) (drop l.other-index l.others)

use Rattle.std.proofs.Common.{◌≡◌, drop}
use Rattle.std.specs.List.{list_any}
use Rattle.limit_apply.specs.Application.{run_limit_at}
use Rattle.limit_apply.proofs.application.Application.cites_run.Given as goal

-- what is left decides
abbrev pub invariant-loop-group : goal.invariant-loop-group
invariant-loop-group l = list_any (λ g. list_any (run_limit_at l.limits) g.limits) l.self.apply ≡ list_any (λ g. list_any (run_limit_at l.limits) g.limits) (drop l.group-index l.self.apply)

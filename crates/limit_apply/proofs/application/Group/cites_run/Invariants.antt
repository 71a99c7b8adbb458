use Rattle.std.proofs.Common.{◌≡◌, drop}
use Rattle.std.specs.List.{list_any}
use Rattle.limit_apply.specs.Application.{run_limit_at}
use Rattle.limit_apply.proofs.application.Group.cites_run.Given as goal

-- what is left decides
abbrev pub invariant-loop-place : goal.invariant-loop-place
invariant-loop-place l = list_any (run_limit_at l.limits) l.self.limits ≡ list_any (run_limit_at l.limits) (drop l.place-index l.self.limits)

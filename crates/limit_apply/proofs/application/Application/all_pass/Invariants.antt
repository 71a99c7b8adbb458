use Rattle.std.proofs.Common.{◌≡◌, drop}
use Rattle.std.specs.List.{list_all}
use Rattle.limit_apply.specs.Application.{group_passes}
use Rattle.limit_apply.proofs.application.Application.all_pass.Given as goal

-- what is left decides
abbrev pub invariant-loop-group : goal.invariant-loop-group
invariant-loop-group l = list_all (group_passes l.limits l.test l.run) l.self.apply ≡ list_all (group_passes l.limits l.test l.run) (drop l.group-index l.self.apply)

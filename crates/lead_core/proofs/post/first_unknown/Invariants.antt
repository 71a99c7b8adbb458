use Rattle.std.specs.Prelude.{find, not}
use Rattle.std.proofs.Common.{◌≡◌, drop}
use Rattle.host_model.specs.Post.{is_known}
use Rattle.lead_core.proofs.post.first_unknown.Given as goal

-- what is left decides
abbrev pub invariant-loop-name : goal.invariant-loop-name
invariant-loop-name l = find (λ name. not (is_known l.config name)) l.names ≡ find (λ name. not (is_known l.config name)) (drop l.name-index l.names)

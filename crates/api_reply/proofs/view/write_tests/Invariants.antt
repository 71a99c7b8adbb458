use Rattle.std.proofs.Common.{◌≡◌, map, take}
use Rattle.plugin_core.specs.Kind.{kind_text}
use Rattle.api_reply.proofs.view.write_tests.Given as goal

-- the names so far
abbrev pub invariant-loop-kind : goal.invariant-loop-kind
invariant-loop-kind l = map (λ name. name.now) l.names.items ≡ map kind_text (take l.kind-index l.kind-items)

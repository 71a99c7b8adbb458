-- The list of all kinds of tests.
use Rattle.std.proofs.Common.{refl, arith}
use Rattle.std.specs.List.{Contains}
use Rattle.plugin_core.specs.Kind.{kinds_by_name}
use Rattle.plugin_core.specs.declared.kind.TestKind.{TestKind}
use Rattle.plugin_core.specs.declared.kind.TestKind.TheVariants.{Idle, Idleex, Idlebgm, Idlemany, Simplestream}

pub every_kind : (k : TestKind) → Contains kinds_by_name k
every_kind Idle = (0, omega arith, refl)
every_kind Idlebgm = (1, omega arith, refl)
every_kind Idleex = (2, omega arith, refl)
every_kind Idlemany = (3, omega arith, refl)
every_kind Simplestream = (4, omega arith, refl)

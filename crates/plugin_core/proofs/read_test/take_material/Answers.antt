use Rattle.std.proofs.Common.{sym, subst}
use Rattle.std.specs.Str.{IsUtf8}
use Rattle.std.proofs.lemmas.Str.{IsUtf8-nil}
use Rattle.plugin_core.proofs.read_test.take_material.Goals as goal

pub returns-in_ok-new-in-None-clause-utf8 : goal.returns-in_ok-new-in-None-clause-utf8
returns-in_ok-new-in-None-clause-utf8 c = subst IsUtf8 (sym c.in_ok-new-in-None.ensures) IsUtf8-nil

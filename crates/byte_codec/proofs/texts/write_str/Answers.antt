use Rattle.std.proofs.Common.{arith, subst}
use Rattle.std.specs.Str.{IsUtf8}
use Rattle.std.proofs.lemmas.Str.{is_utf8-from_IsUtf8}
use Rattle.byte_codec.proofs.texts.write_str.Goals as goal

pub returns-clause-fits : goal.returns-clause-fits
returns-clause-fits c = record { short = omega (arith, c.in-Ok.ensures, c.in_ok-write.ensures.fits); utf8 = is_utf8-from_IsUtf8 _ (subst IsUtf8 c.as_bytes.ensures.value c.as_bytes.ensures.utf8) }

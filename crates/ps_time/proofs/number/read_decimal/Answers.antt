use Rattle.std.proofs.Common.{◌≡◌, true, arith}
use Rattle.std.specs.Str.{all_ascii_digits}
use Rattle.std.proofs.lemmas.Bool.Decides.{nat_tests}
use Rattle.ps_time.proofs.NumberLemmas.{decimal_read}
use Rattle.ps_time.proofs.number.read_decimal.Goals as goal

-- the parse gives the value of the digits
pub returns : goal.returns
returns c =
    let digits : all_ascii_digits c.args.text.now ≡ true = cc in
    rw c.ok.ensures.value (decimal_read c.args.least c.args.most c.args.text.now _ c.parse.ensures.value.0 digits c.requires.some c.requires.fits (grind (arith, nat_tests)) (grind (arith, nat_tests)))

use Rattle.ps_http.proofs.AsciiLemmas.{not_decimal}
use Rattle.ps_http.proofs.fields.decimal.Goals as goal

pub returns-in-Err : goal.returns-in-Err
returns-in-Err c = not_decimal 1 c.args.most c.args.value.now c.in-Err.ensures.cases.0

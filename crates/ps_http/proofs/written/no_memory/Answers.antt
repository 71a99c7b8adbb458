use Rattle.std.proofs.Common.{refl}
use Rattle.std.specs.Fmt.{digits}
use Rattle.ps_http.specs.Written.{status_line, type_text, length_text, response_fields_text}
use Rattle.ps_http.proofs.written.no_memory.Goals as goal

pub returns-then-close : goal.returns-then-close
unfolding status_line type_text length_text response_fields_text digits
returns-then-close c = rw c.if-close.true refl

pub returns : goal.returns
unfolding status_line type_text length_text response_fields_text digits
returns c = rw c.if-close.false refl

use Rattle.std.specs.Prelude.{⊤}
use Rattle.std.specs.Str.{is_utf8, chars}
use lib.Utf8.{encode}
use Rattle.rehearsal_script.specs.Kind.{kind_of}
use Rattle.rehearsal_script.specs.Line.{host_named, host_at, host_asked, limits_of, line_by_kind}
use Rattle.rehearsal_script.specs.Script.{line_of}
use Rattle.rehearsal_script.specs.Words.{number_of, numeral_of, priority_of, tools_of}

-- what an answer unfolds to compute the grammar on a literal, up to the configurations of limits
unfoldable pub script_on_literals : ⊤
unfolding line_of kind_of line_by_kind host_named host_at host_asked limits_of number_of numeral_of priority_of tools_of is_utf8 chars encode
script_on_literals = tt

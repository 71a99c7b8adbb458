-- The grammar of a script: what its bytes say, or the first line that is refused and why.
use Rattle.std.specs.Prelude.{ℕ, ◌+◌, Bool, true, ◌==◌, List, [], ◌∷◌, ◌++◌, length, Result, Ok, Err, if◌then◌else◌}
use Rattle.std.specs.List.{slice_split}
use Rattle.std.specs.Str.{is_utf8}
use Rattle.rehearsal_script.specs.Kind.{kind_of}
use Rattle.rehearsal_script.specs.Line.{need, check, line_by_kind}
use Rattle.rehearsal_script.specs.declared.lines.Content.{Content}
use Rattle.rehearsal_script.specs.declared.lines.Content.TheVariants.{Nothing, NewHost, Event}
use Rattle.rehearsal_script.specs.declared.script.ScriptHost.{ScriptHost}
use Rattle.rehearsal_script.specs.declared.script.ScriptLine.TheVariants.{Host}
use Rattle.rehearsal_script.specs.declared.script.Script.{Script}
use Rattle.rehearsal_script.specs.declared.script.Reason.{Reason}
use Rattle.rehearsal_script.specs.declared.script.Reason.TheVariants.{NotUtf8, UnknownWord}
use Rattle.rehearsal_script.specs.declared.script.ScriptFault.{ScriptFault}
use Rattle.rehearsal_script.specs.declared.script.ScriptFault.TheVariants.{Refused}

-- empty, or a comment: it begins with '#'
abbrev pub is_skipped : List ℕ → Bool
is_skipped [] = true
is_skipped (c ∷ cs) = c == 35

-- the fields of a line: its parts between spaces
abbrev pub fields_of : List ℕ → List (List ℕ)
fields_of bytes = slice_split (λ b. b == 32) bytes

-- what a line says where these hosts are declared
unfoldable pub line_of : List ScriptHost → List ℕ → Result Content Reason
line_of hosts bytes =
    check (is_utf8 bytes) NotUtf8 (
    if is_skipped bytes then Ok Nothing
    else need (kind_of (fields_of bytes)) UnknownWord (λ kind. line_by_kind hosts kind (fields_of bytes)))

-- the script with one more line, whose number is n
abbrev pub with_line : Script → ℕ → Content → Script
with_line script n Nothing = script
with_line script n (NewHost host) = record {
  hosts = script.hosts ++ host ∷ [];
  lines = script.lines ++ record { number = n; line = Host (length script.hosts) } ∷ [];
}
with_line script n (Event line) = record {
  hosts = script.hosts;
  lines = script.lines ++ record { number = n; line = line } ∷ [];
}

-- go on after line n, or refuse it
abbrev pub go_on : ℕ → Result Content Reason → (Content → Result Script ScriptFault) → Result Script ScriptFault
go_on n (Ok content) next = next content
go_on n (Err reason) next = Err (Refused n reason)

-- the lines that are left, from number n on, after what they follow
abbrev pub lines_from : Script → ℕ → List (List ℕ) → Result Script ScriptFault
lines_from script n [] = Ok script
lines_from script n (l ∷ ls) = go_on n (line_of script.hosts l) (λ content. lines_from (with_line script n content) (n + 1) ls)

-- the lines of bytes: their parts between line feeds
abbrev pub lines_of : List ℕ → List (List ℕ)
lines_of bytes = slice_split (λ b. b == 10) bytes

abbrev pub no_lines : Script
no_lines = record { hosts = []; lines = [] }

-- what the bytes say, or the first line that is refused and why
abbrev pub script_of : List ℕ → Result Script ScriptFault
script_of bytes = lines_from no_lines 1 (lines_of bytes)

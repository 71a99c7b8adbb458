-- What the lines of each kind say, by their fields, where these hosts are declared above.
use Rattle.std.specs.Prelude.{ℕ, Bool, true, false, not, ◌==◌, ◌||◌, nat_lt, List, [], ◌∷◌, length, Option, Some, None, Result, Ok, Err, ok_or}
use Rattle.std.specs.List.{join_with_byte, list_any, position_from}
use Rattle.std.specs.Result.{result_ok}
use Rattle.std.specs.Str.{bytes_eq}
use Rattle.ps_json.specs.Answer.{then_with}
use Rattle.ps_time.specs.Class.{class_of_text}
use Rattle.ps_time.specs.Name.{is_name}
use Rattle.ps_time.specs.Numbers.{greatest_length, most_script_hosts}
use Rattle.limit_apply.specs.Limits.{LimitsConfig}
use Rattle.limit_apply.specs.Read.{config_in}
use Rattle.rehearsal_script.specs.Words.{number_of, moment_of, numeral_of, image_of, priority_of, is_address, tools_of}
use Rattle.rehearsal_script.specs.declared.kind.Kind.{Kind}
use Rattle.rehearsal_script.specs.declared.kind.Kind.TheVariants as kind
use Rattle.rehearsal_script.specs.declared.lines.Content.{Content}
use Rattle.rehearsal_script.specs.declared.lines.Content.TheVariants.{NewHost, Event}
use Rattle.rehearsal_script.specs.declared.script.ScriptHost.{ScriptHost}
use Rattle.rehearsal_script.specs.declared.script.ScriptLine.TheVariants.{Tools, Limits, Book, Post, Get, Delete, Turn, Archive, Crash, Fail, Deliver, Repeat, Lose}
use Rattle.rehearsal_script.specs.declared.script.Reason.{Reason}
use Rattle.rehearsal_script.specs.declared.script.Reason.TheVariants.{WrongNumberOfFields, BadNumber, BadName, NoSuchHost, RepeatedHost, TooManyHosts, BadClass, BadTool, BadLimits, BadImage}

-- ---- what may be refused
-- go on with the value, or refuse
abbrev pub need : {A B : Type 0} → Option A → Reason → (A → Result B Reason) → Result B Reason
need None reason next = Err reason
need (Some x) reason next = next x

-- go on where the test passes, or refuse
abbrev pub check : {B : Type 0} → Bool → Reason → Result B Reason → Result B Reason
check true reason next = next
check false reason next = Err reason

-- the place of the host that has this name
abbrev pub place_of : List ScriptHost → List ℕ → Option ℕ
place_of hosts name = position_from (λ h. bytes_eq h.name name) 0 hosts

-- whether a host has this name or this number already
abbrev pub is_repeated : List ScriptHost → List ℕ → ℕ → Bool
is_repeated hosts name number = list_any (λ h. bytes_eq h.name name || h.number == number) hosts

-- the place of the host `NAME`
unfoldable pub host_named : List ScriptHost → List ℕ → Result ℕ Reason
host_named hosts name =
    check (is_name name) BadName (
    ok_or (place_of hosts name) NoSuchHost)

-- `T NAME`: when, and on which host
unfoldable pub host_at : List ScriptHost → List ℕ → List ℕ → Result (ℕ × ℕ) Reason
host_at hosts at name =
    need (moment_of at) BadNumber (λ t.
    then_with (host_named hosts name) (λ h. Ok (t, h)))

-- the same of a line with an `ADDRESS`
unfoldable pub host_asked : List ScriptHost → List ℕ → List ℕ → List ℕ → Result (ℕ × ℕ) Reason
host_asked hosts at name address =
    need (moment_of at) BadNumber (λ t.
    check (is_address address) BadName (
    then_with (host_named hosts name) (λ h. Ok (t, h))))

-- the rest of a line: its last fields, with the spaces between them
abbrev pub rest : List (List ℕ) → List ℕ
rest fields = join_with_byte 32 fields

-- the configuration of limits that the rest of a line is
unfoldable pub limits_of : List (List ℕ) → Option LimitsConfig
limits_of fields = result_ok (config_in (rest fields))

-- ---- lines
-- `host NAME NUMBER`
abbrev pub host_line : List ScriptHost → List (List ℕ) → Result Content Reason
host_line hosts (word ∷ name ∷ number ∷ []) =
    need (number_of 1 65535 number) BadNumber (λ n.
    check (is_name name) BadName (
    check (not (is_repeated hosts name n)) RepeatedHost (
    check (nat_lt (length hosts) most_script_hosts) TooManyHosts (
    Ok (NewHost (record { name = name; number = n }))))))
host_line hosts _ = Err WrongNumberOfFields

-- `tools NAME T,T`
abbrev pub tools_line : List ScriptHost → List (List ℕ) → Result Content Reason
tools_line hosts (word ∷ name ∷ tools ∷ []) =
    then_with (host_named hosts name) (λ h.
    need (tools_of tools) BadTool (λ ts.
    Ok (Event (Tools h ts))))
tools_line hosts _ = Err WrongNumberOfFields

-- `limits NAME JSON`
abbrev pub limits_line : List ScriptHost → List (List ℕ) → Result Content Reason
limits_line hosts (word ∷ name ∷ json ∷ more) =
    then_with (host_named hosts name) (λ h.
    need (limits_of (json ∷ more)) BadLimits (λ l.
    Ok (Event (Limits h l))))
limits_line hosts _ = Err WrongNumberOfFields

-- `T NAME book CLASS PRIORITY START LENGTH`
abbrev pub book_line : List ScriptHost → List (List ℕ) → Result Content Reason
book_line hosts (at ∷ name ∷ word ∷ class ∷ priority ∷ start ∷ len ∷ []) =
    need (moment_of at) BadNumber (λ t.
    need (priority_of priority) BadNumber (λ p.
    need (moment_of start) BadNumber (λ s.
    need (number_of 1 greatest_length len) BadNumber (λ l.
    then_with (host_named hosts name) (λ h.
    need (class_of_text class) BadClass (λ c.
    Ok (Event (Book t h c p s l))))))))
book_line hosts _ = Err WrongNumberOfFields

-- `T NAME post ADDRESS JSON`
abbrev pub post_line : List ScriptHost → List (List ℕ) → Result Content Reason
post_line hosts (at ∷ name ∷ word ∷ address ∷ json ∷ more) =
    then_with (host_asked hosts at name address) (λ p.
    Ok (Event (Post p.0 p.1 address (rest (json ∷ more)))))
post_line hosts _ = Err WrongNumberOfFields

-- `T NAME get PATH`
abbrev pub get_line : List ScriptHost → List (List ℕ) → Result Content Reason
get_line hosts (at ∷ name ∷ word ∷ path ∷ []) =
    then_with (host_at hosts at name) (λ p. Ok (Event (Get p.0 p.1 path)))
get_line hosts _ = Err WrongNumberOfFields

-- `T NAME delete ADDRESS PATH`
abbrev pub delete_line : List ScriptHost → List (List ℕ) → Result Content Reason
delete_line hosts (at ∷ name ∷ word ∷ address ∷ path ∷ []) =
    then_with (host_asked hosts at name address) (λ p. Ok (Event (Delete p.0 p.1 address path)))
delete_line hosts _ = Err WrongNumberOfFields

-- `T NAME turn`
abbrev pub turn_line : List ScriptHost → List (List ℕ) → Result Content Reason
turn_line hosts (at ∷ name ∷ word ∷ []) = then_with (host_at hosts at name) (λ p. Ok (Event (Turn p.0 p.1)))
turn_line hosts _ = Err WrongNumberOfFields

-- `T NAME archive`
abbrev pub archive_line : List ScriptHost → List (List ℕ) → Result Content Reason
archive_line hosts (at ∷ name ∷ word ∷ []) = then_with (host_at hosts at name) (λ p. Ok (Event (Archive p.0 p.1)))
archive_line hosts _ = Err WrongNumberOfFields

-- `T NAME crash K IMAGE`
abbrev pub crash_line : List ScriptHost → List (List ℕ) → Result Content Reason
crash_line hosts (at ∷ name ∷ word ∷ call ∷ image ∷ []) =
    need (moment_of at) BadNumber (λ t.
    need (numeral_of call) BadNumber (λ k.
    then_with (host_named hosts name) (λ h.
    need (image_of image) BadImage (λ i.
    Ok (Event (Crash t h (record { call = k; image = i })))))))
crash_line hosts _ = Err WrongNumberOfFields

-- `T NAME fail K`
abbrev pub fail_line : List ScriptHost → List (List ℕ) → Result Content Reason
fail_line hosts (at ∷ name ∷ word ∷ call ∷ []) =
    need (moment_of at) BadNumber (λ t.
    need (numeral_of call) BadNumber (λ k.
    then_with (host_named hosts name) (λ h.
    Ok (Event (Fail t h k)))))
fail_line hosts _ = Err WrongNumberOfFields

-- `T deliver N`
abbrev pub deliver_line : List (List ℕ) → Result Content Reason
deliver_line (at ∷ word ∷ message ∷ []) =
    need (moment_of at) BadNumber (λ t. need (numeral_of message) BadNumber (λ n. Ok (Event (Deliver t n))))
deliver_line _ = Err WrongNumberOfFields

-- `T repeat N`
abbrev pub repeat_line : List (List ℕ) → Result Content Reason
repeat_line (at ∷ word ∷ message ∷ []) =
    need (moment_of at) BadNumber (λ t. need (numeral_of message) BadNumber (λ n. Ok (Event (Repeat t n))))
repeat_line _ = Err WrongNumberOfFields

-- `lose N`
abbrev pub lose_line : List (List ℕ) → Result Content Reason
lose_line (word ∷ message ∷ []) = need (numeral_of message) BadNumber (λ n. Ok (Event (Lose n)))
lose_line _ = Err WrongNumberOfFields

unfoldable pub line_by_kind : List ScriptHost → Kind → List (List ℕ) → Result Content Reason
line_by_kind hosts kind.Host fields = host_line hosts fields
line_by_kind hosts kind.Tools fields = tools_line hosts fields
line_by_kind hosts kind.Limits fields = limits_line hosts fields
line_by_kind hosts kind.Book fields = book_line hosts fields
line_by_kind hosts kind.Post fields = post_line hosts fields
line_by_kind hosts kind.Get fields = get_line hosts fields
line_by_kind hosts kind.Delete fields = delete_line hosts fields
line_by_kind hosts kind.Turn fields = turn_line hosts fields
line_by_kind hosts kind.Archive fields = archive_line hosts fields
line_by_kind hosts kind.Crash fields = crash_line hosts fields
line_by_kind hosts kind.Fail fields = fail_line hosts fields
line_by_kind hosts kind.Deliver fields = deliver_line fields
line_by_kind hosts kind.Repeat fields = repeat_line fields
line_by_kind hosts kind.Lose fields = lose_line fields

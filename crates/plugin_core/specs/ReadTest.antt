-- Which test a JSON tree is.
use Rattle.std.specs.Prelude.{ℕ, ◌/◌, ◌+◌, Bool, true, not, ◌&&◌, ◌==◌, nat_lt, nat_le, List, [], ◌∷◌, length, Option, Some, None, Result, Ok, Err, if◌then◌else◌, codes}
use Rattle.serde_json.specs.Data.{Data, Members}
use Rattle.ps_json.specs.Each.{read_each}
use Rattle.ps_json.specs.Answer.{then_with, lifted}
use Rattle.ps_json.specs.Fields.{without_member, end_of}
use Rattle.ps_json.specs.Kinds.{count_of, text_of, list_of, members_of}
use Rattle.ps_json.specs.declared.fault.JsonFault.TheVariants.{WrongKind}
use Rattle.ps_time.specs.Length.{length_of}
use Rattle.ps_time.specs.Name.{is_name}
use Rattle.ps_time.specs.Numbers.{greatest_length, most_participants}
use Rattle.plugin_core.specs.declared.fault.SpecFault.{SpecFault}
use Rattle.plugin_core.specs.declared.fault.SpecFault.TheVariants.{Json, BadTime, UnknownTest, BadSpec}
use Rattle.plugin_core.specs.declared.kind.TestKind.{TestKind}
use Rattle.plugin_core.specs.declared.kind.TestKind.TheVariants.{Idle as idle, Idleex as idleex, Idlebgm as idlebgm, Idlemany as idlemany, Simplestream as simplestream}
use Rattle.plugin_core.specs.declared.test_spec.TestSpec.{TestSpec}
use Rattle.plugin_core.specs.declared.test_spec.TestSpec.TheVariants.{Idle, Idleex, Idlebgm, Idlemany, Simplestream}
use Rattle.plugin_core.specs.declared.test_spec.Sleep.{Sleep}
use Rattle.plugin_core.specs.Fault.{wrapped, in_json}
use Rattle.plugin_core.specs.Kind.{kind_of_text}
use Rattle.ps_json.specs.Member.{required, optional, member_then}
use Rattle.plugin_core.specs.Participants.{is_named}

-- ---- contents of members

-- the version of the format, of which there is one
abbrev pub schema : List ℕ → Data → Result ℕ SpecFault
schema name d = in_json (count_of name 1 1 d)

-- a length
abbrev pub length_in : List ℕ → Data → Result ℕ SpecFault
length_in name d = then_with (in_json (text_of name d)) (λ bs. lifted (BadTime name) (length_of bs))

-- a length of at least 1 s
abbrev pub duration_in : List ℕ → Data → Result ℕ SpecFault
duration_in name d = then_with (length_in name d) (λ len. if len == 0 then Err (BadSpec name) else Ok len)

-- a text of so many bytes at most
abbrev pub text_within : ℕ → List ℕ → Data → Result (List ℕ) SpecFault
text_within most name d = then_with (in_json (text_of name d)) (λ bs. if nat_le (length bs) most then Ok bs else Err (Json (WrongKind name)))

abbrev pub comment_in : List ℕ → Data → Result (Option (List ℕ)) SpecFault
comment_in name d = then_with (text_within 1_024 name d) (λ bs. Ok (Some bs))

-- the name of a host
abbrev pub host_in : List ℕ → Data → Result (List ℕ) SpecFault
host_in name d = then_with (in_json (text_of name d)) (λ bs. if is_name bs then Ok bs else Err (Json (WrongKind name)))

-- the names of hosts
-- no name stands there twice
abbrev pub all_differ : List (List ℕ) → Bool
all_differ [] = true
all_differ (name ∷ names) = not (is_named name names) && all_differ names

-- 2 to 8 different names
abbrev pub are_hosts : List (List ℕ) → Bool
are_hosts names = nat_le 2 (length names) && (nat_le (length names) most_participants && all_differ names)

abbrev pub hosts_in : List ℕ → Data → Result (List (List ℕ)) SpecFault
hosts_in name d =
    then_with (in_json (list_of name d)) (λ ds. then_with (read_each (host_in name) ds) (λ names. if are_hosts names then Ok names else Err (BadSpec name)))

-- ---- specs of tests: their members, in the order in which they are read

-- the sleep of every test that has one
abbrev pub sleep_in : Members → Result Sleep SpecFault
sleep_in ms =
    member_then (codes "schema") (optional 1 schema) ms (λ _ ms.
    member_then (codes "duration") (required wrapped duration_in) ms (λ duration ms.
    member_then (codes "starting-comment") (optional None comment_in) ms (λ starting ms.
    member_then (codes "parting-comment") (optional None comment_in) ms (λ parting ms.
    Ok (record { duration = duration; starting_comment = starting; parting_comment = parting })))))

abbrev pub after_sleep : Members → Members
after_sleep ms =
    without_member (codes "parting-comment") (without_member (codes "starting-comment") (without_member (codes "duration") (without_member (codes "schema") ms)))

-- nothing but comments is left
abbrev pub ended : Members → TestSpec → Result TestSpec SpecFault
ended ms test = then_with (in_json (end_of ms)) (λ _. Ok test)

abbrev pub idle_of : Members → Result TestSpec SpecFault
idle_of ms = then_with (sleep_in ms) (λ s. ended (after_sleep ms) (Idle s))

abbrev pub idleex_of : Members → Result TestSpec SpecFault
idleex_of ms = then_with (sleep_in ms) (λ s. ended (after_sleep ms) (Idleex s))

-- the interval is at most the duration, and goes into it at most 64 times
abbrev pub paced : ℕ → ℕ → Result ℕ SpecFault
paced duration interval =
    if nat_lt duration interval then Err (BadSpec (codes "interval"))
    else if nat_lt 64 (duration / interval) then Err (BadSpec (codes "duration"))
    else Ok interval

abbrev pub idlebgm_of : Members → Result TestSpec SpecFault
idlebgm_of ms =
    then_with (sleep_in ms) (λ s.
    member_then (codes "interval") (required wrapped duration_in) (after_sleep ms) (λ interval ms.
    then_with (paced s.duration interval) (λ interval.
    ended ms (Idlebgm s interval))))

abbrev pub idlemany_of : Members → Result TestSpec SpecFault
idlemany_of ms =
    then_with (sleep_in ms) (λ s.
    member_then (codes "hosts") (required wrapped hosts_in) (after_sleep ms) (λ hosts ms.
    ended ms (Idlemany s hosts)))

-- the length of the whole is a length
abbrev pub whole : ℕ → ℕ → Result ℕ SpecFault
whole dawdle timeout = if nat_lt greatest_length (dawdle + timeout) then Err (BadSpec (codes "timeout")) else Ok timeout

abbrev pub simplestream_of : Members → Result TestSpec SpecFault
simplestream_of ms =
    member_then (codes "schema") (optional 1 schema) ms (λ _ ms.
    member_then (codes "dest") (required wrapped host_in) ms (λ dest ms.
    member_then (codes "test-material") (optional [] (text_within 8_192)) ms (λ material ms.
    member_then (codes "dawdle") (optional 0 length_in) ms (λ dawdle ms.
    member_then (codes "timeout") (optional 5 duration_in) ms (λ timeout ms.
    then_with (whole dawdle timeout) (λ timeout.
    ended ms (Simplestream dest material dawdle timeout)))))))

abbrev pub spec_of : TestKind → Members → Result TestSpec SpecFault
spec_of idle ms = idle_of ms
spec_of idleex ms = idleex_of ms
spec_of idlebgm ms = idlebgm_of ms
spec_of idlemany ms = idlemany_of ms
spec_of simplestream ms = simplestream_of ms

-- ---- a test: its type, and its spec

abbrev pub kind_in : List ℕ → Data → Result TestKind SpecFault
kind_in name d = then_with (in_json (text_of name d)) (λ bs. known bs (kind_of_text bs))
  where
    known : List ℕ → Option TestKind → Result TestKind SpecFault
    known bs None = Err (UnknownTest bs)
    known bs (Some kind) = Ok kind

abbrev pub object_in : List ℕ → Data → Result Members SpecFault
object_in name d = in_json (members_of name d)

abbrev pub test_of : Data → Result TestSpec SpecFault
test_of d =
    then_with (object_in (codes "test") d) (λ ms.
    member_then (codes "type") (required wrapped kind_in) ms (λ kind ms.
    member_then (codes "spec") (required wrapped object_in) ms (λ spec ms.
    then_with (spec_of kind spec) (λ test.
    ended ms test))))

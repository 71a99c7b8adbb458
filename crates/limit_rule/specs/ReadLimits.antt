-- Which limits a JSON tree is.
use Rattle.std.specs.Prelude.{ℕ, nat_lt, List, Option, Some, None, Result, Ok, Err, if◌then◌else◌, false, bytes_eq, codes}
use Rattle.serde_json.specs.Data.{Data, Members}
use Rattle.serde_json.specs.Find.{get_member}
use Rattle.ps_json.specs.Each.{read_each}
use Rattle.ps_json.specs.Answer.{then_with}
use Rattle.ps_json.specs.Fields.{without_member}
use Rattle.ps_json.specs.declared.fault.JsonFault.TheVariants.{WrongKind}
use Rattle.ps_time.specs.Length.{length_of}
use Rattle.ps_time.specs.Moment.{moment_of}
use Rattle.ps_time.specs.declared.moment.Round.{Round}
use Rattle.ps_time.specs.declared.moment.Round.TheVariants.{Up, Down}
use Rattle.ps_time.specs.declared.moment.TimeFault.{TimeFault}
use Rattle.ps_json.specs.Member.{required, optional, member_then}
use Rattle.plugin_core.specs.Kind.{kind_of_text}
use Rattle.plugin_core.specs.declared.kind.TestKind.{TestKind}
use Rattle.limit_ident.specs.Member.{text_in, flag_in, object_in, some_in, ended, described}
use Rattle.limit_ident.specs.Fault.{wrapped}
use Rattle.limit_ident.specs.Named.{entries_in}
use Rattle.limit_ident.specs.declared.fault.LimitFault.{LimitFault}
use Rattle.limit_ident.specs.declared.fault.LimitFault.TheVariants.{Json, UnknownType, UnknownName, BadRange}
use Rattle.limit_ident.specs.declared.named.Named.{Named}
use Rattle.limit_rule.specs.declared.bounds.Bounds.{Bounds}
use Rattle.limit_rule.specs.declared.limit.DateRange.{DateRange}
use Rattle.limit_rule.specs.declared.limit.Lengths.{Lengths}
use Rattle.limit_rule.specs.declared.limit.Limit.{Limit}
use Rattle.limit_rule.specs.declared.limit.Rule.{Rule}
use Rattle.limit_rule.specs.declared.limit.Rule.TheVariants.{PassFail as pass_fail, TestType as test_type, Test as of_test, RunDateRange as run_date_range, RunSchedule as run_schedule}
use Rattle.limit_rule.specs.declared.read_limits.Kind.{Kind}
use Rattle.limit_rule.specs.declared.read_limits.Kind.TheVariants.{PassFail, TestType, Test, RunDateRange, RunSchedule}
use Rattle.limit_rule.specs.ReadSchedule.{schedule_in}

abbrev pub kind_of : List ℕ → Option Kind
kind_of bs =
    if bytes_eq bs (codes "pass-fail") then Some PassFail
    else if bytes_eq bs (codes "test-type") then Some TestType
    else if bytes_eq bs (codes "test") then Some Test
    else if bytes_eq bs (codes "run-daterange") then Some RunDateRange
    else if bytes_eq bs (codes "run-schedule") then Some RunSchedule
    else None

abbrev pub kind_in : List ℕ → Data → Result Kind LimitFault
kind_in name d = then_with (text_in name d) (λ bs. known bs (kind_of bs))
  where
    known : List ℕ → Option Kind → Result Kind LimitFault
    known bs None = Err (UnknownType bs)
    known bs (Some kind) = Ok kind

-- ---- contents

-- a value of time, or the refusal of the member
abbrev pub timed : List ℕ → Result ℕ TimeFault → Result ℕ LimitFault
timed name (Ok n) = Ok n
timed name (Err fault) = Err (Json (WrongKind name))

abbrev pub length_in : List ℕ → Data → Result ℕ LimitFault
length_in name d = then_with (text_in name d) (λ bs. timed name (length_of bs))

abbrev pub moment_in : Round → List ℕ → Data → Result ℕ LimitFault
moment_in round name d = then_with (text_in name d) (λ bs. timed name (moment_of round bs))

-- the name of a test
abbrev pub test_name_in : List ℕ → Data → Result TestKind LimitFault
test_name_in name d = then_with (text_in name d) (λ bs. known bs (kind_of_text bs))
  where
    known : List ℕ → Option TestKind → Result TestKind LimitFault
    known bs None = Err (UnknownName bs)
    known bs (Some kind) = Ok kind

abbrev pub test_names_in : List ℕ → Data → Result (List TestKind) LimitFault
test_names_in name d = then_with (some_in name d) (read_each (test_name_in name))

-- `lower` and `upper`, of the length that is named first
abbrev pub range_in : List ℕ → List ℕ → Data → Result Bounds LimitFault
range_in len name d =
    then_with (object_in name d) (λ ms.
    member_then (codes "lower") (required wrapped length_in) ms (λ lower ms.
    member_then (codes "upper") (required wrapped length_in) ms (λ upper ms.
    if nat_lt upper lower then Err (BadRange len)
    else then_with (ended ms) (λ _. Ok (record { lower = lower; upper = upper })))))

abbrev pub bounds_in : List ℕ → Data → Result Bounds LimitFault
bounds_in name d =
    then_with (object_in name d) (λ ms.
    member_then (codes "range") (required wrapped (range_in name)) ms (λ bounds ms.
    then_with (ended ms) (λ _. Ok bounds)))

abbrev pub some_bounds_in : List ℕ → Data → Result (Option Bounds) LimitFault
some_bounds_in name d = then_with (bounds_in name d) (λ bounds. Ok (Some bounds))

abbrev pub lengths_in : List ℕ → Data → Result Lengths LimitFault
lengths_in name d =
    then_with (object_in name d) (λ ms.
    member_then (codes "duration") (optional None some_bounds_in) ms (λ duration ms.
    member_then (codes "interval") (optional None some_bounds_in) ms (λ interval ms.
    member_then (codes "dawdle") (optional None some_bounds_in) ms (λ dawdle ms.
    member_then (codes "timeout") (optional None some_bounds_in) ms (λ timeout ms.
    then_with (ended ms) (λ _. Ok (record { duration = duration; interval = interval; dawdle = dawdle; timeout = timeout })))))))

-- ---- data by type

abbrev pub pass_of : Option Data → Result Rule LimitFault
pass_of None = Ok (pass_fail false)
pass_of (Some d) =
    then_with (object_in (codes "data") d) (λ ms.
    member_then (codes "pass") (optional false flag_in) ms (λ pass ms.
    then_with (ended ms) (λ _. Ok (pass_fail pass))))

abbrev pub test_type_in : List ℕ → Data → Result Rule LimitFault
test_type_in name d =
    then_with (object_in name d) (λ ms.
    member_then (codes "types") (required wrapped test_names_in) ms (λ types ms.
    then_with (ended ms) (λ _. Ok (test_type types))))

abbrev pub test_in : List ℕ → Data → Result Rule LimitFault
test_in name d =
    then_with (object_in name d) (λ ms.
    member_then (codes "test") (required wrapped test_name_in) ms (λ test ms.
    member_then (codes "limit") (required wrapped lengths_in) ms (λ lengths ms.
    then_with (ended ms) (λ _. Ok (of_test test lengths)))))

-- the start is rounded up, the end is dropped to its second, and isn't before the start
abbrev pub dates_of : Members → Result DateRange LimitFault
dates_of ms =
    member_then (codes "start") (required wrapped (moment_in Up)) ms (λ start ms.
    member_then (codes "end") (required wrapped (moment_in Down)) ms (λ end ms.
    if nat_lt end start then Err (BadRange (codes "end"))
    else member_then (codes "overlap") (optional false flag_in) ms (λ overlap ms.
    Ok (record { start = start; end = end; overlap = overlap }))))

abbrev pub dates_in : List ℕ → Data → Result Rule LimitFault
dates_in name d =
    then_with (object_in name d) (λ ms.
    then_with (dates_of ms) (λ range.
    let ms = without_member (codes "overlap") (without_member (codes "end") (without_member (codes "start") ms)) in
    then_with (ended ms) (λ _. Ok (run_date_range range))))

abbrev pub times_in : List ℕ → Data → Result Rule LimitFault
times_in name d = then_with (schedule_in name d) (λ schedule. Ok (run_schedule schedule))

unfoldable pub rule_of : Kind → List ℕ → Members → Result Rule LimitFault
rule_of PassFail name ms = pass_of (get_member name ms)
rule_of TestType name ms = required wrapped test_type_in name ms
rule_of Test name ms = required wrapped test_in name ms
rule_of RunDateRange name ms = required wrapped dates_in name ms
rule_of RunSchedule name ms = required wrapped times_in name ms

-- ---- entries

abbrev pub told_of : Kind → Members → Result Limit LimitFault
told_of kind ms =
    member_then (codes "data") (rule_of kind) ms (λ rule ms.
    member_then (codes "invert") (optional false flag_in) ms (λ invert ms.
    Ok (record { rule = rule; invert = invert })))

abbrev pub after_told : Members → Members
after_told ms = without_member (codes "invert") (without_member (codes "data") ms)

-- what stands behind the type
abbrev pub rest_of : Kind → Members → Result Limit LimitFault
rest_of kind ms = then_with (told_of kind ms) (λ limit. then_with (described (after_told ms)) (λ _. Ok limit))

-- what stands behind the name
abbrev pub limit_of : Members → Result Limit LimitFault
limit_of ms = member_then (codes "type") (required wrapped kind_in) ms (λ kind ms. rest_of kind ms)

-- a list of limits, which isn't empty
abbrev pub limits_in : List ℕ → Data → Result (List (Named Limit)) LimitFault
limits_in name d = entries_in limit_of name d

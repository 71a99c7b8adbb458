-- Which schedule a JSON tree is.
use Rattle.std.specs.Prelude.{ℕ, ◌==◌, List, Option, Some, None, Result, Ok, Err, if◌then◌else◌, codes}
use Rattle.serde_json.specs.Data.{Data, Members}
use Rattle.ps_json.specs.Answer.{then_with, lifted}
use Rattle.ps_json.specs.Fields.{end_of}
use Rattle.ps_json.specs.Kinds.{count_of, text_of, members_of}
use Rattle.ps_time.specs.Length.{length_of}
use Rattle.ps_time.specs.Moment.{moment_of}
use Rattle.ps_time.specs.Start.{start_of}
use Rattle.ps_time.specs.declared.moment.Round.TheVariants.{Down}
use Rattle.ps_time.specs.declared.moment.TimeFault.TheVariants.{Range}
use Rattle.ps_json.specs.Member.{optional, member_then}
use Rattle.schedule_rule.specs.Rule.{Schedule}
use Rattle.task_spec.specs.declared.fault.TaskFault.{TaskFault}
use Rattle.task_spec.specs.declared.fault.TaskFault.TheVariants.{BadTime}
use Rattle.task_spec.specs.Fault.{in_json}

-- a start, seen from now
abbrev pub start_in : ℕ → List ℕ → Data → Result ℕ TaskFault
start_in now name d = then_with (in_json (text_of name d)) (λ bs. lifted (BadTime name) (start_of now bs))

-- a length
abbrev pub length_in : List ℕ → Data → Result ℕ TaskFault
length_in name d = then_with (in_json (text_of name d)) (λ bs. lifted (BadTime name) (length_of bs))

-- a length of at least 1 s
abbrev pub repeat_in : List ℕ → Data → Result (Option ℕ) TaskFault
repeat_in name d = then_with (length_in name d) (λ len. if len == 0 then Err (BadTime name Range) else Ok (Some len))

-- a moment, a fraction of a second dropped
abbrev pub until_in : List ℕ → Data → Result (Option ℕ) TaskFault
until_in name d = then_with (in_json (text_of name d)) (λ bs. then_with (lifted (BadTime name) (moment_of Down bs)) (λ m. Ok (Some m)))

-- a number of runs
abbrev pub runs_in : List ℕ → Data → Result (Option ℕ) TaskFault
runs_in name d = then_with (in_json (count_of name 1 4_294_967_295 d)) (λ n. Ok (Some n))

-- the members of a schedule, in the order in which they are read
abbrev pub schedule_members : ℕ → Members → Result Schedule TaskFault
schedule_members now ms =
    member_then (codes "start") (optional now (start_in now)) ms (λ anchor ms.
    member_then (codes "slip") (optional 300 length_in) ms (λ slip ms.
    member_then (codes "repeat") (optional None repeat_in) ms (λ repeat ms.
    member_then (codes "until") (optional None until_in) ms (λ until ms.
    member_then (codes "max-runs") (optional None runs_in) ms (λ runs ms.
    then_with (in_json (end_of ms)) (λ _.
    Ok (record { anchor = anchor; slip = slip; repeat = repeat; until = until; max_runs = runs })))))))

abbrev pub schedule_in : ℕ → List ℕ → Data → Result Schedule TaskFault
schedule_in now name d = then_with (in_json (members_of name d)) (schedule_members now)

-- The bodies by which peers deny: their members, in the order in which they are read.
use Rattle.std.specs.Str.{bytes_eq}
use Rattle.std.specs.Prelude.{◌^◌, ◌-◌, Err, List, None, Ok, Option, Result, Some, codes, if◌then◌else◌, length, nat_le, negsuc, pos, ℕ, ℤ}
use Rattle.serde_json.specs.Data.{Data, Members}
use Rattle.ps_json.specs.Answer.{then_with}
use Rattle.ps_json.specs.Kinds.{count_of, integer_of}
use Rattle.ps_json.specs.Member.{member_then, required}
use Rattle.ps_json.specs.declared.fault.JsonFault.TheVariants.{WrongKind}
use Rattle.ps_time.specs.Numbers.{most_request_bytes}
use Rattle.ps_time.specs.declared.asker.Verdict.TheVariants.{Stopped, Exhausted, AboveCeiling}
use Rattle.run_states.specs.declared.proposal.Proposal.{Proposal}
use Rattle.run_states.specs.declared.why.Denial.{Denial}
use Rattle.run_states.specs.declared.why.Denial.TheVariants as denial
use Rattle.run_states.specs.declared.why.What.{What}
use Rattle.run_states.specs.declared.why.What.TheVariants.{Runs, Results, Numbers}
use Rattle.task_spec.specs.Fault.{in_json, wrapped}
use Rattle.task_spec.specs.declared.fault.TaskFault.{TaskFault}
use Rattle.task_spec.specs.declared.fault.TaskFault.TheVariants.{Json}
use Rattle.api_body.specs.Bodies.{ended, key_at, moment_in, proposal_of, text_at}
use Rattle.api_answer.specs.Told.{answer_members, state_in}

-- ---- limits
abbrev pub index_in : List ℕ → Data → Result ℕ TaskFault
index_in name d = in_json (count_of name 0 4_294_967_295 d)

abbrev pub stopped_in : Members → Result Denial TaskFault
stopped_in ms = member_then (codes "index") (required wrapped index_in) ms (λ i ms. ended ms (denial.Limits (Stopped i)))

abbrev pub ceiling_in : List ℕ → Data → Result ℤ TaskFault
ceiling_in name d = in_json (integer_of name (negsuc 32_767) (pos 32_767) d)

abbrev pub above_in : Members → Result Denial TaskFault
above_in ms = member_then (codes "ceiling") (required wrapped ceiling_in) ms (λ z ms. ended ms (denial.Limits (AboveCeiling z)))

abbrev pub by_verdict : List ℕ → Members → Result Denial TaskFault
by_verdict verdict ms =
    if bytes_eq verdict (codes "stopped") then stopped_in ms
    else if bytes_eq verdict (codes "exhausted") then ended ms (denial.Limits Exhausted)
    else if bytes_eq verdict (codes "above-ceiling") then above_in ms
    else Err (Json (WrongKind (codes "verdict")))

abbrev pub limits_in : Members → Result Denial TaskFault
limits_in ms = member_then (codes "verdict") (required wrapped text_at) ms by_verdict

-- ---- the others
abbrev pub past_in : Members → Result Denial TaskFault
past_in ms =
    member_then (codes "moment") (required wrapped moment_in) ms (λ m ms.
    member_then (codes "start") (required wrapped moment_in) ms (λ start ms.
    ended ms (denial.Past m start)))

abbrev pub conflict_in : Members → Result Denial TaskFault
conflict_in ms = member_then (codes "run") (required wrapped key_at) ms (λ k ms. ended ms (denial.Conflict k))

abbrev pub what_named : List ℕ → Option What
what_named bs =
    if bytes_eq bs (codes "runs") then Some Runs
    else if bytes_eq bs (codes "results") then Some Results
    else if bytes_eq bs (codes "numbers") then Some Numbers
    else None

abbrev pub what_or : List ℕ → Option What → Result What TaskFault
what_or name None = Err (Json (WrongKind name))
what_or name (Some what) = Ok what

abbrev pub what_in : List ℕ → Data → Result What TaskFault
what_in name d = then_with (text_at name d) (λ text. what_or name (what_named text))

abbrev pub count_in : List ℕ → Data → Result ℕ TaskFault
count_in name d = in_json (count_of name 0 (2 ^ 64 - 1) d)

abbrev pub full_in : Members → Result Denial TaskFault
full_in ms =
    member_then (codes "count") (required wrapped count_in) ms (λ count ms.
    member_then (codes "what") (required wrapped what_in) ms (λ what ms.
    ended ms (denial.Full what count)))

-- the texts of one of the proposals that differ have together at most so many bytes
abbrev pub most_texts : ℕ
most_texts = 960_000

-- such a proposal with its test and the lengths of its texts
abbrev pub most_proposal_texts : ℕ
most_proposal_texts = 1_048_576

abbrev pub proposal_at : List ℕ → List ℕ → Data → Result Proposal TaskFault
proposal_at lead name d = proposal_of most_texts lead d

abbrev pub differs_in : List ℕ → Members → Result Denial TaskFault
differs_in lead ms =
    member_then (codes "kept") (required wrapped (proposal_at lead)) ms (λ kept ms.
    member_then (codes "sent") (required wrapped (proposal_at lead)) ms (λ sent ms.
    ended ms (denial.Differs kept sent)))

abbrev pub closed_in : Members → Result Denial TaskFault
closed_in ms = member_then (codes "why") (required wrapped state_in) ms (λ s ms. ended ms (denial.Closed s))

abbrev pub stranger_in : Members → Result Denial TaskFault
stranger_in ms = member_then (codes "host") (required wrapped text_at) ms (λ host ms. ended ms denial.NotParticipant)

-- no text of a body is longer than the body
abbrev pub tool_at : List ℕ → Data → Result (List ℕ) TaskFault
tool_at name d = then_with (text_at name d) (λ text. if nat_le (length text) most_request_bytes then Ok text else Err (Json (WrongKind name)))

abbrev pub no_tool_in : Members → Result Denial TaskFault
no_tool_in ms = member_then (codes "tool") (required wrapped tool_at) ms (λ tool ms. ended ms (denial.NoTool tool))

-- ---- by the error
abbrev pub by_error : List ℕ → List ℕ → Members → Result Denial TaskFault
by_error lead e ms =
    if bytes_eq e (codes "limits") then limits_in ms
    else if bytes_eq e (codes "past") then past_in ms
    else if bytes_eq e (codes "conflict") then conflict_in ms
    else if bytes_eq e (codes "full") then full_in ms
    else if bytes_eq e (codes "differs") then differs_in lead ms
    else if bytes_eq e (codes "closed") then closed_in ms
    else if bytes_eq e (codes "not a participant") then stranger_in ms
    else if bytes_eq e (codes "no tool") then no_tool_in ms
    else Err (Json (WrongKind (codes "error")))

-- the denial that a body is, where the lead of the proposals in it has this name
abbrev pub denial_told : List ℕ → Data → Result Denial TaskFault
denial_told lead d =
    then_with (answer_members d) (λ ms. member_then (codes "error") (required wrapped text_at) ms (by_error lead))

-- What the bodies of answers of peers tell: their members, in the order in which they are read.
use Rattle.std.specs.List.{list_all}
use Rattle.std.specs.Str.{bytes_eq}
use Rattle.std.specs.Prelude.{◌&&◌, ◌∷◌, ◌≤◌, All, Bool, Err, List, None, Ok, Option, Result, Some, [], codes, if◌then◌else◌, length, nat_le, option_and_then, ℕ}
use Rattle.serde_json.specs.Data.{Data, Members, depth}
use Rattle.serde_json.specs.Find.{as_number, as_u64, get_member}
use Rattle.serde_json.specs.Written.{compact_text, has_float}
use Rattle.ps_json.specs.Answer.{then_with}
use Rattle.ps_json.specs.Each.{read_each}
use Rattle.ps_json.specs.Fields.{without_member}
use Rattle.ps_json.specs.Kinds.{boolean_of, count_within, list_of, members_of}
use Rattle.ps_json.specs.Member.{member_then, required}
use Rattle.ps_json.specs.declared.fault.JsonFault.TheVariants.{WrongKind}
use Rattle.ps_time.specs.Numbers.{greatest_moment, most_intervals, most_result_bytes}
use Rattle.ps_time.specs.Span.{Range}
use Rattle.ps_time.specs.declared.tiers.Tiers.{Tiers}
use Rattle.plugin_core.specs.ReadTest.{all_differ}
use Rattle.run_states.specs.LawfulRow.{IsWindow}
use Rattle.run_states.specs.declared.answer.FreeAnswer.{FreeAnswer}
use Rattle.run_states.specs.declared.state.State.{State}
use Rattle.run_states.specs.declared.state.State.TheVariants as state
use Rattle.task_spec.specs.Fault.{in_json, wrapped}
use Rattle.task_spec.specs.ReadTask.{is_tool}
use Rattle.task_spec.specs.declared.fault.TaskFault.{TaskFault}
use Rattle.task_spec.specs.declared.fault.TaskFault.TheVariants.{Json}
use Rattle.host_model.specs.declared.order.PeerAnswer.{PeerAnswer}
use Rattle.host_model.specs.declared.order.PeerAnswer.TheVariants as answer
use Rattle.api_body.specs.Bodies.{ended, moment_in, text_at}

-- the object that an answer is
abbrev pub answer_members : Data → Result Members TaskFault
answer_members d = in_json (members_of (codes "answer") d)

-- ---- one moment, or one flag
abbrev pub moment_told : List ℕ → Data → Result ℕ TaskFault
moment_told name d =
    then_with (answer_members d) (λ ms. member_then name (required wrapped moment_in) ms (λ m ms. ended ms m))

abbrev pub flag_in : List ℕ → Data → Result Bool TaskFault
flag_in name d = in_json (boolean_of name d)

abbrev pub flag_told : List ℕ → Data → Result Bool TaskFault
flag_told name d =
    then_with (answer_members d) (λ ms. member_then name (required wrapped flag_in) ms (λ flag ms. ended ms flag))

-- ---- free starts
abbrev pub moment_of : Data → Option ℕ
moment_of d = count_within 0 greatest_moment (option_and_then as_u64 (as_number d))

abbrev pub window_from : Option ℕ → Option ℕ → Option Range
window_from (Some first) (Some last) = if nat_le first last then Some (record { first = first; last = last }) else None
window_from _ _ = None

-- the two ends in a list
abbrev pub window_of : List Data → Option Range
window_of (first ∷ last ∷ []) = window_from (moment_of first) (moment_of last)
window_of _ = None

abbrev pub window_or : List ℕ → Option Range → Result Range TaskFault
window_or name None = Err (Json (WrongKind name))
window_or name (Some w) = Ok w

abbrev pub window_in : List ℕ → Data → Result Range TaskFault
window_in name d = then_with (in_json (list_of name d)) (λ ends. window_or name (window_of ends))

-- windows within bounds, not too many
pub record IsTier (windows : List Range) : Type 0 where
  pub each : All IsWindow windows
  pub few : length windows ≤ most_intervals

-- at most 128
abbrev pub windows_in : List ℕ → Data → Result (List Range) TaskFault
windows_in name d =
    then_with (in_json (list_of name d)) (λ ds. if nat_le (length ds) most_intervals then read_each (window_in name) ds else Err (Json (WrongKind name)))

-- different names of tools, of which there are four
abbrev pub are_tools : List (List ℕ) → Bool
are_tools names = nat_le (length names) 4 && (list_all is_tool names && all_differ names)

abbrev pub tools_in : List ℕ → Data → Result (List (List ℕ)) TaskFault
tools_in name d =
    then_with (in_json (list_of name d)) (λ ds.
    then_with (read_each (text_at name) ds) (λ names. if are_tools names then Ok names else Err (Json (WrongKind name))))

unfoldable pub first_in : Members → Result (List Range) TaskFault
first_in ms = required wrapped windows_in (codes "first-tier") ms

unfoldable pub second_in : Members → Result (List Range) TaskFault
second_in ms = required wrapped windows_in (codes "second-tier") ms

abbrev pub tiers_in : Members → Result Tiers TaskFault
tiers_in ms =
    then_with (first_in ms) (λ first.
    then_with (second_in (without_member (codes "first-tier") ms)) (λ second.
    Ok (record { first = first; second = second })))

abbrev pub after_tiers : Members → Members
after_tiers ms = without_member (codes "second-tier") (without_member (codes "first-tier") ms)

-- the tiers, and then the tools
abbrev pub free_told : Data → Result FreeAnswer TaskFault
free_told d =
    then_with (answer_members d) (λ ms.
    then_with (tiers_in ms) (λ tiers.
    member_then (codes "tools") (required wrapped tools_in) (after_tiers ms) (λ tools ms.
    ended ms (record { tools = tools; tiers = tiers }))))

-- ---- how a run went
-- the compact text of a tree of at most 60 levels whose numbers are whole, and which isn't long
abbrev pub result_in : Data → Result (List ℕ) TaskFault
result_in d = if has_float d then Err (Json (WrongKind (codes "result"))) else if fits then Ok (compact_text d) else Err (Json (WrongKind (codes "result")))
  where
    fits : Bool
    fits = nat_le (depth d) 60 && nat_le (length (compact_text d)) most_result_bytes

-- the state of a name
abbrev pub state_named : List ℕ → Option State
state_named bs =
    if bytes_eq bs (codes "missed") then Some state.Missed
    else if bytes_eq bs (codes "preempted") then Some state.Preempted
    else if bytes_eq bs (codes "nonstart") then Some state.Nonstart
    else if bytes_eq bs (codes "canceled") then Some state.Canceled
    else if bytes_eq bs (codes "finished") then Some state.Finished
    else if bytes_eq bs (codes "failed") then Some state.Failed
    else if bytes_eq bs (codes "running") then Some state.Running
    else if bytes_eq bs (codes "cleanup") then Some state.Cleanup
    else if bytes_eq bs (codes "overdue") then Some state.Overdue
    else if bytes_eq bs (codes "on-deck") then Some state.OnDeck
    else if bytes_eq bs (codes "pending") then Some state.Pending
    else None

abbrev pub state_or : List ℕ → Option State → Result State TaskFault
state_or name None = Err (Json (WrongKind name))
state_or name (Some s) = Ok s

abbrev pub state_in : List ℕ → Data → Result State TaskFault
state_in name d = then_with (text_at name d) (λ text. state_or name (state_named text))

-- a result, or else the name of a state
abbrev pub outcome_by : Option Data → Members → Result PeerAnswer TaskFault
outcome_by None ms = member_then (codes "state") (required wrapped state_in) ms (λ s ms. ended ms (answer.State s))
outcome_by (Some d) ms = then_with (result_in d) (λ text. ended ms (answer.Result text))

abbrev pub outcome_told : Data → Result PeerAnswer TaskFault
outcome_told d =
    then_with (answer_members d) (λ ms. outcome_by (get_member (codes "result") ms) (without_member (codes "result") ms))

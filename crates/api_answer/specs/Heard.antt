-- What a response tells the host that gave an order.
use Rattle.std.specs.Prelude.{◌==◌, ◌||◌, Err, List, None, Ok, Option, Result, Some, [], codes, if◌then◌else◌, length, nat_le, option_map, Bool, true, false, ℕ}
use Rattle.std.specs.Result.{result_ok}
use Rattle.serde_json.specs.Data.{Data}
use Rattle.ps_http.specs.declared.message.Response.{Response}
use Rattle.ps_json.specs.Answer.{then_with}
use Rattle.ps_json.specs.declared.fault.JsonFault.TheVariants.{WrongKind}
use Rattle.ps_time.specs.Numbers.{most_request_bytes}
use Rattle.run_states.specs.declared.why.Denial.{Denial}
use Rattle.task_spec.specs.declared.fault.TaskFault.{TaskFault}
use Rattle.task_spec.specs.declared.fault.TaskFault.TheVariants.{Json}
use Rattle.host_model.specs.declared.input.Input.{Input}
use Rattle.host_model.specs.declared.input.Input.TheVariants as input
use Rattle.host_model.specs.declared.order.Order.{Order}
use Rattle.host_model.specs.declared.order.OrderBody.{OrderBody}
use Rattle.host_model.specs.declared.order.OrderBody.TheVariants.{Free, Propose, Confirm, Cancel, Material, Result as result_order}
use Rattle.host_model.specs.declared.order.PeerAnswer.{PeerAnswer}
use Rattle.host_model.specs.declared.order.PeerAnswer.TheVariants as answer
use Rattle.api_body.specs.Bodies.{body_tree}
use Rattle.api_answer.specs.Denied.{denial_told}
use Rattle.api_answer.specs.Told.{flag_told, free_told, moment_told, outcome_told}

-- the name of the lead of the proposal that an order is
abbrev pub lead_of : OrderBody → List ℕ
lead_of (Propose p) = p.asker.server
lead_of _ = []

-- ---- status 200: by the order
-- the flag at this member says yes
abbrev pub if_yes : List ℕ → PeerAnswer → Bool → Result PeerAnswer TaskFault
if_yes name answer true = Ok answer
if_yes name answer false = Err (Json (WrongKind name))

abbrev pub if_said : List ℕ → PeerAnswer → Data → Result PeerAnswer TaskFault
if_said name answer d = then_with (flag_told name d) (if_yes name answer)

abbrev pub told_in : OrderBody → Data → Result PeerAnswer TaskFault
told_in (Free question) d = then_with (free_told d) (λ free. Ok (answer.Free free))
told_in (Propose proposal) d = then_with (moment_told (codes "accepted") d) (λ m. Ok (answer.Accepted m))
told_in Confirm d = then_with (moment_told (codes "confirmed") d) (λ m. Ok (answer.Confirmed m))
told_in Cancel d = if_said (codes "dropped") answer.Dropped d
told_in (Material text) d = if_said (codes "heard") answer.MaterialHeard d
told_in result_order d = outcome_told d

-- ---- other statuses
-- a denial, or else the status
abbrev pub denied_or : ℕ → Result Denial TaskFault → PeerAnswer
denied_or status (Ok denial) = answer.Denied denial
denied_or status (Err fault) = answer.Other status

-- 404 to a confirmation says that there is no such run
abbrev pub not_found : OrderBody → PeerAnswer
not_found Confirm = answer.Unknown
not_found _ = answer.Other 404

-- ---- every status
abbrev pub answer_by : OrderBody → ℕ → List ℕ → Option PeerAnswer
answer_by body status bytes =
    if status == 200 then result_ok (then_with (body_tree bytes) (told_in body))
    else if status == 403 || (status == 409 || status == 507) then Some (denied_or status (then_with (body_tree bytes) (denial_told (lead_of body))))
    else if status == 404 then Some (not_found body)
    else Some (answer.Other status)

-- a body that is too long is no answer
abbrev pub answer_to : OrderBody → Response → Option PeerAnswer
answer_to body r = if nat_le (length r.body) most_request_bytes then answer_by body r.status r.body else None

abbrev pub heard_of : Order → Response → Option Input
heard_of order r = option_map (input.Heard order) (answer_to order.body r)

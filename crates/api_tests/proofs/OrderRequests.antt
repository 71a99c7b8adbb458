-- The requests of orders to hosts b and c, to the host itself, and to one that is no peer, computed.
use Rattle.std.specs.Fmt.{digits}
use Rattle.std.specs.Prelude.{◌∷◌, ◌≡◌, [], codes}
use Rattle.std.proofs.Common.{refl}
use Rattle.json.specs.Print.{escape_byte}
use Rattle.serde_json.proofs.OnLiterals.{serde_json_on_literals}
use Rattle.uuid.proofs.OnLiterals.{uuid_on_literals}
use Rattle.ps_time.specs.Length.{length_text_of}
use Rattle.api_reply.specs.Shown.{run_text, second_data}
use Rattle.api_tests.proofs.Told.{a_proposal, a_question, told_order}
use Rattle.host_model.specs.declared.order.OrderBody.TheVariants as order

order_requests :
    told_order (codes "b") a_question ∷
    told_order (codes "b") a_proposal ∷
    told_order (codes "b") order.Confirm ∷
    told_order (codes "b") order.Cancel ∷
    told_order (codes "b") (order.Material (codes "hello")) ∷
    told_order (codes "b") order.Result ∷
    told_order (codes "c") order.Confirm ∷
    told_order (codes "a") order.Confirm ∷
    told_order (codes "d") order.Confirm ∷ []
    ≡
    codes "POST /pscheduler/peer/free 1:secret {\"first\":1000,\"key\":\"00010000-0001-8001-8000-000000000000\",\"last\":2000,\"priority\":0,\"test\":{\"spec\":{\"duration\":\"PT10S\"},\"type\":\"idle\"}}" ∷
    codes "POST /pscheduler/peer/runs 1:secret {\"key\":\"00010000-0001-8001-8000-000000000000\",\"priority\":0,\"requester\":\"10.0.0.9\",\"start\":1007,\"test\":{\"spec\":{\"duration\":\"PT10S\"},\"type\":\"idle\"},\"tool\":\"sleep\"}" ∷
    codes "PUT /pscheduler/peer/runs/00010000-0001-8001-8000-000000000000/confirm 1:secret " ∷
    codes "DELETE /pscheduler/peer/runs/00010000-0001-8001-8000-000000000000 1:secret " ∷
    codes "PUT /pscheduler/peer/runs/00010000-0001-8001-8000-000000000000/material 1:secret {\"material\":\"hello\"}" ∷
    codes "GET /pscheduler/peer/runs/00010000-0001-8001-8000-000000000000/result 1:secret " ∷
    codes "PUT /pscheduler/peer/runs/00010000-0001-8001-8000-000000000000/confirm 1:other " ∷
    codes "none" ∷ codes "none" ∷ []
unfolding digits serde_json_on_literals uuid_on_literals escape_byte length_text_of run_text second_data
order_requests = refl

-- The bytes of an order and of the reply to it, computed.
use Rattle.std.specs.Fmt.{digits}
use Rattle.std.specs.Prelude.{codes}
use Rattle.std.proofs.Common.{◌≡◌, refl}
use Rattle.json.specs.Print.{escape_byte}
use Rattle.serde_json.proofs.OnLiterals.{serde_json_on_literals}
use Rattle.uuid.proofs.OnLiterals.{uuid_on_literals}
use Rattle.ps_http.specs.Written.{length_text, request_text, response_fields_text, response_text, status_line, type_text}
use Rattle.ps_time.specs.declared.key.RunKey.{RunKey}
use Rattle.host_model.specs.declared.config.Config.{Config}
use Rattle.host_model.specs.declared.order.OrderBody.TheVariants.{Confirm}
use Rattle.host_model.specs.declared.reply.Reply.TheVariants.{Confirmed}
use Rattle.api_peer.specs.Ordered.{request_by}
use Rattle.api_reply.specs.Replies.{response_of}
use Rattle.api_reply.specs.Shown.{run_text, second_data}

-- the first run of a host's first task
abbrev first : RunKey
first = record { lead = 1; task = 1; number = 0; attempt = 0 }

-- host 1 confirms it to the host b
confirmation : request_text (request_by (record { number = 1; key = codes "script" }) first Confirm) (codes "b") ≡
    codes "PUT /pscheduler/peer/runs/00010000-0001-8001-8000-000000000000/confirm HTTP/1.1\r\nHost: b\r\nps-peer: 1 script\r\nContent-Length: 0\r\nConnection: close\r\n\r\n"
unfolding digits uuid_on_literals run_text length_text
confirmation = refl

-- which it was at this moment
confirmed : (c : Config) → response_text (response_of c (Confirmed 1003)) ≡ codes "HTTP/1.1 200 OK\r\nContent-Type: application/json\r\nContent-Length: 18\r\n\r\n{\"confirmed\":1003}"
unfolding digits serde_json_on_literals escape_byte second_data length_text status_line type_text response_fields_text
confirmed c = refl

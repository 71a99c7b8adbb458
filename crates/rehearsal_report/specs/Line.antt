-- What a report says after each line of a script.
use Rattle.std.specs.Prelude.{ℕ, List, [], ◌∷◌, ◌++◌, Bool, true, false, Option, Some, None, codes}
use Rattle.std.specs.List.{flat_map}
use Rattle.std.specs.Fmt.{decimal, signed_decimal}
use Rattle.ps_time.specs.Id.{id_text}
use Rattle.ps_time.specs.declared.asker.Verdict.{Verdict}
use Rattle.ps_time.specs.declared.asker.Verdict.TheVariants.{Permitted, Stopped, Exhausted, AboveCeiling}
use Rattle.ps_time.specs.declared.id.Id.TheVariants.{Run}
use Rattle.ps_time.specs.declared.key.RunKey.{RunKey}
use Rattle.run_states.specs.declared.why.Denial.{Denial}
use Rattle.run_states.specs.declared.why.Denial.TheVariants.{Limits, Past, Conflict, Full, Differs, Closed, NotParticipant, NoTool}
use Rattle.ps_http.specs.declared.message.Response.{Response}
use Rattle.host_model.specs.declared.order.OrderBody.{OrderBody}
use Rattle.host_model.specs.declared.order.OrderBody.TheVariants as order
use Rattle.host_model.specs.declared.reply.Reply.{Reply}
use Rattle.host_model.specs.declared.reply.Reply.TheVariants as reply
use Rattle.host_model.specs.declared.reply.LimitsWrong.{LimitsWrong}
use Rattle.host_model.specs.declared.reply.LimitsWrong.TheVariants.{Bytes, Epochs}

-- a run by its identifier
abbrev pub run_text : RunKey → List ℕ
run_text key = id_text (Run key)

-- ---- a booking
-- limits that permit a run deny nothing: the first line is there for completeness
abbrev pub verdict_text : Verdict → List ℕ
verdict_text (Permitted i) = codes "permitted " ++ decimal i
verdict_text (Stopped i) = codes "stopped " ++ decimal i
verdict_text Exhausted = codes "exhausted"
verdict_text (AboveCeiling c) = codes "above ceiling " ++ signed_decimal c

-- the number of the reason and its words, and what it speaks of
abbrev pub denial_text : Denial → List ℕ
denial_text (Limits verdict) = codes "1 limits " ++ verdict_text verdict
denial_text (Past moment start) = codes "2 past"
denial_text (Conflict key) = codes "3 conflict " ++ run_text key
denial_text (Full what count) = codes "4 full"
denial_text (Differs kept sent) = codes "5 differs"
denial_text (Closed state) = codes "6 closed"
denial_text NotParticipant = codes "7 not a participant"
denial_text (NoTool tool) = codes "8 no tool"

-- each run after a space
abbrev pub runs_text : List RunKey → List ℕ
runs_text keys = flat_map (λ k. codes " " ++ run_text k) keys

-- the runs that were preempted, if there are any
abbrev pub preempts_text : List RunKey → List ℕ
preempts_text [] = []
preempts_text (k ∷ ks) = codes " preempts" ++ runs_text (k ∷ ks)

-- of a booking; no other reply is told so
abbrev pub booking_text : Reply → List ℕ
booking_text (reply.Booked key preempted) = codes "accepted " ++ run_text key ++ preempts_text preempted
booking_text (reply.Denied denial) = codes "denied " ++ denial_text denial
booking_text _ = []

-- ---- new limits
abbrev pub wrong_text : LimitsWrong → List ℕ
wrong_text (Bytes n) = codes "limits not kept: " ++ decimal n ++ codes " bytes"
wrong_text (Epochs n) = codes "limits not kept: " ++ decimal n ++ codes " epochs"

abbrev pub limits_text : Reply → List ℕ
limits_text (reply.LimitsWrong wrong) = wrong_text wrong
limits_text _ = codes "ok"

-- ---- a request
-- the status, and the body
abbrev pub response_text : Response → List ℕ
response_text r = decimal r.status ++ codes " " ++ r.body

-- ---- messages
abbrev pub order_kind : OrderBody → List ℕ
order_kind (order.Free question) = codes "free"
order_kind (order.Propose proposal) = codes "propose"
order_kind order.Confirm = codes "confirm"
order_kind order.Cancel = codes "cancel"
order_kind (order.Material text) = codes "material"
order_kind order.Result = codes "result"

-- a message that was sent: its number, from whom, to whom, and its kind, after a space
abbrev pub sent_text : ℕ → List ℕ → List ℕ → List ℕ → List ℕ
sent_text number from to kind = codes " " ++ decimal number ++ codes "=" ++ from ++ codes ">" ++ to ++ codes ":" ++ kind

-- ---- a turn
-- how many changes it made; the messages that it sent follow
abbrev pub changes_text : Reply → List ℕ
changes_text (reply.Changes n) = codes "changes " ++ decimal n
changes_text _ = []

-- ---- an archive
abbrev pub next_text : Option ℕ → List ℕ
next_text None = codes "given up"
next_text (Some m) = codes "failed again at " ++ decimal m

abbrev pub state_told : Bool → Option ℕ → List ℕ
state_told true next = codes "succeeded"
state_told false next = next_text next

-- how far the archive has come now
abbrev pub archive_text : Reply → List ℕ
archive_text (reply.Archive state) = state_told state.done state.next
archive_text _ = []

-- ---- every line
-- the number of the script's line, then what is said of it
abbrev pub line_text : ℕ → List ℕ → List ℕ
line_text line said = decimal line ++ codes " " ++ said ++ codes "\n"

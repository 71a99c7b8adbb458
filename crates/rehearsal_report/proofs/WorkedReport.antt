-- Lines of reports, computed.
use Rattle.std.proofs.Common.{◌≡◌, ◌++◌, ℕ, ℤ, pos, negsuc, [], ◌∷◌, Option, Some, None, true, false, refl}
use Rattle.std.specs.Prelude.{codes}
use Rattle.std.specs.Fmt.{decimal, digits}
use Rattle.uuid.proofs.OnLiterals.{uuid_on_literals}
use Rattle.ps_time.specs.Span.{Span}
use Rattle.ps_time.specs.declared.key.RunKey.{RunKey}
use Rattle.ps_time.specs.declared.asker.Verdict.TheVariants.{AboveCeiling}
use Rattle.plugin_core.specs.declared.test_spec.TestSpec.{TestSpec}
use Rattle.plugin_core.specs.TestSpec.{sleep_of}
use Rattle.plugin_core.specs.declared.test_spec.TestSpec.TheVariants.{Idleex, Simplestream}
use Rattle.run_states.specs.Life.{settled_rows}
use Rattle.run_states.specs.declared.row.RunRow.{RunRow}
use Rattle.run_states.specs.declared.why.Closing.{Closing}
use Rattle.run_states.specs.declared.why.Denial.TheVariants.{Limits, Conflict, Full}
use Rattle.run_states.specs.declared.why.What.TheVariants.{Runs}
use Rattle.run_states.specs.declared.why.Why.TheVariants.{Preempted}
use Rattle.host_model.specs.declared.order.OrderBody.TheVariants.{Confirm}
use Rattle.host_model.specs.declared.reply.LimitsWrong.TheVariants.{Bytes}
use Rattle.host_model.specs.declared.reply.Reply.TheVariants as reply
use Rattle.rehearsal_report.specs.Line.{archive_text, booking_text, changes_text, limits_text, line_text, order_kind, response_text, sent_text}
use Rattle.rehearsal_report.specs.Table.{table_text}

abbrev run : ℕ → RunKey
run n = record { lead = 1; task = 0; number = n; attempt = 0 }

-- a row that was accepted and confirmed at this moment
abbrev booked_row : ℕ → ℕ → TestSpec → ℤ → Option Span → Option Closing → RunRow
booked_row m n test priority interval closed = record {
  key = run n;
  test = test;
  tool = None;
  interval = interval;
  priority = priority;
  participants = [];
  asker = record { requester = []; server = [] };
  accepted = Some m;
  confirmed = Some m;
  started = None;
  ended = None;
  material = None;
  closed = closed;
  question = None;
  asked = None;
  others = [];
  merged = None;
  archives = [];
}

abbrev span : ℕ → ℕ → Option Span
span start end = Some (record { start = start; end = end })

abbrev normal : TestSpec
normal = Simplestream [] [] 0 50

abbrev exclusive : TestSpec
exclusive = Idleex (sleep_of 20)

declared : line_text 1 (codes "ok") ≡ codes "1 ok\n"
unfolding digits
declared = refl

accepted : line_text 2 (booking_text (reply.Booked (run 1) [])) ≡ codes "2 accepted 00010000-0000-8001-8000-000000010000\n"
unfolding digits uuid_on_literals
accepted = refl

preempting : line_text 4 (booking_text (reply.Booked (run 3) (run 1 ∷ run 2 ∷ [])))
    ≡ codes "4 accepted 00010000-0000-8001-8000-000000030000 preempts 00010000-0000-8001-8000-000000010000 00010000-0000-8001-8000-000000020000\n"
unfolding digits uuid_on_literals
preempting = refl

in_conflict : line_text 3 (booking_text (reply.Denied (Conflict (run 1)))) ≡ codes "3 denied 3 conflict 00010000-0000-8001-8000-000000010000\n"
unfolding digits uuid_on_literals
in_conflict = refl

full : line_text 50002 (booking_text (reply.Denied (Full Runs 50000))) ≡ codes "50002 denied 4 full\n"
unfolding digits
full = refl

above : line_text 7 (booking_text (reply.Denied (Limits (AboveCeiling (negsuc 4))))) ≡ codes "7 denied 1 limits above ceiling -5\n"
unfolding digits
above = refl

limits_kept : line_text 8 (limits_text (reply.LimitsSet 2)) ≡ codes "8 ok\n"
unfolding digits
limits_kept = refl

limits_long : line_text 9 (limits_text (reply.LimitsWrong (Bytes 1100000))) ≡ codes "9 limits not kept: 1100000 bytes\n"
unfolding digits
limits_long = refl

not_found : line_text 10 (response_text (record { status = 404; allow = None; close = false; body = codes "{\"error\":\"not found\"}" }))
    ≡ codes "10 404 {\"error\":\"not found\"}\n"
unfolding digits
not_found = refl

-- a turn that sends two messages, and a request that is answered
turn : decimal 11 ++ codes " " ++ changes_text (reply.Changes 3) ++ sent_text 6 (codes "a") (codes "b") (order_kind Confirm) ++ sent_text 7 (codes "a") (codes "c") (order_kind Confirm) ++ codes "\n"
    ≡ codes "11 changes 3 6=a>b:confirm 7=a>c:confirm\n"
unfolding digits
turn = refl

delivered : decimal 12 ++ codes " " ++ decimal 200 ++ sent_text 8 (codes "b") (codes "a") (codes "reply") ++ codes "\n" ≡ codes "12 200 8=b>a:reply\n"
unfolding digits
delivered = refl

-- how an archive stands after an attempt
succeeded : archive_text (reply.Archive (record { tried = 1; next = None; done = true })) ≡ codes "succeeded"
succeeded = refl

failed_again : archive_text (reply.Archive (record { tried = 2; next = Some 4102444860; done = false })) ≡ codes "failed again at 4102444860"
unfolding digits
failed_again = refl

given_up : archive_text (reply.Archive (record { tried = 3; next = None; done = false })) ≡ codes "given up"
given_up = refl

-- two runs that gave way to a third, which starts between them, and one that reserves nothing
preempted : table_text (codes "a") 10 (settled_rows 10 (
    booked_row 10 1 normal (pos 0) (span 100 150) (Some (record { moment = 10; why = Preempted (run 3) }))
    ∷ booked_row 10 2 normal (pos 1) (span 120 170) (Some (record { moment = 10; why = Preempted (run 3) }))
    ∷ booked_row 10 3 exclusive (pos 5) (span 110 130) None
    ∷ booked_row 10 4 exclusive (negsuc 4) None None
    ∷ []))
    ≡ codes "a 100 150 normal 0 preempted 00010000-0000-8001-8000-000000010000\na 110 130 exclusive 5 pending 00010000-0000-8001-8000-000000030000\na 120 170 normal 1 preempted 00010000-0000-8001-8000-000000020000\na - - exclusive -5 pending 00010000-0000-8001-8000-000000040000\n"
unfolding digits uuid_on_literals
preempted = refl

-- runs of one start stand by their ends, and runs of one interval by their keys; one has lapsed
on_deck : table_text (codes "b") 116 (settled_rows 116 (
    booked_row 0 1 exclusive (pos 0) (span 126 140) None
    ∷ booked_row 0 2 exclusive (pos 0) (span 126 130) None
    ∷ booked_row 0 3 exclusive (pos 0) (span 126 130) None
    ∷ booked_row 0 4 exclusive (pos 0) (span 100 200) None
    ∷ []))
    ≡ codes "b 100 200 exclusive 0 missed 00010000-0000-8001-8000-000000040000\nb 126 130 exclusive 0 on-deck 00010000-0000-8001-8000-000000020000\nb 126 130 exclusive 0 on-deck 00010000-0000-8001-8000-000000030000\nb 126 140 exclusive 0 on-deck 00010000-0000-8001-8000-000000010000\n"
unfolding digits uuid_on_literals
on_deck = refl

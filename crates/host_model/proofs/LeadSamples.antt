-- Two hosts, computed: a lead and a participant come to a run together, or lose it; archives are tried, old rows go,
-- limits are replaced.
use Rattle.std.specs.Fmt.{digits}
use Rattle.std.specs.Prelude.{◌∷◌, ◌≡◌, Bool, List, None, Option, Some, [], codes, false, pos, true, ℕ}
use Rattle.std.proofs.Common.{refl}
use Rattle.json.specs.Print.{escape_byte}
use Rattle.ps_time.specs.Length.{length_text_of}
use Rattle.ps_time.specs.Span.{span_of}
use Rattle.ps_time.specs.declared.asker.Verdict.TheVariants.{Exhausted}
use Rattle.ps_time.specs.declared.class.Class.TheVariants.{Exclusive}
use Rattle.ps_time.specs.declared.key.RunKey.{RunKey}
use Rattle.schedule_rule.specs.Rule.{first_from}
use Rattle.archive_retry.specs.Retry.{due_from}
use Rattle.archive_retry.specs.declared.state.ArchiveState.{ArchiveState}
use Rattle.limit_apply.specs.Limits.{LimitsConfig as Limits}
use Rattle.limit_apply.specs.Open.{open_config}
use Rattle.limit_rule.specs.declared.limit.Rule.TheVariants.{PassFail}
use Rattle.run_states.specs.declared.answer.FreeAnswer.{FreeAnswer}
use Rattle.run_states.specs.declared.proposal.Question.{Question}
use Rattle.run_states.specs.declared.row.RunRow.{RunRow}
use Rattle.run_states.specs.declared.state.State.TheVariants.{Nonstart as nonstart}
use Rattle.run_states.specs.declared.why.Cause.TheVariants.{NoSlot}
use Rattle.run_states.specs.declared.why.Why.TheVariants.{Nonstart, Canceled}
use Rattle.host_model.specs.Archives.{due}
use Rattle.host_model.specs.Book.{Book, empty_book, epoch_of}
use Rattle.host_model.specs.Booking.{booking_key}
use Rattle.host_model.specs.NewRow.{asked_row, unheard}
use Rattle.host_model.specs.NextAttempt.{next_attempt}
use Rattle.host_model.specs.Merging.{merge_run, is_collected, merged_text}
use Rattle.host_model.specs.Orders.{orders}
use Rattle.host_model.specs.Propose.{answered}
use Rattle.host_model.specs.Step.{step, step_book, step_changes, step_reply}
use Rattle.host_model.specs.declared.order.Order.{Order}
use Rattle.host_model.specs.declared.order.OrderBody.{OrderBody}
use Rattle.host_model.specs.declared.task_row.TaskRow.{TaskRow}
use Rattle.host_model.proofs.HostSamples.{host_a, host_b, key, many, asker, proposal_at, window, idle_task, idle_key, idle_row, idle_started, with_run}
use Rattle.run_states.specs.declared.why.Denial.TheVariants as denial
use Rattle.host_model.specs.declared.change.Change.TheVariants as change
use Rattle.host_model.specs.declared.input.Input.TheVariants as input
use Rattle.host_model.specs.declared.order.OrderBody.TheVariants as order
use Rattle.host_model.specs.declared.order.PeerAnswer.TheVariants as answer
use Rattle.host_model.specs.declared.reply.Reply.TheVariants as reply

-- ---- the lead asks
abbrev many_row : TaskRow
many_row = record { serial = 1; task = record idle_task { test = many }; asker = asker; posted = 1000; closed = None }

abbrev names : List (List ℕ)
names = codes "a" ∷ codes "b" ∷ []

abbrev many_question : Question
many_question = record { key = key; test = many; priority = pos 0; window = window 1006 1300 }

-- the lead's book with this run
abbrev led : ℕ → List (RunKey × ℕ) → RunRow → Book
led m pairs r = record { moment = m; epochs = []; pairs = pairs; tasks = many_row ∷ []; rows = r ∷ [] }

abbrev many_asked : RunRow
many_asked = asked_row 1001 many_question names asker

asked_many : step_book host_a (record { moment = 1000; epochs = []; pairs = []; tasks = many_row ∷ []; rows = [] }) 1001 input.Turn ≡ led 1001 [] many_asked
unfolding first_from length_text_of escape_byte digits
asked_many = refl

abbrev order_of : OrderBody → Order
order_of body = record { key = key; place = 1; to = codes "b"; body = body }

free_order : orders (led 1001 [] many_asked) 1001 ≡ order_of (order.Free many_question) ∷ []
free_order = refl

-- ---- the participant tells when it is free
abbrev b_is_free : FreeAnswer
b_is_free = record { tools = codes "sleep" ∷ []; tiers = record { first = window 1006 1300 ∷ []; second = window 1006 1300 ∷ [] } }

free_reply : step_reply host_b empty_book 1001 (input.Free 1 many_question) ≡ reply.Free b_is_free
free_reply = refl

abbrev many_free : RunRow
many_free = record many_asked { others = record unheard { free = Some b_is_free } ∷ [] }

free_heard : step_book host_a (led 1001 [] many_asked) 1001 (input.Heard (order_of (order.Free many_question)) (answer.Free b_is_free)) ≡ led 1001 [] many_free
free_heard = refl

-- ---- the lead plans, and proposes
abbrev with_epoch : List (RunKey × ℕ)
with_epoch = (key, 0) ∷ []

abbrev many_planned : RunRow
many_planned = record many_free { tool = Some (codes "sleep"); interval = Some (span_of 1007 10); accepted = Some 1002 }

planned_many : step_book host_a (led 1001 [] many_free) 1002 input.Turn ≡ led 1002 with_epoch many_planned
unfolding first_from
planned_many = refl

propose_order : orders (led 1002 with_epoch many_planned) 1002 ≡ order_of (order.Propose (proposal_at 1007)) ∷ []
propose_order = refl

-- ---- the acceptance confirms the run
abbrev many_confirmed : RunRow
many_confirmed = record many_planned { confirmed = Some 1006; others = record unheard { free = Some b_is_free; accepted = true } ∷ [] }

acceptance_heard : step_book host_a (led 1002 with_epoch many_planned) 1006 (input.Heard (order_of (order.Propose (proposal_at 1007))) (answer.Accepted 1003)) ≡ led 1006 with_epoch many_confirmed
acceptance_heard = refl

confirm_order : orders (led 1006 with_epoch many_confirmed) 1006 ≡ order_of order.Confirm ∷ []
confirm_order = refl

-- the participant no longer holds it: the run is canceled
hold_lost : step_changes host_a (led 1006 with_epoch many_confirmed) 1007 (input.Heard (order_of order.Confirm) (answer.Denied (denial.Closed nonstart)))
    ≡ record { moment = 1007; list = change.Closed key Canceled ∷ [] }
hold_lost = refl

-- ---- a failed attempt is repeated after 30 s
abbrev failed_at : ℕ → RunRow
failed_at m = record many_asked { closed = Some (record { moment = m; why = Nonstart NoSlot }) }

not_yet_again : next_attempt 1 (failed_at 1033 ∷ []) 1062 many_row ≡ None
unfolding first_from
not_yet_again = refl

again : next_attempt 1 (failed_at 1033 ∷ []) 1063 many_row ≡ Some (record { number = 0; attempt = 1; window = window 1068 1300 })
unfolding first_from
again = refl

-- ---- a result that isn't heard is waited for, and then merged as null
abbrev many_ended : RunRow
many_ended = record many_confirmed { started = Some 1007; ended = Some (record { moment = 1017; good = true; body = [] }) }

waited_for : merge_run host_a 1136 (led 1017 with_epoch many_ended) many_ended ≡ None
waited_for = refl

not_waited_for : is_collected 1137 many_ended ≡ true
not_waited_for = refl

result_order : orders (led 1017 with_epoch many_ended) 1017 ≡ order_of order.Result ∷ []
result_order = refl

without_results : merged_text many_confirmed
    ≡ codes "{\"participants\":[{\"host\":\"a\",\"result\":null},{\"host\":\"b\",\"result\":null}],\"schema\":1,\"succeeded\":false}"
unfolding escape_byte digits
without_results = refl

-- ---- archives
abbrev archived_row : TaskRow
archived_row = record idle_row { task = record idle_task { archives = record { archiver = codes "failer"; settings = codes "{\"fail\":2}"; policy = record { entries = record { attempts = 2; wait = 60 } ∷ [] } } ∷ [] } }

abbrev archived : ℕ → ArchiveState → Book
archived m s = record (with_run m ((idle_key, 0) ∷ []) (record idle_started { ended = Some (record { moment = 1017; good = true; body = [] }); merged = Some []; archives = s ∷ [] })) { tasks = archived_row ∷ [] }

abbrev after_tries : ℕ → Option ℕ → Bool → ArchiveState
after_tries tried next done = record { tried = tried; next = next; done = done }

first_try : step_book host_a (archived 1017 (due_from 1017)) 1017 (input.Tried idle_key 0 false (Some 0)) ≡ archived 1017 (after_tries 1 (Some 1077) false)
first_try = refl

nothing_due : due (archived 1017 (after_tries 1 (Some 1077) false)) 1076 ≡ []
nothing_due = refl

second_try : step_reply host_a (archived 1017 (after_tries 1 (Some 1077) false)) 1077 (input.Tried idle_key 0 false (Some 0)) ≡ reply.Archive (after_tries 2 (Some 1137) false)
second_try = refl

third_try : step_reply host_a (archived 1077 (after_tries 2 (Some 1137) false)) 1137 (input.Tried idle_key 0 true None) ≡ reply.Archive (after_tries 3 None true)
third_try = refl

-- ---- old rows go
abbrev two_bookings : Book
two_bookings = step_book host_a (step_book host_a empty_book 0 (input.Book Exclusive (pos 0) 100 10)) 0 (input.Book Exclusive (pos 0) 200 10)

not_yet_old : step_changes host_a two_bookings 604915 input.Turn ≡ record { moment = 604915; list = [] }
not_yet_old = refl

old : step_changes host_a two_bookings 604916 input.Turn ≡ record { moment = 604916; list = change.Purged (booking_key 1 1) ∷ [] }
old = refl

numbered_on : step_reply host_a (step_book host_a two_bookings 604916 input.Turn) 604916 (input.Book Exclusive (pos 0) 604930 10) ≡ reply.Booked (booking_key 1 3) []
numbered_on = refl

-- ---- limits are replaced
abbrev deny : Limits
deny = record open_config { limits = record { name = codes "no"; value = record { rule = PassFail false; invert = false } } ∷ []; text = codes "{}" }

abbrev opened_book : Book
opened_book = step_book host_a empty_book 0 input.Open

abbrev one_booking : Book
one_booking = step_book host_a opened_book 0 (input.Book Exclusive (pos 0) 100 10)

under_the_first : epoch_of one_booking (booking_key 1 1) ≡ Some 1
under_the_first = refl

replaced : step_reply host_a one_booking 0 (input.Limits deny) ≡ reply.LimitsSet 2
replaced = refl

denied_then : step host_a (step_book host_a one_booking 0 (input.Limits deny)) 0 (input.Book Exclusive (pos 0) 200 10) ≡ answered (reply.Denied (denial.Limits Exhausted))
denied_then = refl

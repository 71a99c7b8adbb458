-- What clients and leads ask of a host, computed: posting, canceling, views, dropping, material, results.
use Rattle.std.specs.Prelude.{◌≡◌, ◌∷◌, None, Some, [], codes, false, pos, true}
use Rattle.std.specs.Fmt.{digits}
use Rattle.std.proofs.Common.{refl}
use Rattle.json.specs.Print.{escape_byte}
use Rattle.ps_time.specs.Span.{span_of}
use Rattle.ps_time.specs.declared.class.Class.TheVariants.{Background, Exclusive}
use Rattle.plugin_core.specs.declared.test_spec.TestSpec.{TestSpec}
use Rattle.plugin_core.specs.TestSpec.{sleep_of}
use Rattle.plugin_core.specs.declared.test_spec.TestSpec.TheVariants.{Idlemany, Simplestream}
use Rattle.run_states.specs.declared.row.RunRow.{RunRow}
use Rattle.run_states.specs.declared.why.Why.TheVariants.{Canceled}
use Rattle.host_model.specs.Book.{Book, empty_book}
use Rattle.host_model.specs.Booking.{booking_key}
use Rattle.host_model.specs.Ending.{end_run}
use Rattle.host_model.specs.NewRow.{accepted_row}
use Rattle.host_model.specs.Propose.{answered}
use Rattle.host_model.specs.Step.{step, step_book, step_changes, step_reply}
use Rattle.host_model.proofs.HostSamples.{host_a, host_b, key, asker, accepted_book, confirmed_book, idle_task, idle_key, idle_planned, idle_started, posted_book, with_run}
use Rattle.run_states.specs.declared.state.State.TheVariants as state
use Rattle.host_model.specs.declared.change.Change.TheVariants as change
use Rattle.host_model.specs.declared.input.Input.TheVariants as input
use Rattle.host_model.specs.declared.reply.Reply.TheVariants as reply
use Rattle.host_model.specs.declared.view.Page.TheVariants as page
use Rattle.host_model.specs.declared.view.View.TheVariants as view

-- ---- posting
unknown_host : step host_a empty_book 1000 (input.Post (record idle_task { test = Idlemany (sleep_of 10) (codes "a" ∷ codes "c" ∷ []) }) (codes "10.0.0.9")) ≡ answered (reply.UnknownHost (codes "c"))
unknown_host = refl

-- ---- canceling: by its poster alone; a started run goes on
not_poster : step host_a (with_run 1002 [] idle_planned) 1003 (input.Cancel 1 (codes "10.0.0.8")) ≡ answered reply.NotPoster
not_poster = refl

canceled : step_changes host_a (with_run 1002 [] idle_planned) 1003 (input.Cancel 1 (codes "10.0.0.9")) ≡ record { moment = 1003; list = change.TaskClosed 1 ∷ change.Closed idle_key Canceled ∷ [] }
canceled = refl

canceled_late : step_changes host_a (with_run 1007 [] idle_started) 1008 (input.Cancel 1 (codes "10.0.0.9")) ≡ record { moment = 1008; list = change.TaskClosed 1 ∷ [] }
canceled_late = refl

no_such_task : step host_a empty_book 1003 (input.Cancel 1 (codes "10.0.0.9")) ≡ answered reply.NotFound
no_such_task = refl

-- ---- views
test_shown : step host_a empty_book 0 (input.View (page.Test (codes "idle"))) ≡ answered (reply.View (view.Test (codes "idle") Background))
test_shown = refl

test_not_shown : step host_a empty_book 0 (input.View (page.Test (codes "rtt"))) ≡ answered reply.NotFound
test_not_shown = refl

tasks_shown : step host_a posted_book 0 (input.View page.Tasks) ≡ answered (reply.View (view.Tasks (1 ∷ [])))
tasks_shown = refl

runs_shown : step host_a (with_run 1002 [] idle_planned) 0 (input.View (page.Runs 1)) ≡ answered (reply.View (view.Runs (idle_key ∷ [])))
runs_shown = refl

run_shown : step host_a (with_run 1007 [] idle_started) 1016 (input.View (page.Run idle_key)) ≡ answered (reply.View (view.Run idle_started [] state.Running))
run_shown = refl

-- the later booking starts earlier; the third one doesn't overlap the page
abbrev three_bookings : Book
three_bookings = step_book host_a (step_book host_a (step_book host_a empty_book 0 (input.Book Exclusive (pos 0) 200 10)) 0 (input.Book Exclusive (pos 0) 100 10)) 0 (input.Book Exclusive (pos 0) 300 10)

schedule_shown : step_reply host_a three_bookings 95 (input.View (page.Schedule 0 300)) ≡ reply.View (view.Schedule (
    record { key = booking_key 1 2; class = Exclusive; interval = span_of 100 10; priority = pos 0; state = state.OnDeck }
    ∷ record { key = booking_key 1 1; class = Exclusive; interval = span_of 200 10; priority = pos 0; state = state.Pending } ∷ []))
schedule_shown = refl

-- ---- dropping: a booked run that isn't started
dropped : step_changes host_b accepted_book 1004 (input.Drop 1 key) ≡ record { moment = 1004; list = change.Closed key Canceled ∷ [] }
dropped = refl

dropped_unknown : step host_b empty_book 1004 (input.Drop 1 key) ≡ answered reply.Dropped
dropped_unknown = refl

-- ---- a result, before the end
no_result_yet : step host_b confirmed_book 1006 (input.Collect 1 key) ≡ answered (reply.State state.OnDeck)
no_result_yet = refl

-- ---- material: the run isn't active, then it is, and the tool is done at once
not_running : step host_b confirmed_book 1006 (input.Material 1 key (codes "x")) ≡ answered reply.NotRunning
not_running = refl

abbrev stream : TestSpec
stream = Simplestream (codes "b") (codes "x") 0 5

abbrev streaming : RunRow
streaming = record (accepted_row 1003 (record { key = key; test = stream; tool = codes "simplestreamer"; start = 1007; priority = pos 0; asker = asker }) (codes "a" ∷ codes "b" ∷ [])) { confirmed = Some 1006; started = Some 1007 }

abbrev stream_book : RunRow → Book
stream_book r = record { moment = 1007; epochs = []; pairs = (key, 0) ∷ []; tasks = []; rows = r ∷ [] }

material_heard : step_book host_b (stream_book streaming) 1007 (input.Material 1 key (codes "x")) ≡ stream_book (record streaming { material = Some 1007 })
material_heard = refl

still_waiting : end_run host_b 1011 (stream_book streaming) streaming ≡ None
still_waiting = refl

timed_out : end_run host_b 1012 (stream_book streaming) streaming ≡ Some (change.Ended key false (codes "{\"error\":\"timed out\",\"schema\":1,\"succeeded\":false}"))
unfolding escape_byte digits
timed_out = refl

received : end_run host_b 1008 (stream_book streaming) (record streaming { material = Some 1007 }) ≡ Some (change.Ended key true (codes "{\"received\":\"x\",\"schema\":1,\"succeeded\":true}"))
unfolding escape_byte digits
received = refl

-- A small world, computed: two hosts come to a run together, although a message gets lost, a step is cut and a host is opened anew;
-- and one booking preempts another.
use Rattle.std.specs.Fmt.{digits}
use Rattle.std.specs.Prelude.{◌==◌, ◌∷◌, List, Option, Some, [], codes, false, if◌then◌else◌, map, option_and_then, option_map, pos, ℕ}
use Rattle.std.proofs.Common.{◌≡◌, refl}
use Rattle.json.specs.Print.{escape_byte}
use Rattle.ps_time.specs.Length.{length_text_of}
use Rattle.ps_time.specs.declared.class.Class.TheVariants.{Exclusive}
use Rattle.schedule_rule.specs.Rule.{first_from}
use Rattle.run_states.specs.Life.{closed_state}
use Rattle.run_states.specs.declared.row.RunRow.{RunRow}
use Rattle.run_states.specs.declared.state.State.TheVariants.{Preempted}
use Rattle.host_model.specs.Booking.{booking_key}
use Rattle.host_model.specs.declared.config.Config.{Config}
use Rattle.host_model.specs.declared.input.Input.{Input}
use Rattle.host_model.specs.declared.input.Input.TheVariants as input
use Rattle.host_model.specs.declared.reply.Reply.TheVariants as reply
use Rattle.host_model.proofs.HostSamples.{host_a, host_b, idle_task, key, many}
use Rattle.world_law.specs.Events.{Cause.ByMessage, Event, Event.Client, Event.Cut, Event.Deliver, Event.Inner, Event.Lose, Event.Reopen, Event.Tell, run}
use Rattle.world_law.specs.World.{World, row_at, start}

-- ---- two hosts, a with the number 1 and b with 2
abbrev names : ℕ → List ℕ
names h = if h == 1 then codes "a" else codes "b"

abbrev configs : ℕ → Config
configs h = if h == 1 then host_a else host_b

abbrev post : Input
post = input.Post (record idle_task { test = many }) (codes "10.0.0.9")

abbrev book : ℕ → Input
book priority = input.Book Exclusive (pos priority) 2000 100

abbrev asked : List Event
asked = Client 1 1000 post ∷ Client 2 1000 (book 0) ∷ Inner 1 1001 input.Turn ∷ Tell 1 2 1001 0 ∷ Deliver 0 1001 ∷ Deliver 1 1001 ∷ []

-- the first acceptance gets lost, the second proposal's step is cut, b is opened anew, and the third proposal is answered as the first was
abbrev accepted : List Event
accepted = Inner 1 1002 input.Turn ∷ Tell 1 4 1002 0 ∷ Deliver 2 1003 ∷ Lose 3 ∷ Cut 2 1004 (ByMessage 2) false ∷ Reopen 2 1004 host_b ∷ Deliver 2 1005 ∷ Client 2 1005 (book 5) ∷ []

abbrev started : List Event
started = Deliver 4 1006 ∷ Tell 1 5 1006 0 ∷ Deliver 5 1006 ∷ Inner 1 1007 input.Turn ∷ Inner 2 1007 input.Turn ∷ []

abbrev world_asked : World
world_asked = run asked (start names configs)

abbrev world_accepted : World
world_accepted = run accepted world_asked

abbrev world_started : World
world_started = run started world_accepted

abbrev moments : Option RunRow → Option (Option ℕ × Option ℕ × Option ℕ)
moments = option_map (λ r. (r.accepted, r.confirmed, r.started))

-- what b answered, the latest first: the second proposal wasn't answered, since its step was cut
replies : map (λ a. a.reply) world_accepted.answers
    ≡ reply.Booked (booking_key 2 2) (booking_key 2 1 ∷ []) ∷ reply.Accepted 1003 ∷ reply.Accepted 1003 ∷ map (λ a. a.reply) world_asked.answers
unfolding first_from length_text_of escape_byte digits
replies = refl

lead_started : moments (row_at world_started 1 key) ≡ Some (Some 1002, Some 1006, Some 1007)
unfolding first_from length_text_of escape_byte digits
lead_started = refl

other_started : moments (row_at world_started 2 key) ≡ Some (Some 1003, Some 1006, Some 1007)
unfolding first_from length_text_of escape_byte digits
other_started = refl

-- the booking of the lower priority gave way
gave_way : option_and_then (λ r. option_map (λ c. closed_state c.why) r.closed) (row_at world_started 2 (booking_key 2 1)) ≡ Some Preempted
unfolding first_from length_text_of escape_byte digits
gave_way = refl

-- Bookings of one host, computed: preemption, equal priority, on deck, an overrun, what is past.
use Rattle.std.specs.Prelude.{◌≡◌, ◌∷◌, [], pos, ℕ}
use Rattle.std.proofs.Common.{refl}
use Rattle.ps_time.specs.declared.class.Class.TheVariants.{Normal, Exclusive}
use Rattle.run_states.specs.declared.why.Denial.TheVariants.{Conflict, Past}
use Rattle.host_model.specs.Booking.{booking_key}
use Rattle.host_model.specs.Book.{Book, empty_book}
use Rattle.host_model.specs.Propose.{answered}
use Rattle.host_model.specs.Step.{step, step_book, step_changes, step_reply}
use Rattle.host_model.specs.declared.change.Change.TheVariants.{Started}
use Rattle.host_model.specs.declared.input.Input.{Input}
use Rattle.host_model.proofs.HostSamples.{host_a}
use Rattle.host_model.specs.declared.input.Input.TheVariants as input
use Rattle.host_model.specs.declared.reply.Reply.TheVariants as reply

-- ---- an exclusive run preempts two normal ones, which don't conflict with each other
abbrev after : Book → ℕ → Input → Book
after b clock wish = step_book host_a b clock wish

abbrev two_normal : Book
two_normal = after (after empty_book 10 (input.Book Normal (pos 0) 100 50)) 10 (input.Book Normal (pos 1) 120 50)

preempts_both : step_reply host_a two_normal 10 (input.Book Exclusive (pos 5) 110 20) ≡ reply.Booked (booking_key 1 3) (booking_key 1 1 ∷ booking_key 1 2 ∷ [])
preempts_both = refl

-- ---- a run of the same priority doesn't
equal_priority : step host_a (after empty_book 0 (input.Book Exclusive (pos 3) 100 10)) 0 (input.Book Exclusive (pos 3) 105 10) ≡ answered (reply.Denied (Conflict (booking_key 1 1)))
equal_priority = refl

-- ---- nor one of a higher priority, once the run is on deck
abbrev one_run : Book
one_run = after empty_book 0 (input.Book Exclusive (pos 0) 100 10)

on_deck : step_reply host_a one_run 90 (input.Book Exclusive (pos 5) 105 10) ≡ reply.Denied (Conflict (booking_key 1 1))
on_deck = refl

not_yet_on_deck : step_reply host_a one_run 89 (input.Book Exclusive (pos 5) 105 10) ≡ reply.Booked (booking_key 1 2) (booking_key 1 1 ∷ [])
not_yet_on_deck = refl

-- ---- what is past
past : step host_a empty_book 100 (input.Book Normal (pos 0) 99 10) ≡ answered (reply.Denied (Past 100 99))
past = refl

not_past : step_reply host_a empty_book 100 (input.Book Normal (pos 0) 100 10) ≡ reply.Booked (booking_key 1 1) []
not_past = refl

-- ---- a run that began late hinders the next one, which is missed
abbrev two_exclusive : Book
two_exclusive = after (after empty_book 0 (input.Book Exclusive (pos 0) 100 50)) 0 (input.Book Exclusive (pos 0) 150 50)

late_start : step_changes host_a two_exclusive 110 input.Turn ≡ record { moment = 110; list = Started (booking_key 1 1) ∷ [] }
late_start = refl

hindered : step_changes host_a (after two_exclusive 110 input.Turn) 150 input.Turn ≡ record { moment = 150; list = [] }
hindered = refl

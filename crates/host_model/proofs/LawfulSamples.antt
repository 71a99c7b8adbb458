-- Lawful books and records that may follow them, known ones: the empty book, a booking, and a booking that isn't one.
use Rattle.std.specs.Prelude.{◌≡◌, ◌∷◌, [], codes, pos}
use Rattle.std.proofs.Common.{refl, arith}
use Rattle.std.proofs.lemmas.List.Elements.{recursion_from_All}
use Rattle.std.proofs.lemmas.Str.{IsUtf8-nil}
use Rattle.ps_time.specs.declared.class.Class.TheVariants.{Normal}
use Rattle.plugin_core.specs.Participants.{participants}
use Rattle.run_states.specs.declared.proposal.Proposal.{Proposal}
use Rattle.host_model.specs.Apply.{apply, settled}
use Rattle.host_model.specs.Book.{Book, empty_book}
use Rattle.host_model.specs.Booking.{booking}
use Rattle.host_model.specs.Lawful.{Lawful}
use Rattle.host_model.specs.LawfulRow.{IsHostRow}
use Rattle.host_model.specs.MayFollow.{MayFollow}
use Rattle.host_model.specs.Step.{step_changes}
use Rattle.host_model.specs.declared.change.Change.{Change}
use Rattle.host_model.specs.declared.change.Change.TheVariants.{Accepted, Confirmed}
use Rattle.host_model.specs.declared.change.Changes.{Changes}
use Rattle.host_model.proofs.Brings.{Brings, brings_suits}
use Rattle.host_model.proofs.HostSamples.{host_a}
use Rattle.host_model.proofs.LawfulBook.{empty_lawful, may_follow}
use Rattle.host_model.specs.declared.input.Input.TheVariants as input

-- ---- a booking on the empty book
abbrev booked : Proposal
booked = booking host_a 1 Normal (pos 0) 100 50

abbrev accepts : Change
accepts = Accepted booked (participants booked.test (codes "a")) 0

abbrev books : Changes
books = record { moment = 10; list = accepts ∷ Confirmed booked.key ∷ [] }

booking_step : step_changes host_a empty_book 10 (input.Book Normal (pos 0) 100 50) ≡ books
booking_step = refl

accepts_lawful : Brings 1 10 (settled 10 empty_book) accepts
accepts_lawful = (
  record {
    proposal = record { test = record { dest = refl; utf8 = IsUtf8-nil; material = omega arith; lasts = omega arith; short = omega arith }; start = omega arith };
    tool = refl;
    participants = record { some = omega arith; few = omega arith; named = refl };
    lead = λ own. (refl, refl);
  },
  omega arith,
  record { known = omega arith; way = λ r at hit. cc },
)

booking_follows : MayFollow 1 empty_book books
booking_follows =
    may_follow 1 empty_book books (empty_lawful 1) (omega arith) (omega arith)
    (λ at lawful. brings_suits 1 10 (settled 10 empty_book) accepts refl accepts_lawful, (λ at lawful. brings_suits 1 10 (apply 10 accepts (settled 10 empty_book)) (Confirmed booked.key) refl tt, tt))

-- ---- a run of the host's own that is no booking leaves no lawful book
abbrev of_task : Change
of_task = Accepted (record booked { key = record { lead = 1; task = 7; number = 1; attempt = 0 } }) (codes "a" ∷ []) 0

not_lawful : Lawful 1 (apply 10 of_task (settled 10 empty_book)) → ⊥
not_lawful lawful =
    let after : Book = apply 10 of_task (settled 10 empty_book) in
    let row = (recursion_from_All (IsHostRow 1 [] 10) after.rows lawful.rows).0 in
    let own : 7 ≡ 0 = (row.lead refl).0 in
    absurd (omega (arith, own))

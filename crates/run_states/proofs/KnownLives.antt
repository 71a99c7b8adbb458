-- The tables of a row's life on known rows: a run over the seconds 100 to 150, worked out by hand.
use Rattle.std.proofs.Common.{◌≡◌, ℕ, pos, [], Option, Some, None, true, false, refl}
use Rattle.plugin_core.specs.TestSpec.{sleep_of}
use Rattle.plugin_core.specs.declared.test_spec.TestSpec.TheVariants.{Idleex}
use Rattle.run_states.specs.declared.row.Ending.{Ending}
use Rattle.run_states.specs.declared.row.RunRow.{RunRow}
use Rattle.run_states.specs.declared.state.State.TheVariants as state
use Rattle.run_states.specs.declared.why.Closing.{Closing}
use Rattle.run_states.specs.declared.why.Cause.TheVariants.{Silent, HoldEnded}
use Rattle.run_states.specs.declared.why.Why.TheVariants.{Missed, Nonstart, Canceled}
use Rattle.run_states.specs.Life.{lapse_of, state_of}

abbrev run : Option ℕ → Option ℕ → Option ℕ → Option ℕ → Option Ending → Option Closing → RunRow
run asked accepted confirmed started ended closed = record {
  key = record { lead = 1; task = 0; number = 1; attempt = 0 };
  test = Idleex (sleep_of 50);
  tool = None;
  interval = Some (record { start = 100; end = 150 });
  priority = pos 0;
  participants = [];
  asker = record { requester = []; server = [] };
  accepted = accepted;
  confirmed = confirmed;
  started = started;
  ended = ended;
  material = None;
  closed = closed;
  question = None;
  asked = asked;
  others = [];
  merged = None;
  archives = [];
}

-- ---- lapses ----
silent_not_yet : lapse_of 69 (run (Some 10) None None None None None) ≡ None
silent_not_yet = refl

silent : lapse_of 75 (run (Some 10) None None None None None) ≡ Some (record { moment = 70; why = Nonstart Silent })
silent = refl

held_still : lapse_of 69 (run (Some 10) (Some 10) None None None None) ≡ None
held_still = refl

hold_ended : lapse_of 71 (run (Some 10) (Some 10) None None None None) ≡ Some (record { moment = 70; why = Nonstart HoldEnded })
hold_ended = refl

held_until_the_start : lapse_of 99 (run None (Some 50) None None None None) ≡ None
held_until_the_start = refl

hold_ended_at_the_start : lapse_of 120 (run None (Some 50) None None None None) ≡ Some (record { moment = 100; why = Nonstart HoldEnded })
hold_ended_at_the_start = refl

not_yet_missed : lapse_of 115 (run None (Some 50) (Some 60) None None None) ≡ None
not_yet_missed = refl

missed : lapse_of 9999 (run None (Some 50) (Some 60) None None None) ≡ Some (record { moment = 116; why = Missed })
missed = refl

started_stays : lapse_of 9999 (run None (Some 50) (Some 60) (Some 100) None None) ≡ None
started_stays = refl

-- ---- states ----
unconfirmed : state_of (run None (Some 50) None None None None) 95 ≡ state.Pending
unconfirmed = refl

pending : state_of (run None (Some 50) (Some 60) None None None) 89 ≡ state.Pending
pending = refl

on_deck : state_of (run None (Some 50) (Some 60) None None None) 90 ≡ state.OnDeck
on_deck = refl

running : state_of (run None (Some 50) (Some 60) (Some 100) None None) 149 ≡ state.Running
running = refl

cleanup : state_of (run None (Some 50) (Some 60) (Some 100) None None) 150 ≡ state.Cleanup
cleanup = refl

cleanup_still : state_of (run None (Some 50) (Some 60) (Some 100) None None) 164 ≡ state.Cleanup
cleanup_still = refl

overdue : state_of (run None (Some 50) (Some 60) (Some 100) None None) 165 ≡ state.Overdue
overdue = refl

finished : state_of (run None (Some 50) (Some 60) (Some 100) (Some (record { moment = 110; good = true; body = [] })) None) 120 ≡ state.Finished
finished = refl

failed : state_of (run None (Some 50) (Some 60) (Some 100) (Some (record { moment = 110; good = false; body = [] })) None) 120 ≡ state.Failed
failed = refl

canceled : state_of (run None (Some 50) (Some 60) None None (Some (record { moment = 70; why = Canceled }))) 9999 ≡ state.Canceled
canceled = refl

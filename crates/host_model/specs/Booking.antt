-- A booking: a run of a host for itself. The entry is `book_run`, the last one here. Its steps, in their order:
-- 1. its number is one more than the greatest; after the last one it is denied as Full;
-- 2. `booking`: what the host proposes to itself (`booking_key`, `booking_test`, `booking_tool`);
-- 3. `booked_as`: the first reason of `denial_of`, of `Fits`, where the host leads and is the only participant;
-- 4. `booking_outcome`: the reason denies it; without one it is accepted and confirmed at once.
-- When it is accepted is said in words of rows: see `booking_accepted` of `proofs/AnswerLemmas`.
use Rattle.std.specs.Prelude.{◌+◌, ◌==◌, ◌∷◌, List, None, Option, Some, [], codes, if◌then◌else◌, ℕ, ℤ}
use Rattle.ps_time.specs.declared.class.Class.{Class}
use Rattle.ps_time.specs.declared.class.Class.TheVariants.{BackgroundMulti, Background, Normal, Exclusive}
use Rattle.ps_time.specs.declared.key.RunKey.{RunKey}
use Rattle.plugin_core.specs.Participants.{participants}
use Rattle.plugin_tool.specs.Tool.{tool_text}
use Rattle.plugin_core.specs.TestSpec.{sleep_of}
use Rattle.plugin_core.specs.declared.test_spec.TestSpec.{TestSpec}
use Rattle.plugin_core.specs.declared.test_spec.TestSpec.TheVariants.{Idle, Idleex, Idlebgm, Simplestream}
use Rattle.plugin_tool.specs.declared.tool.Tool.{Tool}
use Rattle.plugin_tool.specs.declared.tool.Tool.TheVariants.{Sleep, Sleepbgm, Simplestreamer}
use Rattle.run_states.specs.declared.proposal.Proposal.{Proposal}
use Rattle.run_states.specs.declared.why.Denial.{Denial}
use Rattle.run_states.specs.declared.why.Denial.TheVariants.{Full}
use Rattle.run_states.specs.declared.why.What.TheVariants.{Numbers}
use Rattle.run_states.specs.TaskRows.{greatest_number}
use Rattle.host_model.specs.Book.{Book, latest_epoch}
use Rattle.host_model.specs.Fits.{denial_of, place_of, preempted_keys}
use Rattle.host_model.specs.Propose.{answered}
use Rattle.host_model.specs.declared.change.Change.TheVariants.{Accepted, Confirmed}
use Rattle.host_model.specs.declared.config.Config.{Config}
use Rattle.host_model.specs.declared.reply.Outcome.{Outcome}
use Rattle.host_model.specs.declared.reply.Reply.TheVariants.{Booked, Denied}

-- the last number that a booking can have
abbrev pub last_booking : ℕ
last_booking = 4_294_967_295

-- the key of the host's booking with this number
abbrev pub booking_key : ℕ → ℕ → RunKey
booking_key self number = record { lead = self; task = 0; number = number; attempt = 0 }

-- the test by which a host of this name books a class for itself
abbrev pub booking_test : List ℕ → Class → ℕ → TestSpec
booking_test name BackgroundMulti len = Idlebgm (sleep_of len) len
booking_test name Background len = Idle (sleep_of len)
booking_test name Normal len = Simplestream name [] 0 len
booking_test name Exclusive len = Idleex (sleep_of len)

-- the tool by which it runs
abbrev pub booking_tool : Class → Tool
booking_tool BackgroundMulti = Sleepbgm
booking_tool Background = Sleep
booking_tool Normal = Simplestreamer
booking_tool Exclusive = Sleep

-- a proposal of the host to itself
abbrev pub booking : Config → ℕ → Class → ℤ → ℕ → ℕ → Proposal
booking c number class priority start len = record {
  key = booking_key c.number number;
  test = booking_test c.name class len;
  tool = tool_text (booking_tool class);
  start = start;
  priority = priority;
  asker = record { requester = codes "127.0.0.1"; server = c.name };
}

-- accepted and confirmed at once where it fits
abbrev pub booking_outcome : Config → Book → Proposal → Option Denial → Outcome
booking_outcome c b p (Some denial) = answered (Denied denial)
booking_outcome c b p None = record {
  reply = Booked p.key (preempted_keys b.rows p);
  list = Accepted p (participants p.test c.name) (latest_epoch b) ∷ Confirmed p.key ∷ [];
}

-- the host of a booking is its only participant
abbrev pub booked_as : Config → Book → ℕ → Proposal → Outcome
booked_as c b m p = booking_outcome c b p (denial_of (place_of c b c.name) b.rows m p)

-- its number is one more than the greatest; after the last there is none
abbrev pub book_run : Config → Book → ℕ → Class → ℤ → ℕ → ℕ → Outcome
book_run c b m class priority start len =
    let last = greatest_number c.number 0 b.rows in
    if last == last_booking then answered (Denied (Full Numbers last)) else booked_as c b m (booking c (last + 1) class priority start len)

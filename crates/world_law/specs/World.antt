-- A world of hosts: their stages, the messages that were ever sent, and the answers that were given.
use Rattle.std.specs.Prelude.{◌==◌, ◌∷◌, List, None, Option, Some, [], bytes_eq, find, if◌then◌else◌, length, option_map, ℕ}
use Rattle.ps_time.specs.declared.key.RunKey.{RunKey}
use Rattle.run_states.specs.Life.{closed_state, first_there}
use Rattle.run_states.specs.Rows.{find_row}
use Rattle.run_states.specs.declared.row.RunRow.{RunRow}
use Rattle.run_states.specs.declared.why.Denial.TheVariants.{Closed as closed_there}
use Rattle.host_model.specs.Book.{Book, empty_book}
use Rattle.host_model.specs.declared.config.Config.{Config}
use Rattle.host_model.specs.declared.config.Peer.{Peer}
use Rattle.host_model.specs.declared.input.Input.{Input}
use Rattle.host_model.specs.declared.order.Order.{Order}
use Rattle.host_model.specs.declared.order.OrderBody.{OrderBody}
use Rattle.host_model.specs.declared.order.OrderBody.TheVariants.{Free, Propose, Confirm, Cancel, Material, Result}
use Rattle.host_model.specs.declared.order.PeerAnswer.{PeerAnswer}
use Rattle.host_model.specs.declared.reply.Reply.{Reply}
use Rattle.host_model.specs.declared.input.Input.TheVariants as input
use Rattle.host_model.specs.declared.order.PeerAnswer.TheVariants as answer
use Rattle.host_model.specs.declared.reply.Reply.TheVariants as reply

-- ---- hosts
pub record Stage : Type 0 where
  pub config : Config
  pub book : Book

-- the present stage, and those before it, the latest first
pub record Host : Type 0 where
  pub now : Stage
  pub before : List Stage

-- ---- messages
-- an order of one host to another; a reply is its order with what was answered, and goes the other way
pub record Message : Type 0 where
  -- the numbers of the two hosts
  pub asker : ℕ
  pub asked : ℕ
  pub order : Order
  pub reply : Option Reply

-- what an order asks of the host to which it comes
abbrev pub input_of : ℕ → RunKey → OrderBody → Input
input_of sender k (Free question) = input.Free sender question
input_of sender k (Propose proposal) = input.Propose sender proposal
input_of sender k Confirm = input.Confirm sender k
input_of sender k Cancel = input.Drop sender k
input_of sender k (Material text) = input.Material sender k text
input_of sender k Result = input.Collect sender k

-- the statuses of HTTP with which the rest is answered
abbrev pub forbidden : ℕ
forbidden = 403

abbrev pub not_found : ℕ
not_found = 404

abbrev pub conflict : ℕ
conflict = 409

-- how a reply arrives at the asker; of a closed row the state alone
abbrev pub heard_as : Reply → PeerAnswer
heard_as (reply.Free free) = answer.Free free
heard_as (reply.Accepted m) = answer.Accepted m
heard_as (reply.Confirmed m) = answer.Confirmed m
heard_as reply.Dropped = answer.Dropped
heard_as reply.MaterialHeard = answer.MaterialHeard
heard_as (reply.Result text) = answer.Result text
heard_as (reply.State state) = answer.State state
heard_as (reply.Denied denial) = answer.Denied denial
heard_as (reply.Closed why) = answer.Denied (closed_there (closed_state why))
heard_as reply.Unknown = answer.Unknown
heard_as reply.NotFound = answer.Other not_found
heard_as reply.NotRunning = answer.Other conflict
heard_as r = answer.Other forbidden

-- ---- answers
-- what a host answered: the number of its stage before, what its clock gave, to what, and how
pub record Answer : Type 0 where
  pub host : ℕ
  pub stage : ℕ
  -- in seconds since 1970 UTC
  pub clock : ℕ
  pub input : Input
  pub reply : Reply

-- ---- the world
pub record World : Type 0 where
  -- the name of each host
  pub names : ℕ → List ℕ
  -- every number has a host; one that takes no part never acts
  pub hosts : ℕ → Host
  -- all that were ever sent, the latest first
  pub messages : List Message
  -- all that were ever given, the latest first
  pub answers : List Answer

-- all stages of a host, the latest first
abbrev pub stages : World → ℕ → List Stage
stages w h = (w.hosts h).now ∷ (w.hosts h).before

-- the stage, or the message, of a number: they are counted from 0 as they came
abbrev pub aged : {A : Type 0} → List A → ℕ → Option A
aged [] n = None
aged (s ∷ older) n = if n == length older then Some s else aged older n

-- the row of a key in the last stage that has one
abbrev pub last_row : List Stage → RunKey → Option RunRow
last_row [] k = None
last_row (s ∷ older) k = first_there (find_row s.book.rows k) (last_row older k)

abbrev pub row_at : World → ℕ → RunKey → Option RunRow
row_at w h k = last_row (stages w h) k

-- at first each host has one stage, with the empty book
abbrev pub start : (ℕ → List ℕ) → (ℕ → Config) → World
start names configs = record {
  names = names;
  hosts = λ h. record { now = record { config = configs h; book = empty_book }; before = [] };
  messages = [];
  answers = [];
}

-- ---- what joins a world
-- a new stage of one host
abbrev pub push : World → ℕ → Stage → World
push w h s = record w { hosts = λ g. if g == h then record { now = s; before = stages w h } else w.hosts g }

abbrev pub posted : World → Message → World
posted w l = record w { messages = l ∷ w.messages }

abbrev pub noted : World → Answer → World
noted w a = record w { answers = a ∷ w.answers }

-- the number of the peer with a name
abbrev pub number_of : List Peer → List ℕ → Option ℕ
number_of peers name = option_map (λ p. p.number) (find (λ p. bytes_eq p.name name) peers)

-- What is seen of a world by a script: the present stage of each of its hosts, the messages, and which of these are in flight.
use Rattle.std.specs.Prelude.{◌-◌, ◌==◌, ◌&&◌, List, [], Bool, Option, filter, find, length, nat_le, not, option_map, slice_get, slice_index_or, ℕ}
use Rattle.host_model.specs.Book.{Book, empty_book}
use Rattle.host_model.specs.Step.{step_book, step_reply}
use Rattle.host_model.specs.declared.config.Config.{Config}
use Rattle.host_model.specs.declared.input.Input.{Input}
use Rattle.host_model.specs.declared.reply.Reply.{Reply}
use Rattle.world_law.specs.World.{Message, Stage}
use Rattle.rehearsal_script.specs.declared.script.Stop.{Stop}
use Rattle.rehearsal_model.specs.Hosts.{opened_host, stranger}

pub record Seen : Type 0 where
  -- of the script's hosts, in the order of their declaration
  pub stages : List Stage
  -- in the order in which they were sent; messages are numbered from 1
  pub messages : List Message
  -- the numbers of those in flight, ascending
  pub flying : List ℕ
  -- the greatest moment of the moves so far; 0 at first
  pub last : ℕ
  -- the places of the hosts whose next step is to stop, and where it is to
  pub stops : List (ℕ × Stop)

-- a place without a host is read as one that never acts
abbrev pub nobody : Stage
nobody = record { config = opened_host (stranger 0) []; book = empty_book }

abbrev pub stage_at : Seen → ℕ → Stage
stage_at b place = slice_index_or b.stages place nobody

abbrev pub config_at : Seen → ℕ → Config
config_at b place = (stage_at b place).config

abbrev pub book_at : Seen → ℕ → Book
book_at b place = (stage_at b place).book

-- what the host at the place answers
abbrev pub reply_at : Seen → ℕ → ℕ → Input → Reply
reply_at b place clock i = step_reply (config_at b place) (book_at b place) clock i

-- the stage after a step
abbrev pub acted : Stage → ℕ → Input → Stage
acted s clock i = record { config = s.config; book = step_book s.config s.book clock i }

-- the message of a number
abbrev pub message : Seen → ℕ → Option Message
message b n = slice_get b.messages (n - 1)

abbrev pub is_sent : Seen → ℕ → Bool
is_sent b n = nat_le 1 n && nat_le n (length b.messages)

abbrev pub landed : ℕ → List ℕ → List ℕ
landed n flying = filter (λ f. not (f == n)) flying

-- ---- steps that are to stop
-- where the next step of the host at the place is to stop
abbrev pub stop_in : ℕ → List (ℕ × Stop) → Option Stop
stop_in place stops = option_map (λ s. s.1) (find (λ s. s.0 == place) stops)

abbrev pub stop_at : Seen → ℕ → Option Stop
stop_at b place = stop_in place b.stops

-- it is to stop no longer
abbrev pub disarmed : ℕ → List (ℕ × Stop) → List (ℕ × Stop)
disarmed place stops = filter (λ s. not (s.0 == place)) stops

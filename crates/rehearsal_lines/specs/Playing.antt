-- What holds of the hosts and messages of a rehearsal before each of its lines.
use Rattle.std.specs.Prelude.{◌<◌, ◌≡◌, ◌≤◌, All, Bool, List, None, Some, false, length, true, ℕ}
use Rattle.ps_time.specs.Numbers.{greatest_moment}
use Rattle.host_model.specs.Conditions.{IsConfig, IsInput}
use Rattle.host_model.specs.Lawful.{Lawful}
use Rattle.world_law.specs.Events.{brings}
use Rattle.world_law.specs.World.{Message}
use Rattle.api_peer.specs.Replied.{IsReplyTo}
use Rattle.api_peer.specs.Widths.{HasWidths}
use Rattle.rehearsal_script.specs.declared.script.ScriptHost.{ScriptHost}
use Rattle.rehearsal_script.specs.declared.script.ScriptLine.{ScriptLine}
use Rattle.rehearsal_script.specs.declared.script.ScriptLine.TheVariants as line
use Rattle.rehearsal_model.specs.Moves.{receiver, reply_to}
use Rattle.rehearsal_model.specs.Reaching.{IsKnown, IsScriptPeer}
use Rattle.rehearsal_model.specs.Simulations.{Simulation, as_read, book_of, config_of}
use Rattle.rehearsal_model.specs.Seen.{message}

-- the host at each place has a configuration that a host may have, and a lawful book
abbrev pub AreLawful : Simulation → Type 0
AreLawful b = (place : ℕ) → place < length b.held_hosts → IsConfig (config_of b place) × Lawful (config_of b place).number (book_of b place)

-- a host for each host, which is lawful; each message that was sent is for one of the hosts, and asks what that host may be asked
pub record IsPlaying (hosts : List ScriptHost) (b : Simulation) : Type 0 where
  pub places : length b.held_hosts ≡ length hosts
  pub hosts_are : AreLawful b
  pub receivers : (n : ℕ) (l : Message) → message (as_read b) n ≡ Some l → receiver hosts l < length hosts
  pub asks : (n : ℕ) (l : Message) → message (as_read b) n ≡ Some l → IsInput (config_of b (receiver hosts l)) (brings l l.reply)
  -- an order comes to a host that knows whose it is
  pub known : (n : ℕ) (l : Message) → message (as_read b) n ≡ Some l → l.reply ≡ None → IsKnown (config_of b (receiver hosts l)) l
  -- what is replied to it is a reply to that order
  pub replies : (n : ℕ) (l : Message) (clock : ℕ) → message (as_read b) n ≡ Some l → l.reply ≡ None → clock ≤ greatest_moment → HasWidths (reply_to hosts (as_read b) clock l) → IsReplyTo l.order.body (reply_to hosts (as_read b) clock l)
  pub peers : (place : ℕ) → place < length b.held_hosts → All IsScriptPeer (config_of b place).peers
  pub last : b.last ≤ greatest_moment

-- a line that speaks of what stands at a path
abbrev pub is_at_path : ScriptLine → Bool
is_at_path (line.Get at host path) = true
is_at_path (line.Delete at host address path) = true
is_at_path _ = false

-- a line that asks a host something: to book a run, or what a request asks
abbrev pub is_asked : ScriptLine → Bool
is_asked (line.Book at host class priority start len) = true
is_asked (line.Post at host address body) = true
is_asked (line.Get at host path) = true
is_asked (line.Delete at host address path) = true
is_asked _ = false

-- a line that speaks of a message, by its number
abbrev pub is_of_message : ScriptLine → Bool
is_of_message (line.Deliver at n) = true
is_of_message (line.Repeat at n) = true
is_of_message (line.Lose n) = true
is_of_message _ = false

-- a line that has a host try an archive
abbrev pub is_archive : ScriptLine → Bool
is_archive (line.Archive at host) = true
is_archive _ = false

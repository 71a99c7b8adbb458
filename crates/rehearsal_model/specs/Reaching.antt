-- What holds of every world that a rehearsal comes to.
use Rattle.std.specs.Prelude.{◌<◌, ◌≡◌, ◌≢◌, ◌≤◌, All, IsTrue, List, Some, length, slice_get, true, ℕ}
use Rattle.ps_time.specs.Name.{is_name}
use Rattle.ps_time.specs.Numbers.{greatest_moment}
use Rattle.host_model.specs.Conditions.{IsInput}
use Rattle.host_model.specs.declared.config.Config.{Config}
use Rattle.host_model.specs.declared.config.Peer.{Peer}
use Rattle.world_law.specs.Events.{Cause, Event, MayRun, run}
use Rattle.world_law.specs.World.{Message, Stage, start}
use Rattle.api_peer.specs.Meant.{KeepsBounds, Knows}
use Rattle.api_peer.specs.Orderly.{IsOrderly}
use Rattle.api_peer.specs.Told.{AreTold}
use Rattle.rehearsal_script.specs.declared.script.ScriptHost.{ScriptHost}
use Rattle.rehearsal_model.specs.Hosts.{config_numbered, first_config, name_numbered, peer_key}
use Rattle.rehearsal_model.specs.Moves.{Move, place_numbered}
use Rattle.rehearsal_model.specs.Rehearsal.{Show, seen}
use Rattle.rehearsal_model.specs.Seen.{Seen, config_at, is_sent}

-- the number is that of a host
abbrev pub IsHost : List ScriptHost → ℕ → Type 0
IsHost hosts number = place_numbered hosts number < length hosts

-- but for its tools, a host's configuration is the first one
abbrev pub IsAsFirst : List ScriptHost → ScriptHost → Config → Type 0
IsAsFirst hosts h c = (tools : List (List ℕ)) × (c ≡ record (first_config hosts h) { installed = tools })

-- its book is orderly for its host, so that the orders which it lists are understood
abbrev pub IsOrderlyStage : Stage → Type 0
IsOrderlyStage s = IsOrderly s.config.name s.book

-- the results in its book are told as compact texts
abbrev pub IsToldStage : Stage → Type 0
IsToldStage s = AreTold s.book

-- it is of two different hosts of the script, and its order keeps the bounds of one by the host that asks
pub record IsBetween (hosts : List ScriptHost) (l : Message) : Type 0 where
  pub asker : IsHost hosts l.asker
  pub asked : IsHost hosts l.asked
  pub apart : l.asker ≢ l.asked
  pub bounds : KeepsBounds (name_numbered hosts l.asker) l.order.body

pub record Reaches (hosts : List ScriptHost) (s : Show) : Type 0 where
  -- events led to it, each of which may happen
  pub events : List Event
  pub may : MayRun (start (name_numbered hosts) (config_numbered hosts)) events
  pub world : s.world ≡ run events (start (name_numbered hosts) (config_numbered hosts))
  pub configs : (place : ℕ) (h : ScriptHost) → slice_get hosts place ≡ Some h → IsAsFirst hosts h (config_at (seen hosts s) place)
  pub orderly : All IsOrderlyStage (seen hosts s).stages
  pub told : All IsToldStage (seen hosts s).stages
  pub messages : All (IsBetween hosts) s.world.messages
  pub flying : All (λ n. IsTrue (is_sent (seen hosts s) n)) s.flying
  pub last : s.last ≤ greatest_moment

-- a peer as the hosts of a script know it: it has the key of all, and its authority is in the form of a name
pub record IsScriptPeer (p : Peer) : Type 0 where
  pub key : p.key ≡ peer_key
  pub authority : is_name p.authority ≡ true

-- a host with this configuration knows the one whose order the message is, and takes the order for what it means
pub record IsKnown (d : Config) (l : Message) : Type 0 where
  pub name : List ℕ
  pub knows : Knows d (record { number = l.asker; key = peer_key }) name
  pub bounds : KeepsBounds name l.order.body

-- a host with this configuration may be given what it is asked
abbrev pub MayAsk : Config → Cause → Type 0
MayAsk c (Cause.ByClient i) = IsInput c i
MayAsk c (Cause.ByInner i) = IsInput c i
MayAsk c _ = Unit {0}

abbrev pub MayMove : Seen → Move → Type 0
MayMove b (Move.Asks place clock i) = IsInput (config_at b place) i
MayMove b (Move.Tries place clock i) = IsInput (config_at b place) i
MayMove b (Move.Crashes c) = MayAsk (config_at b c.place) c.cause
MayMove b (Move.Breaks c kept) = MayAsk (config_at b c.place) c.cause
MayMove b _ = Unit {0}

-- The hosts of a script, and their configurations.
use Rattle.std.specs.Prelude.{◌==◌, List, [], Option, Some, None, codes, filter, find, map, not, ℕ}
use Rattle.limit_apply.specs.Open.{open_config}
use Rattle.plugin_tool.specs.Choice.{tools_by_name}
use Rattle.plugin_tool.specs.Tool.{tool_text}
use Rattle.host_model.specs.declared.config.Config.{Config}
use Rattle.host_model.specs.declared.config.Peer.{Peer}
use Rattle.rehearsal_script.specs.declared.script.ScriptHost.{ScriptHost}

-- the key that every host of a script shows to every other
abbrev pub peer_key : List ℕ
peer_key = codes "script"

-- a host as the others know it: its authority is its name
abbrev pub peer_of : ScriptHost → Peer
peer_of h = record { number = h.number; name = h.name; authority = h.name; key = peer_key }

-- the hosts of a script that have another number
abbrev pub others_of : List ScriptHost → ℕ → List ScriptHost
others_of hosts number = filter (λ h. not (h.number == number)) hosts

-- all tools, by name
abbrev pub every_tool : List (List ℕ)
every_tool = map tool_text tools_by_name

-- a host as it is at first, with these peers: it has all tools, and everything is allowed there
abbrev pub opened_host : ScriptHost → List Peer → Config
opened_host h peers = record { number = h.number; name = h.name; authority = h.name; peers = peers; installed = every_tool; limits = open_config }

-- a host of a script, to which all others are peers, those that are declared later too
abbrev pub first_config : List ScriptHost → ScriptHost → Config
first_config hosts h = opened_host h (map peer_of (others_of hosts h.number))

-- ---- by their numbers: a world has a host for every number, and those that no script declares never act
abbrev pub stranger : ℕ → ScriptHost
stranger number = record { name = codes "stranger"; number = number }

abbrev pub found_config : List ScriptHost → ℕ → Option ScriptHost → Config
found_config hosts number None = opened_host (stranger number) []
found_config hosts number (Some h) = first_config hosts h

-- the host that has the number
abbrev pub host_numbered : List ScriptHost → ℕ → Option ScriptHost
host_numbered hosts number = find (λ h. h.number == number) hosts

abbrev pub config_numbered : List ScriptHost → ℕ → Config
config_numbered hosts number = found_config hosts number (host_numbered hosts number)

abbrev pub name_numbered : List ScriptHost → ℕ → List ℕ
name_numbered hosts number = (config_numbered hosts number).name

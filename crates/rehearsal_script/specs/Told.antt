-- What every kind of line may tell: a moment, and a host.
use Rattle.std.specs.Prelude.{ℕ, Option, Some, None}
use Rattle.rehearsal_script.specs.declared.script.ScriptLine.{ScriptLine}
use Rattle.rehearsal_script.specs.declared.script.ScriptLine.TheVariants.{Host, Tools, Limits, Book, Post, Get, Delete, Turn, Archive, Crash, Fail, Deliver, Repeat, Lose}

-- when it happens
abbrev pub moment_told : ScriptLine → Option ℕ
moment_told (Host place) = None
moment_told (Tools host tools) = None
moment_told (Limits host limits) = None
moment_told (Book at host class priority start len) = Some at
moment_told (Post at host address body) = Some at
moment_told (Get at host path) = Some at
moment_told (Delete at host address path) = Some at
moment_told (Turn at host) = Some at
moment_told (Archive at host) = Some at
moment_told (Crash at host stop) = Some at
moment_told (Fail at host call) = Some at
moment_told (Deliver at message) = Some at
moment_told (Repeat at message) = Some at
moment_told (Lose message) = None

-- the place of the host that it declares or speaks of
abbrev pub host_told : ScriptLine → Option ℕ
host_told (Host place) = Some place
host_told (Tools host tools) = Some host
host_told (Limits host limits) = Some host
host_told (Book at host class priority start len) = Some host
host_told (Post at host address body) = Some host
host_told (Get at host path) = Some host
host_told (Delete at host address path) = Some host
host_told (Turn at host) = Some host
host_told (Archive at host) = Some host
host_told (Crash at host stop) = Some host
host_told (Fail at host call) = Some host
host_told (Deliver at message) = None
host_told (Repeat at message) = None
host_told (Lose message) = None

-- What holds of every script that is read.
use Rattle.std.specs.Prelude.{◌≡◌, ◌≢◌, ℕ, ◌+◌, ◌<◌, ◌≤◌, pos, negsuc, ◌≤ℤ◌, true, List, [], ◌∷◌, length, All, AllPairs, IfSome}
use Rattle.std.specs.List.{list_all}
use Rattle.ps_time.specs.Name.{is_name}
use Rattle.ps_time.specs.Numbers.{greatest_moment, greatest_length, most_script_hosts}
use Rattle.plugin_core.specs.ReadTest.{all_differ}
use Rattle.limit_apply.specs.Read.{IsKept}
use Rattle.task_spec.specs.ReadTask.{is_tool}
use Rattle.rehearsal_script.specs.Told.{host_told}
use Rattle.rehearsal_script.specs.declared.lines.Content.{Content}
use Rattle.rehearsal_script.specs.declared.lines.Content.TheVariants.{Event}
use Rattle.rehearsal_script.specs.declared.script.ScriptHost.{ScriptHost}
use Rattle.rehearsal_script.specs.declared.script.ScriptLine.{ScriptLine}
use Rattle.rehearsal_script.specs.declared.script.ScriptLine.TheVariants.{Host, Tools, Limits, Book, Post, Get, Delete, Turn, Archive, Crash, Fail, Deliver, Repeat, Lose}
use Rattle.rehearsal_script.specs.declared.script.Numbered.{Numbered}
use Rattle.rehearsal_script.specs.declared.script.Script.{Script}

-- ---- hosts
-- a host's name is in the form, and its number within its bounds
pub record IsLawfulHost (host : ScriptHost) : Type 0 where
  pub name : is_name host.name ≡ true
  pub least : 1 ≤ host.number
  pub most : host.number ≤ 65535

-- few hosts, all different
pub record AreLawfulHosts (list : List ScriptHost) : Type 0 where
  pub few : length list ≤ most_script_hosts
  pub hosts : All IsLawfulHost list
  pub names : AllPairs (λ a b. a.name ≢ b.name) list
  pub numbers : AllPairs (λ a b. a.number ≢ b.number) list

-- ---- lines
-- a line where this many hosts are declared: it names one of them, its values are within their bounds, its tools are known and
-- differ, and its limits are kept ones
abbrev pub IsLawfulLine : ℕ → ScriptLine → Type 0
IsLawfulLine hosts (Host place) = place < hosts
IsLawfulLine hosts (Tools host tools) = (host < hosts) × (list_all is_tool tools ≡ true) × (all_differ tools ≡ true)
IsLawfulLine hosts (Limits host limits) = (host < hosts) × IsKept limits
IsLawfulLine hosts (Book at host class priority start len) =
    (at ≤ greatest_moment) × (host < hosts) × (negsuc 999 ≤ℤ priority) × (priority ≤ℤ pos 1000) × (start ≤ greatest_moment) × (1 ≤ len) × (len ≤ greatest_length)
IsLawfulLine hosts (Post at host address body) = (at ≤ greatest_moment) × (host < hosts) × (length address ≤ 255)
IsLawfulLine hosts (Get at host path) = (at ≤ greatest_moment) × (host < hosts)
IsLawfulLine hosts (Delete at host address path) = (at ≤ greatest_moment) × (host < hosts) × (length address ≤ 255)
IsLawfulLine hosts (Turn at host) = (at ≤ greatest_moment) × (host < hosts)
IsLawfulLine hosts (Archive at host) = (at ≤ greatest_moment) × (host < hosts)
IsLawfulLine hosts (Crash at host stop) = (at ≤ greatest_moment) × (host < hosts)
IsLawfulLine hosts (Fail at host call) = (at ≤ greatest_moment) × (host < hosts)
IsLawfulLine hosts (Deliver at message) = at ≤ greatest_moment
IsLawfulLine hosts (Repeat at message) = at ≤ greatest_moment
IsLawfulLine hosts (Lose message) = Unit {0}

-- a line where `count` hosts are declared above it declares the next, or speaks of one of these
abbrev pub FollowsHosts : ℕ → ScriptLine → Type 0
FollowsHosts count (Host place) = place ≡ count
FollowsHosts count line = IfSome (host_told line) (λ host. host < count)

-- how many are declared after it
abbrev pub hosts_after : ℕ → ScriptLine → ℕ
hosts_after count (Host place) = count + 1
hosts_after count _ = count

-- each line follows the hosts above it, from `count` on, until `all` are declared
abbrev pub DeclareInOrder : ℕ → List Numbered → ℕ → Type 0
DeclareInOrder count [] all = count ≡ all
DeclareInOrder count (l ∷ ls) all = FollowsHosts count l.line × DeclareInOrder (hosts_after count l.line) ls all

-- the limits of a line are kept ones
abbrev pub HasKeptLimits : Content → Type 0
HasKeptLimits (Event (Limits host limits)) = IsKept limits
HasKeptLimits _ = Unit {0}

-- ---- scripts
-- lawful hosts, and lines that are lawful over them, in the order of their declaration
pub record IsLawful (script : Script) : Type 0 where
  pub hosts : AreLawfulHosts script.hosts
  pub lines : All (λ l. IsLawfulLine (length script.hosts) l.line) script.lines
  pub order : DeclareInOrder 0 script.lines (length script.hosts)

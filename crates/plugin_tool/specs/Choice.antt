-- Which tools run a test, and which of them is chosen.
use Rattle.std.specs.Prelude.{ℕ, ◌*◌, ◌≡◌, ◌≤◌, Bool, true, false, ◌&&◌, nat_lt, List, [], ◌∷◌, ◌++◌, length, Option, Some, None, if◌then◌else◌, codes, sum_by}
use Rattle.std.specs.Cmp.Lexicographic.{slice_cmp}
use Rattle.std.specs.List.{list_all}
use Rattle.std.specs.Ordering.{nat_cmp, is_le}
use Rattle.std.specs.Str.{bytes_eq}
use Rattle.plugin_core.specs.declared.kind.TestKind.{TestKind}
use Rattle.plugin_core.specs.declared.kind.TestKind.TheVariants.{Idle, Idleex, Idlebgm, Idlemany, Simplestream}
use Rattle.plugin_tool.specs.declared.tool.Tool.{Tool}
use Rattle.plugin_tool.specs.declared.tool.Tool.TheVariants.{Sleep, Snooze, Sleepbgm, Simplestreamer}
use Rattle.plugin_core.specs.Participants.{is_named}
use Rattle.plugin_tool.specs.Tool.{tool_text}

-- the tool of a name
abbrev pub tool_of_text : List ℕ → Option Tool
tool_of_text bs =
    if bytes_eq bs (codes "sleep") then Some Sleep
    else if bytes_eq bs (codes "snooze") then Some Snooze
    else if bytes_eq bs (codes "sleepbgm") then Some Sleepbgm
    else if bytes_eq bs (codes "simplestreamer") then Some Simplestreamer
    else None

-- which kinds of tests a tool runs
abbrev pub tool_runs : Tool → TestKind → Bool
tool_runs Sleep Idle = true
tool_runs Sleep Idleex = true
tool_runs Sleep Idlemany = true
tool_runs Snooze Idle = true
tool_runs Snooze Idleex = true
tool_runs Sleepbgm Idlebgm = true
tool_runs Simplestreamer Simplestream = true
tool_runs _ _ = false

-- how much each participant prefers a tool
abbrev pub preference : Tool → ℕ
preference Sleep = 10
preference Snooze = 5
preference Sleepbgm = 10
preference Simplestreamer = 10

-- the name is that of a tool that runs the kind
abbrev pub is_tool_for : TestKind → List ℕ → Bool
is_tool_for kind name = runs_it (tool_of_text name)
  where
    runs_it : Option Tool → Bool
    runs_it None = false
    runs_it (Some tool) = tool_runs tool kind

-- each list has the tool
abbrev pub in_all : List (List (List ℕ)) → Tool → Bool
in_all lists tool = list_all (is_named (tool_text tool)) lists

-- the tool, if there is one and each list has it
abbrev pub offered : List (List (List ℕ)) → Option Tool → Option Tool
offered lists None = None
offered lists (Some tool) = if in_all lists tool then Some tool else None

abbrev pub or_else : Option Tool → Option Tool → Option Tool
or_else None other = other
or_else (Some tool) other = Some tool

-- the first wanted tool that each list has
abbrev pub first_wanted : List (List (List ℕ)) → List (List ℕ) → Option Tool
first_wanted lists [] = None
first_wanted lists (name ∷ names) = or_else (offered lists (tool_of_text name)) (first_wanted lists names)

-- every tool, ascending by name
abbrev pub tools_by_name : List Tool
tools_by_name = Simplestreamer ∷ Sleep ∷ Sleepbgm ∷ Snooze ∷ []

-- over so many lists the sum of the preferences of one tool is above that of another
abbrev pub exceeds : ℕ → Tool → Tool → Bool
exceeds count tool other = nat_lt (count * preference other) (count * preference tool)

-- a tool, or the best of those that come after it by name
abbrev pub or_better : List (List (List ℕ)) → Tool → Option Tool → Option Tool
or_better lists tool best = if in_all lists tool then better best else best
  where
    better : Option Tool → Option Tool
    better None = Some tool
    better (Some other) = if exceeds (length lists) other tool then Some other else Some tool

-- the tool that each list has, of the greatest sum of preferences, and of equal ones the first
abbrev pub best_of : List (List (List ℕ)) → List Tool → Option Tool
best_of lists [] = None
best_of lists (tool ∷ tools) = or_better lists tool (best_of lists tools)

-- the tool for a run
abbrev pub chosen : List (List (List ℕ)) → List (List ℕ) → Option Tool
chosen lists [] = best_of lists tools_by_name
chosen lists (name ∷ names) = first_wanted lists (name ∷ names)

-- ---- what the choice means

-- each list adds the tool's preference
abbrev pub sum_of_preferences : List (List (List ℕ)) → Tool → ℕ
sum_of_preferences lists tool = sum_by (λ list. preference tool) lists

-- the name of the one isn't after that of the other
abbrev pub is_named_first : Tool → Tool → Bool
is_named_first tool other = is_le (slice_cmp nat_cmp (tool_text tool) (tool_text other))

-- each list has the tool, and none that each list has comes before it by preferences and then by name
pub record IsBest (lists : List (List (List ℕ))) (tool : Tool) : Type 0 where
  pub everywhere : in_all lists tool ≡ true
  pub greatest : (other : Tool) → in_all lists other ≡ true → sum_of_preferences lists other ≤ sum_of_preferences lists tool
  pub first : (other : Tool) → in_all lists other ≡ true → sum_of_preferences lists other ≡ sum_of_preferences lists tool → is_named_first tool other ≡ true

-- each list has the tool, it is wanted, and none of those wanted before it is one that each list has
pub record IsFirstWanted (lists : List (List (List ℕ))) (wanted : List (List ℕ)) (tool : Tool) : Type 0 where
  pub everywhere : in_all lists tool ≡ true
  pub before : List (List ℕ)
  pub after : List (List ℕ)
  pub place : wanted ≡ before ++ tool_text tool ∷ after
  pub passed : (other : Tool) → is_named (tool_text other) before ≡ true → in_all lists other ≡ false

-- by preferences where none is wanted, and else by the order in which they are wanted
abbrev pub IsChoice : List (List (List ℕ)) → List (List ℕ) → Tool → Type 0
IsChoice lists [] tool = IsBest lists tool
IsChoice lists (name ∷ names) tool = IsFirstWanted lists (name ∷ names) tool

-- each list has the tool, and it is wanted, where some are
abbrev pub qualifies : List (List (List ℕ)) → List (List ℕ) → Tool → Bool
qualifies lists [] tool = in_all lists tool
qualifies lists (name ∷ names) tool = in_all lists tool && is_named (tool_text tool) (name ∷ names)

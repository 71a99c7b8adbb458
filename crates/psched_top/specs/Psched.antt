-- What a call of psched makes of its source and its sink.
use Rattle.std.specs.Prelude.{◌≡◌, ◌⊎◌, ℕ, true, List, [], Option, Some, IfSome, Ok}
use Rattle.std.specs.Io.KnownBytes.{Appends}
use Rattle.ps_ports.specs.All.{WrotePrefix}
use Rattle.ps_ports.specs.Causes.{Rose}
use Rattle.world_law.specs.Laws.{Safe}
use Rattle.world_law.specs.World.{World}
use Rattle.limit_apply.specs.Limits.{LimitsConfig}
use Rattle.rehearsal_script.specs.declared.script.Script.{Script}
use Rattle.rehearsal_model.specs.Moves.{Outcomes}
use Rattle.rehearsal_model.specs.Simulations.{UnsyncedKept, world_of}
use Rattle.rehearsal_model.specs.Telling.{report_of}
use Rattle.rehearsal_script.specs.Script.{script_of}
use Rattle.rehearsal_generate.specs.Summary.{summary_of}
use Rattle.rehearsal_generate.specs.Work.{work_of}
use Rattle.psched_top.specs.Command.{takes_input}
use Rattle.limit_apply.specs.Read.{config_in}
use Rattle.psched_top.specs.Limits.{valid_text}
use Rattle.psched_top.specs.declared.command.Command.{Command}
use Rattle.psched_top.specs.declared.outcome.Outcome.{Outcome}
use Rattle.psched_top.specs.declared.outcome.Outcome.TheVariants.{Report, Valid, Summary, CannotRead}
use Rattle.psched_top.specs.Outcome.{line, outcome_of, status_of, text_of}

-- where the source tells its bytes, this is all that it held
abbrev pub IsAll : Option (List ℕ) → List ℕ → Type 0
IsAll held input = IfSome held (λ bytes. input ≡ bytes)

-- where the source tells its bytes, none is left
abbrev pub IsReadToEnd : Option (List ℕ) → Option (List ℕ) → Type 0
IsReadToEnd held left = IfSome held (λ bytes. left ≡ Some [])

-- it is what the command makes of an input, which is all that the source held
pub record IsGiven (comes : Outcomes) (command : Option Command) (held : Option (List ℕ)) (outcome : Outcome) : Type 0 where
  pub input : List ℕ
  pub all : IsAll held input
  pub given : outcome ≡ outcome_of comes command input

-- a command that reads, whose source failed, so that its count rose
pub record IsReadFault (asked : Option Command) (before now : ℕ) (outcome : Outcome) : Type 0 where
  pub fault : outcome ≡ CannotRead
  pub reads : takes_input asked ≡ true
  pub cause : Rose before now

-- why this outcome comes
abbrev pub Comes : Outcomes → Option Command → Option (List ℕ) → ℕ → ℕ → Outcome → Type 0
Comes comes command held before now outcome = IsGiven comes command held outcome ⊎ IsReadFault command before now outcome

-- each world keeps the laws, whichever way it turns out what faults of disks left
abbrev pub AreSafe : (UnsyncedKept → World) → Type 0
AreSafe worlds = (turns : UnsyncedKept) → Safe (worlds turns)

-- the input was read to its end and is a script whose worlds keep the laws
pub record Rehearsed (comes : Outcomes) (held left : Option (List ℕ)) : Type 0 where
  pub input : List ℕ
  pub all : IsAll held input
  pub ended : IsReadToEnd held left
  pub script : Script
  pub grammar : script_of input ≡ Ok script
  pub safe : AreSafe (world_of comes script)

-- its report is the outcome
abbrev pub IsRehearsed : Outcomes → Option (List ℕ) → Option (List ℕ) → Outcome → Type 0
IsRehearsed comes held left outcome = (r : Rehearsed comes held left) × (outcome ≡ Report (report_of comes r.script))

-- the input is a script whose worlds keep the laws, and its report is the outcome
pub record IsSafeReport (comes : Outcomes) (input : List ℕ) (outcome : Outcome) : Type 0 where
  pub script : Script
  pub grammar : script_of input ≡ Ok script
  pub safe : AreSafe (world_of comes script)
  pub report : outcome ≡ Report (report_of comes script)

-- the input was read to its end and is a configuration of limits
pub record Checked (held left : Option (List ℕ)) : Type 0 where
  pub input : List ℕ
  pub all : IsAll held input
  pub ended : IsReadToEnd held left
  pub config : LimitsConfig
  pub grammar : config_in input ≡ Ok config

-- the line of its counts is the outcome
abbrev pub IsChecked : Option (List ℕ) → Option (List ℕ) → Outcome → Type 0
IsChecked held left outcome = (c : Checked held left) × (outcome ≡ Valid (line (valid_text c.config)))

-- the input is a configuration of limits, and the line of its counts is the outcome
pub record IsValid (input : List ℕ) (outcome : Outcome) : Type 0 where
  pub config : LimitsConfig
  pub grammar : config_in input ≡ Ok config
  pub counts : outcome ≡ Valid (line (valid_text config))

-- the status of the outcome that comes, whose text was written whole
pub record Told (comes : Outcomes) (command : Option Command) (held : Option (List ℕ)) (before now : ℕ) (old new : Option (List ℕ)) (status : ℕ) : Type 0 where
  pub outcome : Outcome
  pub cause : Comes comes command held before now outcome
  pub status_is : status ≡ status_of outcome
  pub written : Appends old new (text_of outcome)

-- the status of this outcome, whose text was written
abbrev pub Exactly : Outcome → Option (List ℕ) → Option (List ℕ) → ℕ → Type 0
Exactly outcome old new status = (status ≡ status_of outcome) × Appends old new (text_of outcome)

-- a part of the front of the text of the outcome that comes was written
pub record CutShort (comes : Outcomes) (command : Option Command) (held : Option (List ℕ)) (before now : ℕ) (old new : Option (List ℕ)) : Type 0 where
  pub outcome : Outcome
  pub cause : Comes comes command held before now outcome
  pub written : WrotePrefix old new (text_of outcome)

-- the report on the script was written
abbrev pub Reported : Outcomes → Option (List ℕ) → Option (List ℕ) → Option (List ℕ) → Option (List ℕ) → Type 0
Reported comes held left old new = (r : Rehearsed comes held left) × Appends old new (report_of comes r.script)

-- the line of the configuration's counts was written
abbrev pub Validated : Option (List ℕ) → Option (List ℕ) → Option (List ℕ) → Option (List ℕ) → Type 0
Validated held left old new = (c : Checked held left) × Appends old new (line (valid_text c.config))

-- the worlds of so many posts keep the laws, and its summary is the outcome
abbrev pub IsGenerated : ℕ → Outcome → Type 0
IsGenerated count outcome = AreSafe (work_of count) × (outcome ≡ Summary (summary_of count))

-- the summary of so many posts was written, whose worlds keep the laws
abbrev pub Generated : ℕ → Option (List ℕ) → Option (List ℕ) → Type 0
Generated count old new = AreSafe (work_of count) × Appends old new (summary_of count)

-- What psched comes to, by its words and its input, and its status and text then.
use Rattle.std.specs.Prelude.{ℕ, List, [], ◌∷◌, ◌++◌, length, nat_lt, Option, Some, None, Result, Ok, Err, if◌then◌else◌, codes}
use Rattle.ps_time.specs.Numbers.{most_input_bytes}
use Rattle.ps_ports.specs.declared.fault.AllFault.{AllFault}
use Rattle.ps_ports.specs.declared.fault.AllFault.TheVariants.{TooLong as MoreCame, ReadFault, Memory}
use Rattle.limit_ident.specs.declared.fault.LimitFault.{LimitFault}
use Rattle.limit_apply.specs.Limits.{LimitsConfig}
use Rattle.rehearsal_script.specs.declared.script.Script.{Script}
use Rattle.rehearsal_script.specs.declared.script.ScriptFault.{ScriptFault}
use Rattle.rehearsal_script.specs.Refusal.{fault_text}
use Rattle.rehearsal_model.specs.Moves.{Outcomes}
use Rattle.rehearsal_model.specs.Telling.{report_of}
use Rattle.rehearsal_script.specs.Script.{script_of}
use Rattle.limit_apply.specs.Read.{config_in}
use Rattle.rehearsal_generate.specs.Summary.{summary_of}
use Rattle.psched_top.specs.Limits.{refusal_text, valid_text}
use Rattle.psched_top.specs.declared.command.Command.{Command}
use Rattle.psched_top.specs.declared.command.Command.TheVariants.{Rehearse, ValidateLimits, Generate, Help, Version as VersionWord}
use Rattle.psched_top.specs.declared.outcome.Outcome.{Outcome}
use Rattle.psched_top.specs.declared.outcome.Outcome.TheVariants.{Usage, Version, Report, Valid, Summary, WrongWords, Refused, TooLong, CannotRead}

abbrev pub status_of : Outcome → ℕ
status_of Usage = 0
status_of Version = 0
status_of (Report text) = 0
status_of (Valid text) = 0
status_of (Summary text) = 0
status_of WrongWords = 1
status_of (Refused text) = 2
status_of TooLong = 2
status_of CannotRead = 3

-- a line feed ends it
abbrev pub line : List ℕ → List ℕ
line text = text ++ 10 ∷ []

abbrev pub usage_line : List ℕ
usage_line = line (codes "usage: psched rehearse | validate-limits | generate N | daemon OPTIONS PEER... | task URL | result URL | cancel URL | clock URL | schedule URL [START END]")

abbrev pub text_of : Outcome → List ℕ
text_of Usage = usage_line
text_of Version = line (codes "psched 0.1.0")
text_of (Report text) = text
text_of (Valid text) = text
text_of (Summary text) = text
text_of WrongWords = usage_line
text_of (Refused text) = text
text_of TooLong = line (codes "input too long")
text_of CannotRead = line (codes "cannot read")

-- what the grammar makes of an input: the report on its script, or its first refusal
abbrev pub outcome_of_script : Outcomes → Result Script ScriptFault → Outcome
outcome_of_script comes (Ok script) = Report (report_of comes script)
outcome_of_script comes (Err fault) = Refused (line (fault_text fault))

-- the line of a configuration's counts, or its first refusal
abbrev pub outcome_of_limits : Result LimitsConfig LimitFault → Outcome
outcome_of_limits (Ok config) = Valid (line (valid_text config))
outcome_of_limits (Err fault) = Refused (line (refusal_text fault))

-- what a whole input comes to, unless it is too long
abbrev pub outcome_of_input : (List ℕ → Outcome) → List ℕ → Outcome
outcome_of_input made_of input = if nat_lt most_input_bytes (length input) then TooLong else made_of input

-- what comes of a source that didn't give a whole input
abbrev pub unread_of : AllFault → Option Outcome
unread_of MoreCame = Some TooLong
unread_of ReadFault = Some CannotRead
unread_of Memory = None

-- what psched comes to by what comes of attempts, its words and its whole input, where reading meets no fault
abbrev pub outcome_of : Outcomes → Option Command → List ℕ → Outcome
outcome_of comes None input = WrongWords
outcome_of comes (Some Help) input = Usage
outcome_of comes (Some VersionWord) input = Version
outcome_of comes (Some (Generate count)) input = Summary (summary_of count)
outcome_of comes (Some Rehearse) input = outcome_of_input (λ bytes. outcome_of_script comes (script_of bytes)) input
outcome_of comes (Some ValidateLimits) input = outcome_of_input (λ bytes. outcome_of_limits (config_in bytes)) input

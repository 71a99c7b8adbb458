-- What calls of disks that fail leave of hosts, computed.
use Rattle.std.specs.Fmt.{digits}
use Rattle.std.specs.Prelude.{codes, pos}
use Rattle.std.proofs.Common.{◌≡◌, ◌+◌, ℕ, List, [], ◌∷◌, refl}
use Rattle.std.specs.Str.{chars, is_utf8}
use lib.Utf8.{encode}
use Rattle.json.specs.Print.{escape_byte}
use Rattle.serde_json.proofs.OnLiterals.{serde_json_on_literals}
use Rattle.uuid.proofs.OnLiterals.{uuid_on_literals}
use Rattle.ps_disks.specs.declared.image.Image.TheVariants.{New, Old}
use Rattle.ps_time.specs.Calendar.{date_of_day, month_after, year_after}
use Rattle.ps_time.specs.Length.{amount_of, clock_at, count_at, days_at, length_of, length_text_of, seconds_at}
use Rattle.ps_time.specs.Moment.{day_text_of, moment_text_of}
use Rattle.ps_time.specs.Picture.{begins_as, fraction_at, leading_number}
use Rattle.ps_time.specs.declared.class.Class.TheVariants.{Exclusive}
use Rattle.archivers.specs.Outcome.{plain}
use Rattle.schedule_rule.specs.Rule.{first_from}
use Rattle.api_reply.specs.Shown.{moment_data, run_text, second_data, task_text}
use Rattle.rehearsal_script.specs.declared.script.Numbered.{Numbered}
use Rattle.rehearsal_script.specs.declared.script.ScriptHost.{ScriptHost}
use Rattle.rehearsal_script.specs.declared.script.ScriptLine.{ScriptLine}
use Rattle.rehearsal_script.specs.declared.script.ScriptLine.TheVariants as line
use Rattle.rehearsal_script.specs.declared.script.Stop.{Stop}
use Rattle.rehearsal_model.specs.Simulations.{Action, Simulation, first_simulation, simulation_line, simulation_lines, simulation_played}
use Rattle.rehearsal_model.specs.Simulated.{record_length, snapshot_length}
use Rattle.rehearsal_model.specs.Telling.{line_said, lines_said}

abbrev hosts : List ScriptHost
hosts = record { name = codes "a"; number = 1 } ∷ []

abbrev booking : ScriptLine
booking = line.Book 0 0 Exclusive (pos 0) 100 10

-- once the call of this number is to fail
abbrev failing : ℕ → Simulation
failing call = simulation_played hosts (first_simulation hosts) 0 (Action.Fails 0 call)

abbrev booked : ℕ → Simulation
booked call = simulation_line plain hosts (failing call) booking

-- the third call fails: the gate byte of the record isn't open, and the next step books
third : (line_said plain hosts (failing 3) booking ≡ codes "503 {\"error\":\"disk\"}") × (line_said plain hosts (booked 3) booking ≡ codes "accepted 00010000-0000-8001-8000-000000010000")
unfolding digits uuid_on_literals escape_byte length_text_of record_length snapshot_length
third = (refl, refl)

-- the fourth one fails: it is open, and the next step finds the booking
fourth : (line_said plain hosts (failing 4) booking ≡ codes "503 {\"error\":\"disk\"}") × (line_said plain hosts (booked 4) booking ≡ codes "denied 3 conflict 00010000-0000-8001-8000-000000010000")
unfolding digits uuid_on_literals escape_byte length_text_of record_length snapshot_length
fourth = (refl, refl)

-- the fifth one isn't made by that step
fifth : line_said plain hosts (failing 5) booking ≡ codes "accepted 00010000-0000-8001-8000-000000010000"
unfolding digits uuid_on_literals escape_byte length_text_of record_length snapshot_length
fifth = refl

-- numbered from n on
abbrev numbered : ℕ → List ScriptLine → List Numbered
numbered n [] = []
numbered n (l ∷ ls) = record { number = n; line = l } ∷ numbered (n + 1) ls

-- a crash behind the fault in the fourth call keeps the booking or doesn't, as its image tells
abbrev crashing : Stop → List ScriptLine
crashing stop = booking ∷ line.Crash 0 0 stop ∷ line.Get 0 0 (codes "/pscheduler/clock") ∷ booking ∷ []

crashed :
    (lines_said plain hosts (failing 4) (numbered 1 (crashing (record { call = 0; image = Old })))
    ≡ codes "1 503 {\"error\":\"disk\"}\n2 armed\n3 crashed\n4 accepted 00010000-0000-8001-8000-000000010000\n")
    × (lines_said plain hosts (failing 4) (numbered 1 (crashing (record { call = 1; image = New })))
    ≡ codes "1 503 {\"error\":\"disk\"}\n2 armed\n3 crashed\n4 denied 3 conflict 00010000-0000-8001-8000-000000010000\n")
unfolding is_utf8 chars encode digits uuid_on_literals serde_json_on_literals escape_byte length_text_of record_length snapshot_length
crashed = (refl, refl)

-- A stop is armed as well: a fault at an earlier call disarms the host of it, and a stop at the same call comes first.
abbrev stopping : Stop → List ScriptLine
stopping stop = line.Crash 0 0 stop ∷ booking ∷ booking ∷ []

both :
    (lines_said plain hosts (failing 4) (numbered 1 (stopping (record { call = 5; image = Old })))
    ≡ codes "1 armed\n2 503 {\"error\":\"disk\"}\n3 denied 3 conflict 00010000-0000-8001-8000-000000010000\n")
    × (lines_said plain hosts (failing 4) (numbered 1 (stopping (record { call = 4; image = Old })))
    ≡ codes "1 armed\n2 crashed\n3 accepted 00010000-0000-8001-8000-000000010000\n")
    × (lines_said plain hosts (failing 5) (numbered 1 (stopping (record { call = 6; image = Old })))
    ≡ codes "1 armed\n2 crashed\n3 denied 3 conflict 00010000-0000-8001-8000-000000010000\n")
unfolding digits uuid_on_literals escape_byte length_text_of record_length snapshot_length
both = (refl, refl, refl)

-- a participant meets a fault as it accepts a run: its answer is a message of the script alone, and the order goes out again
abbrev two : List ScriptHost
two = record { name = codes "a"; number = 1 } ∷ record { name = codes "b"; number = 2 } ∷ []

abbrev proposing : Simulation
proposing =
    simulation_lines plain two (first_simulation two) (numbered 1 (
    line.Post 1000 0 (codes "10.0.0.9") (codes "{\"test\":{\"type\":\"idlemany\",\"spec\":{\"duration\":\"PT10S\",\"hosts\":[\"a\",\"b\"]}}}") ∷ line.Turn 1001 0 ∷ line.Deliver 1001 1 ∷ line.Deliver 1001 2 ∷ line.Turn 1002 0 ∷ []))

abbrev heard : List ScriptLine
heard = line.Deliver 1003 3 ∷ line.Repeat 1003 3 ∷ line.Deliver 1003 4 ∷ line.Repeat 1003 4 ∷ line.Turn 1004 0 ∷ line.Deliver 1004 5 ∷ line.Deliver 1004 6 ∷ []

hearing :
    lines_said plain two (simulation_played two proposing 0 (Action.Fails 1 4)) (numbered 1 heard)
    ≡ codes "1 503 4=b>a:reply\n2 200 5=b>a:reply\n3 heard\n4 heard\n5 changes 0\n6 heard\n7 not in flight\n"
unfolding is_utf8 chars encode digits uuid_on_literals serde_json_on_literals escape_byte length_of amount_of days_at count_at clock_at seconds_at leading_number begins_as fraction_at length_text_of first_from run_text task_text moment_data second_data moment_text_of day_text_of date_of_day month_after year_after record_length snapshot_length
hearing = refl

-- Reports of small scripts, computed.
use Rattle.std.specs.Fmt.{digits}
use Rattle.std.specs.Prelude.{codes, false, pos}
use Rattle.std.proofs.Common.{◌≡◌, ◌++◌, ◌+◌, ℕ, List, [], ◌∷◌, refl}
use Rattle.std.specs.Str.{chars, is_utf8}
use lib.Utf8.{encode}
use Rattle.json.specs.Print.{escape_byte}
use Rattle.serde_json.proofs.OnLiterals.{serde_json_on_literals}
use Rattle.uuid.proofs.OnLiterals.{uuid_on_literals}
use Rattle.ps_time.specs.Calendar.{date_of_day, month_after, year_after}
use Rattle.ps_time.specs.Length.{amount_of, clock_at, count_at, days_at, length_of, length_text_of, seconds_at}
use Rattle.ps_time.specs.Moment.{day_text_of, moment_text_of}
use Rattle.ps_time.specs.Picture.{begins_as, fraction_at, leading_number}
use Rattle.ps_disks.specs.declared.image.Image.TheVariants.{New, Old}
use Rattle.ps_time.specs.declared.class.Class.TheVariants.{Exclusive}
use Rattle.archivers.specs.Outcome.{plain}
use Rattle.schedule_rule.specs.Rule.{first_from}
use Rattle.limit_rule.specs.declared.limit.Rule.TheVariants.{PassFail}
use Rattle.limit_apply.specs.Limits.{LimitsConfig}
use Rattle.limit_apply.specs.Open.{open_config}
use Rattle.api_reply.specs.Shown.{moment_data, run_text, second_data, task_text}
use Rattle.rehearsal_script.specs.declared.script.Numbered.{Numbered}
use Rattle.rehearsal_script.specs.declared.script.Script.{Script}
use Rattle.rehearsal_script.specs.declared.script.ScriptHost.{ScriptHost}
use Rattle.rehearsal_script.specs.declared.script.ScriptLine.{ScriptLine}
use Rattle.rehearsal_script.specs.declared.script.ScriptLine.TheVariants as line
use Rattle.rehearsal_model.specs.Simulated.{record_length, snapshot_length}
use Rattle.rehearsal_model.specs.Telling.{report_of}

abbrev host : List ℕ → ℕ → ScriptHost
host name number = record { name = name; number = number }

-- numbered from n on
abbrev numbered : ℕ → List ScriptLine → List Numbered
numbered n [] = []
numbered n (l ∷ ls) = record { number = n; line = l } ∷ numbered (n + 1) ls

abbrev script : List ScriptHost → List ScriptLine → Script
script hosts lines = record { hosts = hosts; lines = numbered 1 lines }

-- two bookings that touch
touching : report_of plain (script (host (codes "a") 1 ∷ []) (line.Host 0 ∷ line.Book 50 0 Exclusive (pos 0) 100 50 ∷ line.Book 50 0 Exclusive (pos 0) 150 50 ∷ [])) ≡
    codes "1 ok\n2 accepted 00010000-0000-8001-8000-000000010000\n3 accepted 00010000-0000-8001-8000-000000020000\n" ++
    codes "a 100 150 exclusive 0 pending 00010000-0000-8001-8000-000000010000\na 150 200 exclusive 0 pending 00010000-0000-8001-8000-000000020000\n"
unfolding digits uuid_on_literals escape_byte length_text_of moment_text_of day_text_of date_of_day month_after year_after record_length snapshot_length
touching = refl

-- a task on two hosts: a reply gets lost, and its order is sent again
abbrev two : List ScriptHost
two = host (codes "a") 1 ∷ host (codes "b") 2 ∷ []

abbrev body : List ℕ
body = codes "{\"test\":{\"type\":\"idlemany\",\"spec\":{\"duration\":\"PT10S\",\"hosts\":[\"a\",\"b\"]}}}"

abbrev lines : List ScriptLine
lines =
    line.Host 0 ∷ line.Host 1 ∷ line.Post 1000 0 (codes "10.0.0.9") body ∷ line.Turn 1001 0 ∷ line.Deliver 1001 1 ∷ line.Deliver 1001 2 ∷ line.Turn 1002 0 ∷ line.Deliver 1003 3 ∷ line.Lose 4 ∷
    line.Turn 1004 0 ∷ line.Deliver 1005 5 ∷ line.Deliver 1006 6 ∷ line.Turn 1006 0 ∷ line.Deliver 1006 7 ∷ line.Turn 1007 0 ∷ line.Turn 1007 1 ∷ []

on_both : report_of plain (script two lines) ≡
    codes "1 ok\n2 ok\n3 200 \"http://a/pscheduler/tasks/00010000-0001-8000-8000-000000000000\"\n4 changes 1 1=a>b:free\n5 200 2=b>a:reply\n6 heard\n7 changes 1 3=a>b:propose\n8 200 4=b>a:reply\n9 lost\n" ++
    codes "10 changes 0 5=a>b:propose\n11 200 6=b>a:reply\n12 heard\n13 changes 0 7=a>b:confirm\n14 200 8=b>a:reply\n15 changes 1\n16 changes 1\n" ++
    codes "a 1007 1017 exclusive 0 running 00010000-0001-8001-8000-000000000000\nb 1007 1017 exclusive 0 running 00010000-0001-8001-8000-000000000000\n"
unfolding is_utf8 chars encode digits uuid_on_literals serde_json_on_literals escape_byte length_of amount_of days_at count_at clock_at seconds_at leading_number begins_as fraction_at length_text_of first_from run_text task_text moment_data second_data moment_text_of day_text_of date_of_day month_after year_after record_length snapshot_length
on_both = refl

-- an order of another kind goes out while a reply is still in flight
abbrev accepted : List ScriptLine
accepted =
    line.Host 0 ∷ line.Host 1 ∷ line.Post 1000 0 (codes "10.0.0.9") body ∷ line.Turn 1001 0 ∷ line.Deliver 1001 1 ∷ line.Deliver 1001 2 ∷ line.Turn 1002 0 ∷ line.Deliver 1003 3 ∷ line.Repeat 1003 3 ∷ line.Deliver 1004 4 ∷ line.Turn 1004 0 ∷ line.Deliver 1004 6 ∷ []

accepting : report_of plain (script two accepted) ≡
    codes "1 ok\n2 ok\n3 200 \"http://a/pscheduler/tasks/00010000-0001-8000-8000-000000000000\"\n4 changes 1 1=a>b:free\n5 200 2=b>a:reply\n6 heard\n7 changes 1 3=a>b:propose\n8 200 4=b>a:reply\n9 200 5=b>a:reply\n" ++
    codes "10 heard\n11 changes 0 6=a>b:confirm\n12 200 7=b>a:reply\na 1007 1017 exclusive 0 on-deck 00010000-0001-8001-8000-000000000000\nb 1007 1017 exclusive 0 on-deck 00010000-0001-8001-8000-000000000000\n"
unfolding is_utf8 chars encode digits uuid_on_literals serde_json_on_literals escape_byte length_of amount_of days_at count_at clock_at seconds_at leading_number begins_as fraction_at length_text_of first_from run_text task_text moment_data second_data moment_text_of day_text_of date_of_day month_after year_after record_length snapshot_length
accepting = refl

-- a participant crashes as it accepts a run: before the run is kept, and behind that
abbrev crashing : List ScriptLine
crashing =
    line.Host 0 ∷ line.Host 1 ∷ line.Post 1000 0 (codes "10.0.0.9") body ∷ line.Turn 1001 0 ∷ line.Deliver 1001 1 ∷ line.Deliver 1001 2 ∷ line.Turn 1002 0 ∷ line.Crash 1003 1 (record { call = 1; image = Old }) ∷ line.Deliver 1003 3 ∷
    line.Turn 1004 0 ∷ line.Crash 1004 1 (record { call = 4; image = New }) ∷ line.Deliver 1004 4 ∷ line.Turn 1005 0 ∷ line.Deliver 1005 5 ∷ line.Deliver 1006 6 ∷ []

crashed : report_of plain (script two crashing) ≡
    codes "1 ok\n2 ok\n3 200 \"http://a/pscheduler/tasks/00010000-0001-8000-8000-000000000000\"\n4 changes 1 1=a>b:free\n5 200 2=b>a:reply\n6 heard\n7 changes 1 3=a>b:propose\n8 armed\n9 crashed\n" ++
    codes "10 changes 0 4=a>b:propose\n11 armed\n12 crashed\n13 changes 0 5=a>b:propose\n14 200 6=b>a:reply\n15 heard\n" ++
    codes "a 1007 1017 exclusive 0 on-deck 00010000-0001-8001-8000-000000000000\nb 1007 1017 exclusive 0 pending 00010000-0001-8001-8000-000000000000\n"
unfolding is_utf8 chars encode digits uuid_on_literals serde_json_on_literals escape_byte length_of amount_of days_at count_at clock_at seconds_at leading_number begins_as fraction_at length_text_of first_from run_text task_text moment_data second_data moment_text_of day_text_of date_of_day month_after year_after record_length snapshot_length
crashed = refl

-- a lost order goes out again while those to another participant and for another run are in flight
abbrev three : List ScriptHost
three = host (codes "a") 1 ∷ host (codes "b") 2 ∷ host (codes "c") 3 ∷ []

abbrev told : List ScriptLine
told =
    line.Host 0 ∷ line.Host 1 ∷ line.Host 2 ∷ line.Post 1000 0 (codes "10.0.0.9") (codes "{\"test\":{\"type\":\"idlemany\",\"spec\":{\"duration\":\"PT10S\",\"hosts\":[\"a\",\"b\",\"c\"]}}}") ∷ line.Post 1000 0 (codes "10.0.0.9") body ∷
    line.Turn 1001 0 ∷ line.Lose 2 ∷ line.Turn 1001 0 ∷ line.Lose 1 ∷ line.Turn 1001 0 ∷ []

telling : report_of plain (script three told) ≡
    codes "1 ok\n2 ok\n3 ok\n4 200 \"http://a/pscheduler/tasks/00010000-0001-8000-8000-000000000000\"\n5 200 \"http://a/pscheduler/tasks/00010000-0002-8000-8000-000000000000\"\n6 changes 2 1=a>b:free 2=a>c:free 3=a>b:free\n7 lost\n" ++
    codes "8 changes 0 4=a>c:free\n9 lost\n10 changes 0 5=a>b:free\na - - exclusive 0 pending 00010000-0001-8001-8000-000000000000\na - - exclusive 0 pending 00010000-0002-8001-8000-000000000000\n"
unfolding is_utf8 chars encode digits uuid_on_literals serde_json_on_literals escape_byte length_of amount_of days_at count_at clock_at seconds_at leading_number begins_as fraction_at length_text_of first_from run_text task_text moment_data second_data moment_text_of day_text_of date_of_day month_after year_after record_length snapshot_length
telling = refl

-- turns while a message is in flight, one that comes again, some that don't come, and a task that is canceled
abbrev path : List ℕ
path = codes "/pscheduler/tasks/00010000-0001-8000-8000-000000000000"

abbrev canceled : List ScriptLine
canceled =
    line.Host 0 ∷ line.Host 1 ∷ line.Post 1000 0 (codes "10.0.0.9") body ∷ line.Turn 1001 0 ∷ line.Turn 1001 0 ∷ line.Deliver 1001 1 ∷ line.Turn 1001 0 ∷ line.Repeat 1002 1 ∷ line.Deliver 1002 1 ∷ line.Lose 3 ∷ line.Repeat 1002 9 ∷ line.Repeat 1002 2 ∷ line.Lose 9 ∷ line.Tools 1 (codes "snooze" ∷ []) ∷ line.Delete 1003 0 (codes "10.0.0.8") path ∷ line.Delete 1003 0 (codes "10.0.0.9") path ∷ line.Deliver 1004 2 ∷ []

canceling : report_of plain (script two canceled) ≡
    codes "1 ok\n2 ok\n3 200 \"http://a/pscheduler/tasks/00010000-0001-8000-8000-000000000000\"\n4 changes 1 1=a>b:free\n5 changes 0\n6 200 2=b>a:reply\n7 changes 0\n8 200 3=b>a:reply\n9 not in flight\n10 lost\n" ++
    codes "11 not in flight\n12 not in flight\n13 not in flight\n14 ok\n15 403 {\"error\":\"not the poster\"}\n16 200 {\"canceled\":true}\n17 heard\na - - exclusive 0 canceled 00010000-0001-8001-8000-000000000000\n"
unfolding is_utf8 chars encode digits uuid_on_literals serde_json_on_literals escape_byte length_of amount_of days_at count_at clock_at seconds_at leading_number begins_as fraction_at length_text_of first_from run_text task_text moment_data second_data moment_text_of day_text_of date_of_day month_after year_after record_length snapshot_length
canceling = refl

-- limits under which nothing is allowed
abbrev deny : LimitsConfig
deny = record open_config { limits = record { name = codes "no"; value = record { rule = PassFail false; invert = false } } ∷ []; text = codes "{}" }

denying : report_of plain (script (host (codes "a") 1 ∷ []) (line.Host 0 ∷ line.Book 0 0 Exclusive (pos 0) 100 10 ∷ line.Limits 0 deny ∷ line.Book 0 0 Exclusive (pos 0) 200 10 ∷ [])) ≡
    codes "1 ok\n2 accepted 00010000-0000-8001-8000-000000010000\n3 ok\n4 denied 1 limits exhausted\na 100 110 exclusive 0 pending 00010000-0000-8001-8000-000000010000\n"
unfolding digits uuid_on_literals escape_byte length_text_of moment_text_of day_text_of date_of_day month_after year_after record_length snapshot_length
denying = refl

-- limits are set at the greatest moment of the lines above, so an earlier start is past
abbrev others : LimitsConfig
others = record open_config { text = codes "{}" }

setting : report_of plain (script (host (codes "a") 1 ∷ []) (line.Host 0 ∷ line.Turn 95 0 ∷ line.Limits 0 others ∷ line.Book 50 0 Exclusive (pos 0) 90 10 ∷ [])) ≡ codes "1 ok\n2 changes 0\n3 ok\n4 denied 2 past\n"
unfolding digits uuid_on_literals escape_byte length_text_of moment_text_of day_text_of date_of_day month_after year_after record_length snapshot_length
setting = refl

-- an archive that fails once, and may not be tried again
abbrev archived : List ScriptLine
archived =
    line.Host 0 ∷ line.Post 1000 0 (codes "10.0.0.9") (codes "{\"archives\":[{\"archiver\":\"failer\",\"data\":{\"fail\":1}}],\"test\":{\"spec\":{\"duration\":\"PT10S\"},\"type\":\"idle\"}}") ∷
    line.Turn 1001 0 ∷ line.Turn 1002 0 ∷ line.Turn 1007 0 ∷ line.Turn 1017 0 ∷ line.Archive 1017 0 ∷ line.Archive 1018 0 ∷ []

archiving : report_of plain (script (host (codes "a") 1 ∷ []) archived) ≡
    codes "1 ok\n2 200 \"http://a/pscheduler/tasks/00010000-0001-8000-8000-000000000000\"\n3 changes 1\n4 changes 1\n5 changes 1\n6 changes 2\n7 given up\n8 nothing due\n" ++
    codes "a 1007 1017 background 0 finished 00010000-0001-8001-8000-000000000000\n"
unfolding is_utf8 chars encode digits uuid_on_literals serde_json_on_literals escape_byte length_of amount_of days_at count_at clock_at seconds_at leading_number begins_as fraction_at length_text_of first_from run_text task_text moment_data second_data moment_text_of day_text_of date_of_day month_after year_after record_length snapshot_length
archiving = refl

-- an archive that fails twice, is tried again as long as it may be, and is seen
abbrev retried : List ScriptLine
retried =
    line.Host 0 ∷ line.Post 1000 0 (codes "10.0.0.9") (codes "{\"archives\":[{\"archiver\":\"failer\",\"data\":{\"fail\":2,\"retry-policy\":[{\"attempts\":2,\"wait\":\"PT1M\"}]}}],\"test\":{\"spec\":{\"duration\":\"PT10S\"},\"type\":\"idle\"}}") ∷
    line.Turn 1001 0 ∷ line.Turn 1002 0 ∷ line.Turn 1007 0 ∷ line.Turn 1017 0 ∷ line.Archive 1017 0 ∷ line.Archive 1076 0 ∷ line.Archive 1077 0 ∷ line.Archive 1137 0 ∷
    line.Get 1137 0 (codes "/pscheduler/tasks/00010000-0001-8000-8000-000000000000/runs/00010000-0001-8001-8000-000000000000") ∷ []

retrying : report_of plain (script (host (codes "a") 1 ∷ []) retried) ≡
    codes "1 ok\n2 200 \"http://a/pscheduler/tasks/00010000-0001-8000-8000-000000000000\"\n3 changes 1\n4 changes 1\n5 changes 1\n6 changes 2\n7 failed again at 1077\n8 nothing due\n9 failed again at 1137\n10 succeeded\n" ++
    codes "11 200 {\"archivings\":[{\"archiver\":\"failer\",\"state\":\"succeeded\",\"tried\":3}],\"end-time\":\"1970-01-01T00:16:57Z\",\"participants\":[\"a\"],\"priority\":0,\"result\":{\"participants\":[{\"host\":\"a\"," ++
    codes "\"result\":{\"duration\":\"PT10S\",\"schema\":1,\"succeeded\":true}}],\"schema\":1,\"succeeded\":true},\"start-time\":\"1970-01-01T00:16:47Z\",\"state\":\"finished\",\"tool\":\"sleep\"}\n" ++
    codes "a 1007 1017 background 0 finished 00010000-0001-8001-8000-000000000000\n"
unfolding is_utf8 chars encode digits uuid_on_literals serde_json_on_literals escape_byte length_of amount_of days_at count_at clock_at seconds_at leading_number begins_as fraction_at length_text_of first_from run_text task_text moment_data second_data moment_text_of day_text_of date_of_day month_after year_after record_length snapshot_length
retrying = refl

-- requests that are refused as they are read
abbrev refused : List ScriptLine
refused =
    line.Host 0 ∷ line.Get 0 0 (codes "/pscheduler/peer/runs/00010000-0001-8001-8000-000000000000/result") ∷ line.Get 0 0 (codes "/pscheduler/clock?x") ∷ line.Get 0 0 (codes "pscheduler") ∷ line.Get 0 0 (codes "/pscheduler/other") ∷
    line.Delete 0 0 (codes "10.0.0.9") (codes "/pscheduler/clock") ∷ line.Post 0 0 (codes "10.0.0.9") (codes "{") ∷ []

refusing : report_of plain (script (host (codes "a") 1 ∷ []) refused) ≡
    codes "1 ok\n2 403 {\"error\":\"no peer key\"}\n3 400 {\"error\":\"query\"}\n4 400 {\"error\":\"bad head\"}\n5 404 {\"error\":\"not found\"}\n6 405 {\"error\":\"method\"}\n7 400 {\"error\":\"syntax\"}\n"
unfolding is_utf8 chars encode digits uuid_on_literals serde_json_on_literals escape_byte length_text_of moment_text_of day_text_of date_of_day month_after year_after record_length snapshot_length
refusing = refl

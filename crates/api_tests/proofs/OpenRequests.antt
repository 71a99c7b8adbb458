-- Requests of everybody, computed: what each asks, or how it is refused.
use Rattle.std.specs.Fmt.{digits}
use Rattle.std.specs.Prelude.{◌∷◌, ◌++◌, ◌≡◌, List, None, Some, [], codes, map}
use Rattle.std.specs.Str.{chars, is_utf8}
use Rattle.std.proofs.Common.{refl}
use lib.Utf8.{encode}
use Rattle.json.specs.Print.{escape_byte}
use Rattle.jiff_core.specs.Calendar.{day_count, days_from_civil, days_of_months, days_of_years}
use Rattle.serde_json.proofs.OnLiterals.{serde_json_on_literals}
use Rattle.uuid.proofs.OnLiterals.{uuid_on_literals}
use Rattle.ps_time.specs.Length.{amount_of, clock_at, count_at, days_at, length_of, length_text_of, seconds_at}
use Rattle.ps_time.specs.Moment.{moment_of, offset_of, stamp_of}
use Rattle.ps_time.specs.Moment.{seconds_at as clock_seconds}
use Rattle.ps_time.specs.Picture.{begins_as, fraction_at, leading_number}
use Rattle.ps_time.specs.Start.{start_of}
use Rattle.api_reply.specs.Shown.{run_text}
use Rattle.api_tests.proofs.Told.{Case, asks, from, told}

abbrev open_requests_cases : List Case
open_requests_cases =
    asks (codes "home") (codes "GET") (codes "/pscheduler") None None [] ∷
    asks (codes "405 GET {\"error\":\"method\"}") (codes "POST") (codes "/pscheduler") None None [] ∷
    asks (codes "405 GET {\"error\":\"method\"}") (codes "PUT") (codes "/pscheduler") None None [] ∷
    asks (codes "405 GET {\"error\":\"method\"}") (codes "DELETE") (codes "/pscheduler") None None [] ∷
    asks (codes "405 GET {\"error\":\"method\"}") (codes "HEAD") (codes "/pscheduler") None None [] ∷
    asks (codes "400 {\"error\":\"query\"}") (codes "GET") (codes "/pscheduler") (Some (codes "x")) None [] ∷
    asks (codes "404 {\"error\":\"not found\"}") (codes "GET") (codes "/pscheduler/") None None [] ∷
    asks (codes "clock") (codes "GET") (codes "/pscheduler/clock") None None [] ∷
    asks (codes "405 GET {\"error\":\"method\"}") (codes "POST") (codes "/pscheduler/clock") None None [] ∷
    asks (codes "405 GET {\"error\":\"method\"}") (codes "PUT") (codes "/pscheduler/clock") None None [] ∷
    asks (codes "405 GET {\"error\":\"method\"}") (codes "DELETE") (codes "/pscheduler/clock") None None [] ∷
    asks (codes "405 GET {\"error\":\"method\"}") (codes "HEAD") (codes "/pscheduler/clock") None None [] ∷
    asks (codes "400 {\"error\":\"query\"}") (codes "GET") (codes "/pscheduler/clock") (Some (codes "x")) None [] ∷
    asks (codes "404 {\"error\":\"not found\"}") (codes "GET") (codes "/pscheduler/clock/") None None [] ∷
    asks (codes "tests") (codes "GET") (codes "/pscheduler/tests") None None [] ∷
    asks (codes "405 GET {\"error\":\"method\"}") (codes "POST") (codes "/pscheduler/tests") None None [] ∷
    asks (codes "405 GET {\"error\":\"method\"}") (codes "PUT") (codes "/pscheduler/tests") None None [] ∷
    asks (codes "405 GET {\"error\":\"method\"}") (codes "DELETE") (codes "/pscheduler/tests") None None [] ∷
    asks (codes "405 GET {\"error\":\"method\"}") (codes "HEAD") (codes "/pscheduler/tests") None None [] ∷
    asks (codes "400 {\"error\":\"query\"}") (codes "GET") (codes "/pscheduler/tests") (Some (codes "x")) None [] ∷
    asks (codes "404 {\"error\":\"not found\"}") (codes "GET") (codes "/pscheduler/tests/") None None [] ∷
    asks (codes "tools") (codes "GET") (codes "/pscheduler/tools") None None [] ∷
    asks (codes "405 GET {\"error\":\"method\"}") (codes "POST") (codes "/pscheduler/tools") None None [] ∷
    asks (codes "405 GET {\"error\":\"method\"}") (codes "PUT") (codes "/pscheduler/tools") None None [] ∷
    asks (codes "405 GET {\"error\":\"method\"}") (codes "DELETE") (codes "/pscheduler/tools") None None [] ∷
    asks (codes "405 GET {\"error\":\"method\"}") (codes "HEAD") (codes "/pscheduler/tools") None None [] ∷
    asks (codes "400 {\"error\":\"query\"}") (codes "GET") (codes "/pscheduler/tools") (Some (codes "x")) None [] ∷
    asks (codes "404 {\"error\":\"not found\"}") (codes "GET") (codes "/pscheduler/tools/") None None [] ∷
    asks (codes "archivers") (codes "GET") (codes "/pscheduler/archivers") None None [] ∷
    asks (codes "405 GET {\"error\":\"method\"}") (codes "POST") (codes "/pscheduler/archivers") None None [] ∷
    asks (codes "405 GET {\"error\":\"method\"}") (codes "PUT") (codes "/pscheduler/archivers") None None [] ∷
    asks (codes "405 GET {\"error\":\"method\"}") (codes "DELETE") (codes "/pscheduler/archivers") None None [] ∷
    asks (codes "405 GET {\"error\":\"method\"}") (codes "HEAD") (codes "/pscheduler/archivers") None None [] ∷
    asks (codes "400 {\"error\":\"query\"}") (codes "GET") (codes "/pscheduler/archivers") (Some (codes "x")) None [] ∷
    asks (codes "404 {\"error\":\"not found\"}") (codes "GET") (codes "/pscheduler/archivers/") None None [] ∷
    asks (codes "test idle") (codes "GET") (codes "/pscheduler/tests/idle") None None [] ∷
    asks (codes "405 GET {\"error\":\"method\"}") (codes "POST") (codes "/pscheduler/tests/idle") None None [] ∷
    asks (codes "405 GET {\"error\":\"method\"}") (codes "PUT") (codes "/pscheduler/tests/idle") None None [] ∷
    asks (codes "405 GET {\"error\":\"method\"}") (codes "DELETE") (codes "/pscheduler/tests/idle") None None [] ∷
    asks (codes "405 GET {\"error\":\"method\"}") (codes "HEAD") (codes "/pscheduler/tests/idle") None None [] ∷
    asks (codes "400 {\"error\":\"query\"}") (codes "GET") (codes "/pscheduler/tests/idle") (Some (codes "x")) None [] ∷
    asks (codes "404 {\"error\":\"not found\"}") (codes "GET") (codes "/pscheduler/tests/idle/") None None [] ∷
    asks (codes "tasks") (codes "GET") (codes "/pscheduler/tasks") None None [] ∷
    asks (codes "post of a by 10.0.0.9 with 0 tools") (codes "POST") (codes "/pscheduler/tasks") None None (codes "{\"test\":{\"spec\":{\"duration\":\"PT10S\"},\"type\":\"idle\"}}") ∷
    asks (codes "405 GET, POST {\"error\":\"method\"}") (codes "PUT") (codes "/pscheduler/tasks") None None [] ∷
    asks (codes "405 GET, POST {\"error\":\"method\"}") (codes "DELETE") (codes "/pscheduler/tasks") None None [] ∷
    asks (codes "405 GET, POST {\"error\":\"method\"}") (codes "HEAD") (codes "/pscheduler/tasks") None None [] ∷
    asks (codes "400 {\"error\":\"query\"}") (codes "GET") (codes "/pscheduler/tasks") (Some (codes "x")) None [] ∷
    asks (codes "404 {\"error\":\"not found\"}") (codes "GET") (codes "/pscheduler/tasks/") None None [] ∷
    asks (codes "task 1") (codes "GET") (codes "/pscheduler/tasks/00010000-0001-8000-8000-000000000000") None None [] ∷
    asks (codes "405 GET, DELETE {\"error\":\"method\"}") (codes "POST") (codes "/pscheduler/tasks/00010000-0001-8000-8000-000000000000") None None [] ∷
    asks (codes "405 GET, DELETE {\"error\":\"method\"}") (codes "PUT") (codes "/pscheduler/tasks/00010000-0001-8000-8000-000000000000") None None [] ∷
    asks (codes "cancel 1 by 10.0.0.9") (codes "DELETE") (codes "/pscheduler/tasks/00010000-0001-8000-8000-000000000000") None None [] ∷
    asks (codes "405 GET, DELETE {\"error\":\"method\"}") (codes "HEAD") (codes "/pscheduler/tasks/00010000-0001-8000-8000-000000000000") None None [] ∷
    asks (codes "400 {\"error\":\"query\"}") (codes "GET") (codes "/pscheduler/tasks/00010000-0001-8000-8000-000000000000") (Some (codes "x")) None [] ∷
    asks (codes "404 {\"error\":\"not found\"}") (codes "GET") (codes "/pscheduler/tasks/00010000-0001-8000-8000-000000000000/") None None [] ∷
    asks (codes "runs 1") (codes "GET") (codes "/pscheduler/tasks/00010000-0001-8000-8000-000000000000/runs") None None [] ∷
    asks (codes "405 GET {\"error\":\"method\"}") (codes "POST") (codes "/pscheduler/tasks/00010000-0001-8000-8000-000000000000/runs") None None [] ∷
    asks (codes "405 GET {\"error\":\"method\"}") (codes "PUT") (codes "/pscheduler/tasks/00010000-0001-8000-8000-000000000000/runs") None None [] ∷
    asks (codes "405 GET {\"error\":\"method\"}") (codes "DELETE") (codes "/pscheduler/tasks/00010000-0001-8000-8000-000000000000/runs") None None [] ∷
    asks (codes "405 GET {\"error\":\"method\"}") (codes "HEAD") (codes "/pscheduler/tasks/00010000-0001-8000-8000-000000000000/runs") None None [] ∷
    asks (codes "400 {\"error\":\"query\"}") (codes "GET") (codes "/pscheduler/tasks/00010000-0001-8000-8000-000000000000/runs") (Some (codes "x")) None [] ∷
    asks (codes "404 {\"error\":\"not found\"}") (codes "GET") (codes "/pscheduler/tasks/00010000-0001-8000-8000-000000000000/runs/") None None [] ∷
    asks (codes "run 00010000-0001-8001-8000-000000000000") (codes "GET") (codes "/pscheduler/tasks/00010000-0001-8000-8000-000000000000/runs/00010000-0001-8001-8000-000000000000") None None [] ∷
    asks (codes "405 GET {\"error\":\"method\"}") (codes "POST") (codes "/pscheduler/tasks/00010000-0001-8000-8000-000000000000/runs/00010000-0001-8001-8000-000000000000") None None [] ∷
    asks (codes "405 GET {\"error\":\"method\"}") (codes "PUT") (codes "/pscheduler/tasks/00010000-0001-8000-8000-000000000000/runs/00010000-0001-8001-8000-000000000000") None None [] ∷
    asks (codes "405 GET {\"error\":\"method\"}") (codes "DELETE") (codes "/pscheduler/tasks/00010000-0001-8000-8000-000000000000/runs/00010000-0001-8001-8000-000000000000") None None [] ∷
    asks (codes "405 GET {\"error\":\"method\"}") (codes "HEAD") (codes "/pscheduler/tasks/00010000-0001-8000-8000-000000000000/runs/00010000-0001-8001-8000-000000000000") None None [] ∷
    asks (codes "400 {\"error\":\"query\"}") (codes "GET") (codes "/pscheduler/tasks/00010000-0001-8000-8000-000000000000/runs/00010000-0001-8001-8000-000000000000") (Some (codes "x")) None [] ∷
    asks (codes "404 {\"error\":\"not found\"}") (codes "GET") (codes "/pscheduler/tasks/00010000-0001-8000-8000-000000000000/runs/00010000-0001-8001-8000-000000000000/") None None [] ∷
    asks (codes "schedule 1000 87400") (codes "GET") (codes "/pscheduler/schedule") None None [] ∷
    asks (codes "405 GET {\"error\":\"method\"}") (codes "POST") (codes "/pscheduler/schedule") None None [] ∷
    asks (codes "405 GET {\"error\":\"method\"}") (codes "PUT") (codes "/pscheduler/schedule") None None [] ∷
    asks (codes "405 GET {\"error\":\"method\"}") (codes "DELETE") (codes "/pscheduler/schedule") None None [] ∷
    asks (codes "405 GET {\"error\":\"method\"}") (codes "HEAD") (codes "/pscheduler/schedule") None None [] ∷
    asks (codes "404 {\"error\":\"not found\"}") (codes "GET") (codes "/pscheduler/schedule/") None None [] ∷
    asks (codes "405 GET {\"error\":\"method\"}") (codes "get") (codes "/pscheduler/clock") None None [] ∷
    asks (codes "405 GET {\"error\":\"method\"}") (codes "Get") (codes "/pscheduler/clock") None None [] ∷
    asks (codes "405 GET {\"error\":\"method\"}") (codes "PATCH") (codes "/pscheduler/clock") None None [] ∷
    asks (codes "405 GET {\"error\":\"method\"}") (codes "OPTIONS") (codes "/pscheduler/clock") None None [] ∷
    asks (codes "405 GET {\"error\":\"method\"}") (codes "GETS") (codes "/pscheduler/clock") None None [] ∷
    asks (codes "400 {\"error\":\"query\"}") (codes "GET") (codes "/pscheduler/clock") (Some []) None [] ∷
    asks (codes "400 {\"error\":\"query\"}") (codes "POST") (codes "/pscheduler/tasks") (Some (codes "dry=1")) None (codes "{\"test\":{\"spec\":{\"duration\":\"PT10S\"},\"type\":\"idle\"}}") ∷
    asks (codes "400 {\"error\":\"query\"}") (codes "DELETE") (codes "/pscheduler/tasks/00010000-0001-8000-8000-000000000000") (Some (codes "x")) None [] ∷
    asks (codes "404 {\"error\":\"not found\"}") (codes "GET") (codes "/pscheduler/clocks") (Some (codes "x")) None [] ∷
    asks (codes "404 {\"error\":\"not found\"}") (codes "PUT") (codes "/pscheduler/nothing") None None [] ∷
    asks (codes "405 GET {\"error\":\"method\"}") (codes "PUT") (codes "/pscheduler/clock") (Some (codes "x")) None [] ∷
    asks (codes "schedule 1000 87400") (codes "GET") (codes "/pscheduler/schedule") (Some []) None [] ∷
    asks (codes "schedule 2000 88400") (codes "GET") (codes "/pscheduler/schedule") (Some (codes "start=1970-01-01T00:33:20Z")) None [] ∷
    asks (codes "schedule 1000 2000") (codes "GET") (codes "/pscheduler/schedule") (Some (codes "end=1970-01-01T00:33:20Z")) None [] ∷
    asks (codes "schedule 2000 2001") (codes "GET") (codes "/pscheduler/schedule") (Some (codes "start=1970-01-01T00:33:20Z&end=1970-01-01T00:33:21Z")) None [] ∷
    asks (codes "400 {\"error\":\"query\"}") (codes "GET") (codes "/pscheduler/schedule") (Some (codes "start=1970-01-01T00:33:20Z&end=1970-01-01T00:33:20Z")) None [] ∷
    asks (codes "400 {\"error\":\"query\"}") (codes "GET") (codes "/pscheduler/schedule") (Some (codes "start=1970-01-01T00:33:20Z&end=1970-01-01T00:33:19Z")) None [] ∷
    asks (codes "400 {\"error\":\"query\"}") (codes "GET") (codes "/pscheduler/schedule") (Some (codes "end=1970-01-01T00:16:40Z")) None [] ∷
    asks (codes "schedule 1000 1001") (codes "GET") (codes "/pscheduler/schedule") (Some (codes "end=1970-01-01T00:16:41Z")) None [] ∷
    asks (codes "400 {\"error\":\"query\"}") (codes "GET") (codes "/pscheduler/schedule") (Some (codes "end=1970-01-01T00:16:39Z")) None [] ∷
    asks (codes "400 {\"error\":\"query\"}") (codes "GET") (codes "/pscheduler/schedule") (Some (codes "end=1970-01-01T00:33:20Z&start=1970-01-01T00:16:40Z")) None [] ∷
    asks (codes "400 {\"error\":\"query\"}") (codes "GET") (codes "/pscheduler/schedule") (Some (codes "start=")) None [] ∷
    asks (codes "400 {\"error\":\"query\"}") (codes "GET") (codes "/pscheduler/schedule") (Some (codes "start=1000")) None [] ∷
    asks (codes "400 {\"error\":\"query\"}") (codes "GET") (codes "/pscheduler/schedule") (Some (codes "start")) None [] ∷
    asks (codes "400 {\"error\":\"query\"}") (codes "GET") (codes "/pscheduler/schedule") (Some (codes "x=1")) None [] ∷
    asks (codes "400 {\"error\":\"query\"}") (codes "GET") (codes "/pscheduler/schedule") (Some (codes "start=1970-01-01T00:33:20Z&")) None [] ∷
    asks (codes "400 {\"error\":\"query\"}") (codes "GET") (codes "/pscheduler/schedule") (Some (codes "start=1970-01-01T00:33:20Z&x=1")) None [] ∷
    asks (codes "400 {\"error\":\"query\"}") (codes "GET") (codes "/pscheduler/schedule") (Some (codes "&start=1970-01-01T00:33:20Z")) None [] ∷
    asks (codes "400 {\"error\":\"query\"}") (codes "GET") (codes "/pscheduler/schedule") (Some (codes "start=1970-01-01T00:33:20Z&end=1970-01-01T00:33:21Z&x=1")) None [] ∷
    asks (codes "400 {\"error\":\"query\"}") (codes "GET") (codes "/pscheduler/schedule") (Some (codes "start==1970-01-01T00:33:20Z")) None [] ∷
    asks (codes "400 {\"error\":\"query\"}") (codes "GET") (codes "/pscheduler/schedule") (Some (codes "Start=1970-01-01T00:33:20Z")) None [] ∷
    asks (codes "schedule 2001 88401") (codes "GET") (codes "/pscheduler/schedule") (Some (codes "start=1970-01-01T00:33:20.5Z")) None [] ∷
    asks (codes "schedule 2000 88400") (codes "GET") (codes "/pscheduler/schedule") (Some (codes "start=1970-01-01T00:33:20")) None [] ∷
    asks (codes "400 {\"error\":\"query\"}") (codes "GET") (codes "/pscheduler/schedule") (Some (codes "start=1970-01-01T00:33:20%5A")) None [] ∷
    asks (codes "400 {\"error\":\"query\"}") (codes "GET") (codes "/pscheduler/schedule") (Some (codes "start=1970-01-01T00:33:20Z?")) None [] ∷
    asks (codes "schedule 1000 4102444800") (codes "GET") (codes "/pscheduler/schedule") (Some (codes "end=2100-01-01T00:00:00Z")) None [] ∷
    asks (codes "400 {\"error\":\"query\"}") (codes "GET") (codes "/pscheduler/schedule") (Some (codes "end=2100-01-01T00:00:01Z")) None [] ∷
    asks (codes "schedule 4102444800 4102531200") (codes "GET") (codes "/pscheduler/schedule") (Some (codes "start=2100-01-01T00:00:00Z")) None [] ∷
    asks (codes "400 {\"error\":\"query\"}") (codes "GET") (codes "/pscheduler/schedule") (Some (codes "start=1969-12-31T23:59:59Z")) None [] ∷
    asks (codes "400 {\"error\":\"query\"}") (codes "GET") (codes "/pscheduler/schedule") (Some (codes "start=1970-01-01T00:33:20Z&start=1970-01-01T00:33:20Z")) None [] ∷
    asks (codes "404 {\"error\":\"not found\"}") (codes "GET") (codes "/") None None [] ∷
    asks (codes "404 {\"error\":\"not found\"}") (codes "GET") (codes "/pschedule") None None [] ∷
    asks (codes "404 {\"error\":\"not found\"}") (codes "GET") (codes "/Pscheduler") None None [] ∷
    asks (codes "404 {\"error\":\"not found\"}") (codes "GET") (codes "//pscheduler") None None [] ∷
    asks (codes "404 {\"error\":\"not found\"}") (codes "GET") (codes "/pscheduler//clock") None None [] ∷
    asks (codes "404 {\"error\":\"not found\"}") (codes "GET") (codes "/pscheduler/clock/now") None None [] ∷
    asks (codes "404 {\"error\":\"not found\"}") (codes "GET") (codes "/pscheduler/%63lock") None None [] ∷
    asks (codes "404 {\"error\":\"not found\"}") (codes "GET") (codes "/pscheduler/tests/idle/x") None None [] ∷
    asks (codes "404 {\"error\":\"not found\"}") (codes "GET") (codes "/pscheduler/schedule/x") None None [] ∷
    asks (codes "404 {\"error\":\"not found\"}") (codes "GET") (codes "/pscheduler/peer") None None [] ∷
    asks (codes "404 {\"error\":\"not found\"}") (codes "GET") (codes "/pscheduler/peer/") None None [] ∷
    asks (codes "404 {\"error\":\"not found\"}") (codes "GET") (codes "/pscheduler/cl" ++ (195 ∷ 182 ∷ []) ++ codes "ck") None None [] ∷
    asks (codes "404 {\"error\":\"not found\"}") (codes "GET") (codes "/pscheduler/tests/idl" ++ (195 ∷ 169 ∷ [])) None None [] ∷
    asks (codes "404 {\"error\":\"not found\"}") (codes "GET") (codes "pscheduler") None None [] ∷
    asks (codes "404 {\"error\":\"not found\"}") (codes "GET") (codes "/x/pscheduler/clock") None None [] ∷
    asks (codes "404 {\"error\":\"not found\"}") (codes "GET") (codes "/pscheduler/tasks//runs") None None [] ∷
    asks (codes "404 {\"error\":\"not found\"}") (codes "GET") (codes "/pscheduler/tasks/x") None None [] ∷
    asks (codes "404 {\"error\":\"not found\"}") (codes "GET") (codes "/pscheduler/tasks/x/runs") None None [] ∷
    asks (codes "404 {\"error\":\"not found\"}") (codes "GET") (codes "/pscheduler/tasks/00010000-0001-8000-8000-000000000000/run") None None [] ∷
    asks (codes "404 {\"error\":\"not found\"}") (codes "GET") (codes "/pscheduler/tasks/00010000-0001-8000-8000-000000000000/runs/x") None None [] ∷
    asks (codes "404 {\"error\":\"not found\"}") (codes "GET") (codes "/pscheduler/tasks/00010000-0001-8001-8000-000000000000") None None [] ∷
    asks (codes "404 {\"error\":\"not found\"}") (codes "GET") (codes "/pscheduler/tasks/00010000-0001-8001-8000-000000000000/runs") None None [] ∷
    asks (codes "404 {\"error\":\"not found\"}") (codes "GET") (codes "/pscheduler/tasks/00010000-0001-8000-8000-000000000000/runs/00010000-0001-8000-8000-000000000000") None None [] ∷
    asks (codes "404 {\"error\":\"not found\"}") (codes "GET") (codes "/pscheduler/tasks/00010000-0001-8001-8000-000000000000/runs/00010000-0001-8001-8000-000000000000") None None [] ∷
    asks (codes "404 {\"error\":\"not found\"}") (codes "GET") (codes "/pscheduler/tasks/00020000-0003-8000-8000-000000000000") None None [] ∷
    asks (codes "404 {\"error\":\"not found\"}") (codes "GET") (codes "/pscheduler/tasks/00020000-0003-8000-8000-000000000000/runs") None None [] ∷
    asks (codes "404 {\"error\":\"not found\"}") (codes "GET") (codes "/pscheduler/tasks/00010000-0001-8000-8000-000000000000/runs/00020000-0003-8001-8000-000000040005") None None [] ∷
    asks (codes "404 {\"error\":\"not found\"}") (codes "GET") (codes "/pscheduler/tasks/00020000-0003-8000-8000-000000000000/runs/00010000-0001-8001-8000-000000000000") None None [] ∷
    asks (codes "404 {\"error\":\"not found\"}") (codes "GET") (codes "/pscheduler/tasks/00010000-0002-8000-8000-000000000000/runs/00010000-0001-8001-8000-000000000000") None None [] ∷
    asks (codes "404 {\"error\":\"not found\"}") (codes "GET") (codes "/pscheduler/tasks/00010000-0001-8000-8000-00000000000") None None [] ∷
    asks (codes "404 {\"error\":\"not found\"}") (codes "GET") (codes "/pscheduler/tasks/00010000-0001-8000-8000-0000000000000") None None [] ∷
    asks (codes "404 {\"error\":\"not found\"}") (codes "GET") (codes "/pscheduler/tasks/00010000-0001-4000-8000-000000000000") None None [] ∷
    asks (codes "404 {\"error\":\"not found\"}") (codes "GET") (codes "/pscheduler/tasks/00010000-0001-8000-c000-000000000000") None None [] ∷
    asks (codes "404 {\"error\":\"not found\"}") (codes "GET") (codes "/pscheduler/tasks/00010000-0001-8000-8000-000000000001") None None [] ∷
    asks (codes "404 {\"error\":\"not found\"}") (codes "GET") (codes "/pscheduler/tasks/00010000-0001-8002-8000-000000000000") None None [] ∷
    asks (codes "404 {\"error\":\"not found\"}") (codes "DELETE") (codes "/pscheduler/tasks/00020000-0003-8000-8000-000000000000") None None [] ∷
    asks (codes "404 {\"error\":\"not found\"}") (codes "PUT") (codes "/pscheduler/tasks/00020000-0003-8000-8000-000000000000") None None [] ∷
    asks (codes "404 {\"error\":\"not found\"}") (codes "DELETE") (codes "/pscheduler/tasks/00010000-0001-8001-8000-000000000000") None None [] ∷
    asks (codes "test nonesuch") (codes "GET") (codes "/pscheduler/tests/nonesuch") None None [] ∷
    asks (codes "test peer") (codes "GET") (codes "/pscheduler/tests/peer") None None [] ∷
    asks (codes "run 00020000-0003-8001-8000-000000040005") (codes "GET") (codes "/pscheduler/tasks/00020000-0003-8000-8000-000000000000/runs/00020000-0003-8001-8000-000000040005") None None [] ∷
    asks (codes "task 1") (codes "GET") (codes "/pscheduler/tasks/00010000000180008000000000000000") None None [] ∷
    asks (codes "task 1") (codes "GET") (codes "/pscheduler/tasks/{00010000-0001-8000-8000-000000000000}") None None [] ∷
    asks (codes "task 1") (codes "GET") (codes "/pscheduler/tasks/urn:uuid:00010000-0001-8000-8000-000000000000") None None [] ∷
    asks (codes "run 00010000-000a-8001-8000-00000000000b") (codes "GET") (codes "/pscheduler/tasks/00010000-000A-8000-8000-000000000000/runs/00010000-000A-8001-8000-00000000000B") None None [] ∷
    asks (codes "clock") (codes "GET") (codes "/pscheduler/clock") None (from 2 (codes "secret")) [] ∷
    asks (codes "clock") (codes "GET") (codes "/pscheduler/clock") None (from 2 (codes "wrong")) [] ∷
    asks (codes "400 {\"error\":\"syntax\"}") (codes "POST") (codes "/pscheduler/tasks") None None (codes "{") ∷
    asks (codes "400 {\"error\":\"syntax\"}") (codes "POST") (codes "/pscheduler/tasks") None None (codes "{}{}") ∷
    asks (codes "400 {\"error\":\"missing\",\"member\":\"test\"}") (codes "POST") (codes "/pscheduler/tasks") None None (codes "{}") ∷
    asks (codes "400 {\"error\":\"wrong kind\",\"member\":\"test\"}") (codes "POST") (codes "/pscheduler/tasks") None None (codes "{\"test\":1}") ∷
    asks (codes "400 {\"error\":\"unknown test\",\"name\":\"trace\"}") (codes "POST") (codes "/pscheduler/tasks") None None (codes "{\"test\":{\"spec\":{},\"type\":\"trace\"}}") ∷
    asks (codes "400 {\"error\":\"missing\",\"member\":\"spec\"}") (codes "POST") (codes "/pscheduler/tasks") None None (codes "{\"test\":{\"type\":\"idle\"}}") ∷
    asks (codes "400 {\"error\":\"missing\",\"member\":\"type\"}") (codes "POST") (codes "/pscheduler/tasks") None None (codes "{\"test\":{\"spec\":{\"duration\":\"PT10S\"}}}") ∷
    asks (codes "400 {\"error\":\"bad time\",\"member\":\"duration\"}") (codes "POST") (codes "/pscheduler/tasks") None None (codes "{\"test\":{\"spec\":{\"duration\":\"10\"},\"type\":\"idle\"}}") ∷
    asks (codes "400 {\"error\":\"missing\",\"member\":\"duration\"}") (codes "POST") (codes "/pscheduler/tasks") None None (codes "{\"test\":{\"spec\":{},\"type\":\"idle\"}}") ∷
    asks (codes "400 {\"error\":\"unknown\",\"member\":\"x\"}") (codes "POST") (codes "/pscheduler/tasks") None None (codes "{\"test\":{\"spec\":{\"duration\":\"PT10S\"},\"type\":\"idle\"},\"x\":1}") ∷
    asks (codes "post of a by 10.0.0.9 with 0 tools") (codes "POST") (codes "/pscheduler/tasks") None None (codes "{\"test\":{\"spec\":{\"duration\":\"PT10S\"},\"type\":\"idle\"},\"#x\":1}") ∷
    asks (codes "400 {\"error\":\"bad priority\"}") (codes "POST") (codes "/pscheduler/tasks") None None (codes "{\"test\":{\"spec\":{\"duration\":\"PT10S\"},\"type\":\"idle\"},\"priority\":1001}") ∷
    asks (codes "400 {\"error\":\"bad priority\"}") (codes "POST") (codes "/pscheduler/tasks") None None (codes "{\"test\":{\"spec\":{\"duration\":\"PT10S\"},\"type\":\"idle\"},\"priority\":\"1\"}") ∷
    asks (codes "400 {\"error\":\"unknown tool\",\"name\":\"hammer\"}") (codes "POST") (codes "/pscheduler/tasks") None None (codes "{\"test\":{\"spec\":{\"duration\":\"PT10S\"},\"type\":\"idle\"},\"tools\":[\"hammer\"]}") ∷
    asks (codes "post of a by 10.0.0.9 with 1 tools") (codes "POST") (codes "/pscheduler/tasks") None None (codes "{\"test\":{\"spec\":{\"duration\":\"PT10S\"},\"type\":\"idle\"},\"tools\":[\"sleep\"]}") ∷
    asks (codes "400 {\"error\":\"unknown archiver\",\"name\":\"shelf\"}") (codes "POST") (codes "/pscheduler/tasks") None None (codes "{\"test\":{\"spec\":{\"duration\":\"PT10S\"},\"type\":\"idle\"},\"archives\":[{\"archiver\":\"shelf\"}]}") ∷
    asks (codes "400 {\"error\":\"wrong kind\",\"member\":\"archives\"}") (codes "POST") (codes "/pscheduler/tasks") None None (codes "{\"test\":{\"spec\":{\"duration\":\"PT10S\"},\"type\":\"idle\"},\"archives\":1}") ∷
    asks (codes "400 {\"error\":\"wrong kind\",\"member\":\"schedule\"}") (codes "POST") (codes "/pscheduler/tasks") None None (codes "{\"test\":{\"spec\":{\"duration\":\"PT10S\"},\"type\":\"idle\"},\"schedule\":1}") ∷
    asks (codes "400 {\"error\":\"bad time\",\"member\":\"repeat\"}") (codes "POST") (codes "/pscheduler/tasks") None None (codes "{\"test\":{\"spec\":{\"duration\":\"PT10S\"},\"type\":\"idle\"},\"schedule\":{\"repeat\":\"x\"}}") ∷
    []

open_requests : map told open_requests_cases ≡ map (λ c. c.want) open_requests_cases
unfolding is_utf8 chars encode digits uuid_on_literals serde_json_on_literals escape_byte length_of amount_of days_at count_at clock_at seconds_at leading_number begins_as fraction_at length_text_of moment_of offset_of stamp_of clock_seconds start_of day_count days_from_civil days_of_months days_of_years run_text
open_requests = refl

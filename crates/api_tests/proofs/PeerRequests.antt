-- Requests of peers, computed: what each asks, or how it is refused.
use Rattle.std.specs.Fmt.{digits}
use Rattle.std.specs.Prelude.{◌∷◌, ◌≡◌, List, None, Some, [], codes, map}
use Rattle.std.specs.Str.{chars, is_utf8}
use Rattle.std.proofs.Common.{refl}
use lib.Utf8.{encode}
use Rattle.json.specs.Print.{escape_byte}
use Rattle.jiff_core.specs.Calendar.{day_count, days_from_civil, days_of_months, days_of_years}
use Rattle.serde_json.proofs.OnLiterals.{serde_json_on_literals}
use Rattle.uuid.proofs.OnLiterals.{uuid_on_literals}
use Rattle.ps_time.specs.Length.{amount_of, clock_at, count_at, days_at, length_of, length_text_of, seconds_at}
use Rattle.ps_time.specs.Moment.{moment_of, offset_of, stamp_of}
use Rattle.ps_time.specs.Moment.{seconds_at as clock_seconds}
use Rattle.ps_time.specs.Picture.{begins_as, fraction_at, leading_number}
use Rattle.ps_time.specs.Start.{start_of}
use Rattle.api_reply.specs.Shown.{run_text}
use Rattle.api_tests.proofs.Told.{Case, asks, from, told}

abbrev peer_requests_cases : List Case
peer_requests_cases =
    asks (codes "405 POST {\"error\":\"method\"}") (codes "GET") (codes "/pscheduler/peer/free") None (from 2 (codes "secret")) [] ∷
    asks (codes "free of 2 for 00020000-0003-8001-8000-000000040005 from 1000 to 2000 at 0") (codes "POST") (codes "/pscheduler/peer/free") None (from 2 (codes "secret")) (codes "{\"first\":1000,\"key\":\"00020000-0003-8001-8000-000000040005\",\"last\":2000,\"priority\":0,\"test\":{\"spec\":{\"duration\":\"PT10S\"},\"type\":\"idle\"}}") ∷
    asks (codes "405 POST {\"error\":\"method\"}") (codes "PUT") (codes "/pscheduler/peer/free") None (from 2 (codes "secret")) [] ∷
    asks (codes "405 POST {\"error\":\"method\"}") (codes "DELETE") (codes "/pscheduler/peer/free") None (from 2 (codes "secret")) [] ∷
    asks (codes "405 POST {\"error\":\"method\"}") (codes "PATCH") (codes "/pscheduler/peer/free") None None [] ∷
    asks (codes "400 {\"error\":\"query\"}") (codes "POST") (codes "/pscheduler/peer/free") (Some (codes "x")) (from 2 (codes "secret")) (codes "{\"first\":1000,\"key\":\"00020000-0003-8001-8000-000000040005\",\"last\":2000,\"priority\":0,\"test\":{\"spec\":{\"duration\":\"PT10S\"},\"type\":\"idle\"}}") ∷
    asks (codes "403 {\"error\":\"no peer key\"}") (codes "POST") (codes "/pscheduler/peer/free") None None (codes "{\"first\":1000,\"key\":\"00020000-0003-8001-8000-000000040005\",\"last\":2000,\"priority\":0,\"test\":{\"spec\":{\"duration\":\"PT10S\"},\"type\":\"idle\"}}") ∷
    asks (codes "403 {\"error\":\"no peer key\"}") (codes "POST") (codes "/pscheduler/peer/free") (Some (codes "x")) None (codes "{\"first\":1000,\"key\":\"00020000-0003-8001-8000-000000040005\",\"last\":2000,\"priority\":0,\"test\":{\"spec\":{\"duration\":\"PT10S\"},\"type\":\"idle\"}}") ∷
    asks (codes "403 {\"error\":\"no peer key\"}") (codes "POST") (codes "/pscheduler/peer/free") None (from 2 (codes "Secret")) (codes "{\"first\":1000,\"key\":\"00020000-0003-8001-8000-000000040005\",\"last\":2000,\"priority\":0,\"test\":{\"spec\":{\"duration\":\"PT10S\"},\"type\":\"idle\"}}") ∷
    asks (codes "403 {\"error\":\"no peer key\"}") (codes "POST") (codes "/pscheduler/peer/free") None (from 3 (codes "secret")) (codes "{\"first\":1000,\"key\":\"00020000-0003-8001-8000-000000040005\",\"last\":2000,\"priority\":0,\"test\":{\"spec\":{\"duration\":\"PT10S\"},\"type\":\"idle\"}}") ∷
    asks (codes "403 {\"error\":\"no peer key\"}") (codes "POST") (codes "/pscheduler/peer/free") None (from 1 (codes "secret")) (codes "{\"first\":1000,\"key\":\"00020000-0003-8001-8000-000000040005\",\"last\":2000,\"priority\":0,\"test\":{\"spec\":{\"duration\":\"PT10S\"},\"type\":\"idle\"}}") ∷
    asks (codes "403 {\"error\":\"no peer key\"}") (codes "POST") (codes "/pscheduler/peer/free") None (from 9 (codes "secret")) (codes "{\"first\":1000,\"key\":\"00020000-0003-8001-8000-000000040005\",\"last\":2000,\"priority\":0,\"test\":{\"spec\":{\"duration\":\"PT10S\"},\"type\":\"idle\"}}") ∷
    asks (codes "404 {\"error\":\"not found\"}") (codes "POST") (codes "/pscheduler/peer/free/") None (from 2 (codes "secret")) (codes "{\"first\":1000,\"key\":\"00020000-0003-8001-8000-000000040005\",\"last\":2000,\"priority\":0,\"test\":{\"spec\":{\"duration\":\"PT10S\"},\"type\":\"idle\"}}") ∷
    asks (codes "405 POST {\"error\":\"method\"}") (codes "GET") (codes "/pscheduler/peer/runs") None (from 2 (codes "secret")) [] ∷
    asks (codes "propose of 2 of 00020000-0003-8001-8000-000000040005 at 1007 by 10.0.0.9 from b with sleep at 0") (codes "POST") (codes "/pscheduler/peer/runs") None (from 2 (codes "secret")) (codes "{\"key\":\"00020000-0003-8001-8000-000000040005\",\"priority\":0,\"requester\":\"10.0.0.9\",\"start\":1007,\"test\":{\"spec\":{\"duration\":\"PT10S\"},\"type\":\"idle\"},\"tool\":\"sleep\"}") ∷
    asks (codes "405 POST {\"error\":\"method\"}") (codes "PUT") (codes "/pscheduler/peer/runs") None (from 2 (codes "secret")) [] ∷
    asks (codes "405 POST {\"error\":\"method\"}") (codes "DELETE") (codes "/pscheduler/peer/runs") None (from 2 (codes "secret")) [] ∷
    asks (codes "405 POST {\"error\":\"method\"}") (codes "PATCH") (codes "/pscheduler/peer/runs") None None [] ∷
    asks (codes "400 {\"error\":\"query\"}") (codes "POST") (codes "/pscheduler/peer/runs") (Some (codes "x")) (from 2 (codes "secret")) (codes "{\"key\":\"00020000-0003-8001-8000-000000040005\",\"priority\":0,\"requester\":\"10.0.0.9\",\"start\":1007,\"test\":{\"spec\":{\"duration\":\"PT10S\"},\"type\":\"idle\"},\"tool\":\"sleep\"}") ∷
    asks (codes "403 {\"error\":\"no peer key\"}") (codes "POST") (codes "/pscheduler/peer/runs") None None (codes "{\"key\":\"00020000-0003-8001-8000-000000040005\",\"priority\":0,\"requester\":\"10.0.0.9\",\"start\":1007,\"test\":{\"spec\":{\"duration\":\"PT10S\"},\"type\":\"idle\"},\"tool\":\"sleep\"}") ∷
    asks (codes "403 {\"error\":\"no peer key\"}") (codes "POST") (codes "/pscheduler/peer/runs") (Some (codes "x")) None (codes "{\"key\":\"00020000-0003-8001-8000-000000040005\",\"priority\":0,\"requester\":\"10.0.0.9\",\"start\":1007,\"test\":{\"spec\":{\"duration\":\"PT10S\"},\"type\":\"idle\"},\"tool\":\"sleep\"}") ∷
    asks (codes "403 {\"error\":\"no peer key\"}") (codes "POST") (codes "/pscheduler/peer/runs") None (from 2 (codes "Secret")) (codes "{\"key\":\"00020000-0003-8001-8000-000000040005\",\"priority\":0,\"requester\":\"10.0.0.9\",\"start\":1007,\"test\":{\"spec\":{\"duration\":\"PT10S\"},\"type\":\"idle\"},\"tool\":\"sleep\"}") ∷
    asks (codes "403 {\"error\":\"no peer key\"}") (codes "POST") (codes "/pscheduler/peer/runs") None (from 3 (codes "secret")) (codes "{\"key\":\"00020000-0003-8001-8000-000000040005\",\"priority\":0,\"requester\":\"10.0.0.9\",\"start\":1007,\"test\":{\"spec\":{\"duration\":\"PT10S\"},\"type\":\"idle\"},\"tool\":\"sleep\"}") ∷
    asks (codes "403 {\"error\":\"no peer key\"}") (codes "POST") (codes "/pscheduler/peer/runs") None (from 1 (codes "secret")) (codes "{\"key\":\"00020000-0003-8001-8000-000000040005\",\"priority\":0,\"requester\":\"10.0.0.9\",\"start\":1007,\"test\":{\"spec\":{\"duration\":\"PT10S\"},\"type\":\"idle\"},\"tool\":\"sleep\"}") ∷
    asks (codes "403 {\"error\":\"no peer key\"}") (codes "POST") (codes "/pscheduler/peer/runs") None (from 9 (codes "secret")) (codes "{\"key\":\"00020000-0003-8001-8000-000000040005\",\"priority\":0,\"requester\":\"10.0.0.9\",\"start\":1007,\"test\":{\"spec\":{\"duration\":\"PT10S\"},\"type\":\"idle\"},\"tool\":\"sleep\"}") ∷
    asks (codes "404 {\"error\":\"not found\"}") (codes "POST") (codes "/pscheduler/peer/runs/") None (from 2 (codes "secret")) (codes "{\"key\":\"00020000-0003-8001-8000-000000040005\",\"priority\":0,\"requester\":\"10.0.0.9\",\"start\":1007,\"test\":{\"spec\":{\"duration\":\"PT10S\"},\"type\":\"idle\"},\"tool\":\"sleep\"}") ∷
    asks (codes "405 DELETE {\"error\":\"method\"}") (codes "GET") (codes "/pscheduler/peer/runs/00020000-0003-8001-8000-000000040005") None (from 2 (codes "secret")) [] ∷
    asks (codes "405 DELETE {\"error\":\"method\"}") (codes "POST") (codes "/pscheduler/peer/runs/00020000-0003-8001-8000-000000040005") None (from 2 (codes "secret")) [] ∷
    asks (codes "405 DELETE {\"error\":\"method\"}") (codes "PUT") (codes "/pscheduler/peer/runs/00020000-0003-8001-8000-000000040005") None (from 2 (codes "secret")) [] ∷
    asks (codes "drop of 2 00020000-0003-8001-8000-000000040005") (codes "DELETE") (codes "/pscheduler/peer/runs/00020000-0003-8001-8000-000000040005") None (from 2 (codes "secret")) [] ∷
    asks (codes "405 DELETE {\"error\":\"method\"}") (codes "PATCH") (codes "/pscheduler/peer/runs/00020000-0003-8001-8000-000000040005") None None [] ∷
    asks (codes "400 {\"error\":\"query\"}") (codes "DELETE") (codes "/pscheduler/peer/runs/00020000-0003-8001-8000-000000040005") (Some (codes "x")) (from 2 (codes "secret")) [] ∷
    asks (codes "403 {\"error\":\"no peer key\"}") (codes "DELETE") (codes "/pscheduler/peer/runs/00020000-0003-8001-8000-000000040005") None None [] ∷
    asks (codes "403 {\"error\":\"no peer key\"}") (codes "DELETE") (codes "/pscheduler/peer/runs/00020000-0003-8001-8000-000000040005") (Some (codes "x")) None [] ∷
    asks (codes "403 {\"error\":\"no peer key\"}") (codes "DELETE") (codes "/pscheduler/peer/runs/00020000-0003-8001-8000-000000040005") None (from 2 (codes "Secret")) [] ∷
    asks (codes "403 {\"error\":\"no peer key\"}") (codes "DELETE") (codes "/pscheduler/peer/runs/00020000-0003-8001-8000-000000040005") None (from 3 (codes "secret")) [] ∷
    asks (codes "403 {\"error\":\"no peer key\"}") (codes "DELETE") (codes "/pscheduler/peer/runs/00020000-0003-8001-8000-000000040005") None (from 1 (codes "secret")) [] ∷
    asks (codes "403 {\"error\":\"no peer key\"}") (codes "DELETE") (codes "/pscheduler/peer/runs/00020000-0003-8001-8000-000000040005") None (from 9 (codes "secret")) [] ∷
    asks (codes "404 {\"error\":\"not found\"}") (codes "DELETE") (codes "/pscheduler/peer/runs/00020000-0003-8001-8000-000000040005/") None (from 2 (codes "secret")) [] ∷
    asks (codes "405 PUT {\"error\":\"method\"}") (codes "GET") (codes "/pscheduler/peer/runs/00020000-0003-8001-8000-000000040005/confirm") None (from 2 (codes "secret")) [] ∷
    asks (codes "405 PUT {\"error\":\"method\"}") (codes "POST") (codes "/pscheduler/peer/runs/00020000-0003-8001-8000-000000040005/confirm") None (from 2 (codes "secret")) [] ∷
    asks (codes "confirm of 2 00020000-0003-8001-8000-000000040005") (codes "PUT") (codes "/pscheduler/peer/runs/00020000-0003-8001-8000-000000040005/confirm") None (from 2 (codes "secret")) [] ∷
    asks (codes "405 PUT {\"error\":\"method\"}") (codes "DELETE") (codes "/pscheduler/peer/runs/00020000-0003-8001-8000-000000040005/confirm") None (from 2 (codes "secret")) [] ∷
    asks (codes "405 PUT {\"error\":\"method\"}") (codes "PATCH") (codes "/pscheduler/peer/runs/00020000-0003-8001-8000-000000040005/confirm") None None [] ∷
    asks (codes "400 {\"error\":\"query\"}") (codes "PUT") (codes "/pscheduler/peer/runs/00020000-0003-8001-8000-000000040005/confirm") (Some (codes "x")) (from 2 (codes "secret")) [] ∷
    asks (codes "403 {\"error\":\"no peer key\"}") (codes "PUT") (codes "/pscheduler/peer/runs/00020000-0003-8001-8000-000000040005/confirm") None None [] ∷
    asks (codes "403 {\"error\":\"no peer key\"}") (codes "PUT") (codes "/pscheduler/peer/runs/00020000-0003-8001-8000-000000040005/confirm") (Some (codes "x")) None [] ∷
    asks (codes "403 {\"error\":\"no peer key\"}") (codes "PUT") (codes "/pscheduler/peer/runs/00020000-0003-8001-8000-000000040005/confirm") None (from 2 (codes "Secret")) [] ∷
    asks (codes "403 {\"error\":\"no peer key\"}") (codes "PUT") (codes "/pscheduler/peer/runs/00020000-0003-8001-8000-000000040005/confirm") None (from 3 (codes "secret")) [] ∷
    asks (codes "403 {\"error\":\"no peer key\"}") (codes "PUT") (codes "/pscheduler/peer/runs/00020000-0003-8001-8000-000000040005/confirm") None (from 1 (codes "secret")) [] ∷
    asks (codes "403 {\"error\":\"no peer key\"}") (codes "PUT") (codes "/pscheduler/peer/runs/00020000-0003-8001-8000-000000040005/confirm") None (from 9 (codes "secret")) [] ∷
    asks (codes "404 {\"error\":\"not found\"}") (codes "PUT") (codes "/pscheduler/peer/runs/00020000-0003-8001-8000-000000040005/confirm/") None (from 2 (codes "secret")) [] ∷
    asks (codes "405 PUT {\"error\":\"method\"}") (codes "GET") (codes "/pscheduler/peer/runs/00020000-0003-8001-8000-000000040005/material") None (from 2 (codes "secret")) [] ∷
    asks (codes "405 PUT {\"error\":\"method\"}") (codes "POST") (codes "/pscheduler/peer/runs/00020000-0003-8001-8000-000000040005/material") None (from 2 (codes "secret")) [] ∷
    asks (codes "material of 2 00020000-0003-8001-8000-000000040005 hello") (codes "PUT") (codes "/pscheduler/peer/runs/00020000-0003-8001-8000-000000040005/material") None (from 2 (codes "secret")) (codes "{\"material\":\"hello\"}") ∷
    asks (codes "405 PUT {\"error\":\"method\"}") (codes "DELETE") (codes "/pscheduler/peer/runs/00020000-0003-8001-8000-000000040005/material") None (from 2 (codes "secret")) [] ∷
    asks (codes "405 PUT {\"error\":\"method\"}") (codes "PATCH") (codes "/pscheduler/peer/runs/00020000-0003-8001-8000-000000040005/material") None None [] ∷
    asks (codes "400 {\"error\":\"query\"}") (codes "PUT") (codes "/pscheduler/peer/runs/00020000-0003-8001-8000-000000040005/material") (Some (codes "x")) (from 2 (codes "secret")) (codes "{\"material\":\"hello\"}") ∷
    asks (codes "403 {\"error\":\"no peer key\"}") (codes "PUT") (codes "/pscheduler/peer/runs/00020000-0003-8001-8000-000000040005/material") None None (codes "{\"material\":\"hello\"}") ∷
    asks (codes "403 {\"error\":\"no peer key\"}") (codes "PUT") (codes "/pscheduler/peer/runs/00020000-0003-8001-8000-000000040005/material") (Some (codes "x")) None (codes "{\"material\":\"hello\"}") ∷
    asks (codes "403 {\"error\":\"no peer key\"}") (codes "PUT") (codes "/pscheduler/peer/runs/00020000-0003-8001-8000-000000040005/material") None (from 2 (codes "Secret")) (codes "{\"material\":\"hello\"}") ∷
    asks (codes "403 {\"error\":\"no peer key\"}") (codes "PUT") (codes "/pscheduler/peer/runs/00020000-0003-8001-8000-000000040005/material") None (from 3 (codes "secret")) (codes "{\"material\":\"hello\"}") ∷
    asks (codes "403 {\"error\":\"no peer key\"}") (codes "PUT") (codes "/pscheduler/peer/runs/00020000-0003-8001-8000-000000040005/material") None (from 1 (codes "secret")) (codes "{\"material\":\"hello\"}") ∷
    asks (codes "403 {\"error\":\"no peer key\"}") (codes "PUT") (codes "/pscheduler/peer/runs/00020000-0003-8001-8000-000000040005/material") None (from 9 (codes "secret")) (codes "{\"material\":\"hello\"}") ∷
    asks (codes "404 {\"error\":\"not found\"}") (codes "PUT") (codes "/pscheduler/peer/runs/00020000-0003-8001-8000-000000040005/material/") None (from 2 (codes "secret")) (codes "{\"material\":\"hello\"}") ∷
    asks (codes "collect of 2 00020000-0003-8001-8000-000000040005") (codes "GET") (codes "/pscheduler/peer/runs/00020000-0003-8001-8000-000000040005/result") None (from 2 (codes "secret")) [] ∷
    asks (codes "405 GET {\"error\":\"method\"}") (codes "POST") (codes "/pscheduler/peer/runs/00020000-0003-8001-8000-000000040005/result") None (from 2 (codes "secret")) [] ∷
    asks (codes "405 GET {\"error\":\"method\"}") (codes "PUT") (codes "/pscheduler/peer/runs/00020000-0003-8001-8000-000000040005/result") None (from 2 (codes "secret")) [] ∷
    asks (codes "405 GET {\"error\":\"method\"}") (codes "DELETE") (codes "/pscheduler/peer/runs/00020000-0003-8001-8000-000000040005/result") None (from 2 (codes "secret")) [] ∷
    asks (codes "405 GET {\"error\":\"method\"}") (codes "PATCH") (codes "/pscheduler/peer/runs/00020000-0003-8001-8000-000000040005/result") None None [] ∷
    asks (codes "400 {\"error\":\"query\"}") (codes "GET") (codes "/pscheduler/peer/runs/00020000-0003-8001-8000-000000040005/result") (Some (codes "x")) (from 2 (codes "secret")) [] ∷
    asks (codes "403 {\"error\":\"no peer key\"}") (codes "GET") (codes "/pscheduler/peer/runs/00020000-0003-8001-8000-000000040005/result") None None [] ∷
    asks (codes "403 {\"error\":\"no peer key\"}") (codes "GET") (codes "/pscheduler/peer/runs/00020000-0003-8001-8000-000000040005/result") (Some (codes "x")) None [] ∷
    asks (codes "403 {\"error\":\"no peer key\"}") (codes "GET") (codes "/pscheduler/peer/runs/00020000-0003-8001-8000-000000040005/result") None (from 2 (codes "Secret")) [] ∷
    asks (codes "403 {\"error\":\"no peer key\"}") (codes "GET") (codes "/pscheduler/peer/runs/00020000-0003-8001-8000-000000040005/result") None (from 3 (codes "secret")) [] ∷
    asks (codes "403 {\"error\":\"no peer key\"}") (codes "GET") (codes "/pscheduler/peer/runs/00020000-0003-8001-8000-000000040005/result") None (from 1 (codes "secret")) [] ∷
    asks (codes "403 {\"error\":\"no peer key\"}") (codes "GET") (codes "/pscheduler/peer/runs/00020000-0003-8001-8000-000000040005/result") None (from 9 (codes "secret")) [] ∷
    asks (codes "404 {\"error\":\"not found\"}") (codes "GET") (codes "/pscheduler/peer/runs/00020000-0003-8001-8000-000000040005/result/") None (from 2 (codes "secret")) [] ∷
    asks (codes "confirm of 3 00020000-0003-8001-8000-000000040005") (codes "PUT") (codes "/pscheduler/peer/runs/00020000-0003-8001-8000-000000040005/confirm") None (from 3 (codes "other")) [] ∷
    asks (codes "403 {\"error\":\"no peer key\"}") (codes "PUT") (codes "/pscheduler/peer/runs/00020000-0003-8001-8000-000000040005/confirm") None (from 2 (codes "other")) [] ∷
    asks (codes "403 {\"error\":\"no peer key\"}") (codes "PUT") (codes "/pscheduler/peer/runs/00020000-0003-8001-8000-000000040005/confirm") None (from 2 (codes "secrets")) [] ∷
    asks (codes "403 {\"error\":\"no peer key\"}") (codes "PUT") (codes "/pscheduler/peer/runs/00020000-0003-8001-8000-000000040005/confirm") None (from 2 (codes "s")) [] ∷
    asks (codes "confirm of 2 00020000-0003-8001-8000-000000040005") (codes "PUT") (codes "/pscheduler/peer/runs/00020000-0003-8001-8000-000000040005/confirm") None (from 2 (codes "secret")) (codes "{") ∷
    asks (codes "drop of 2 00020000-0003-8001-8000-000000040005") (codes "DELETE") (codes "/pscheduler/peer/runs/00020000-0003-8001-8000-000000040005") None (from 2 (codes "secret")) (codes "x") ∷
    asks (codes "collect of 2 00020000-0003-8001-8000-000000040005") (codes "GET") (codes "/pscheduler/peer/runs/00020000-0003-8001-8000-000000040005/result") None (from 2 (codes "secret")) (codes "{\"material\":\"hello\"}") ∷
    asks (codes "404 {\"error\":\"not found\"}") (codes "DELETE") (codes "/pscheduler/peer/runs/x") None None [] ∷
    asks (codes "404 {\"error\":\"not found\"}") (codes "DELETE") (codes "/pscheduler/peer/runs/00010000-0001-8000-8000-000000000000") None None [] ∷
    asks (codes "404 {\"error\":\"not found\"}") (codes "DELETE") (codes "/pscheduler/peer/runs/00020000-0003-8000-8000-000000000000") None None [] ∷
    asks (codes "404 {\"error\":\"not found\"}") (codes "DELETE") (codes "/pscheduler/peer/runs/00020000-0003-8001-8000-00000004000") None None [] ∷
    asks (codes "404 {\"error\":\"not found\"}") (codes "DELETE") (codes "/pscheduler/peer/runs/00020000-0003-4001-8000-000000040005") None None [] ∷
    asks (codes "404 {\"error\":\"not found\"}") (codes "POST") (codes "/pscheduler/peer/runs/x") None (from 2 (codes "secret")) [] ∷
    asks (codes "404 {\"error\":\"not found\"}") (codes "PUT") (codes "/pscheduler/peer/runs/x/confirm") None None [] ∷
    asks (codes "404 {\"error\":\"not found\"}") (codes "PUT") (codes "/pscheduler/peer/runs/00010000-0001-8000-8000-000000000000/confirm") None None [] ∷
    asks (codes "404 {\"error\":\"not found\"}") (codes "PUT") (codes "/pscheduler/peer/runs/00020000-0003-8000-8000-000000000000/confirm") None None [] ∷
    asks (codes "404 {\"error\":\"not found\"}") (codes "PUT") (codes "/pscheduler/peer/runs/00020000-0003-8001-8000-00000004000/confirm") None None [] ∷
    asks (codes "404 {\"error\":\"not found\"}") (codes "PUT") (codes "/pscheduler/peer/runs/00020000-0003-4001-8000-000000040005/confirm") None None [] ∷
    asks (codes "404 {\"error\":\"not found\"}") (codes "POST") (codes "/pscheduler/peer/runs/x/confirm") None (from 2 (codes "secret")) [] ∷
    asks (codes "404 {\"error\":\"not found\"}") (codes "PUT") (codes "/pscheduler/peer/runs/x/material") None None [] ∷
    asks (codes "404 {\"error\":\"not found\"}") (codes "PUT") (codes "/pscheduler/peer/runs/00010000-0001-8000-8000-000000000000/material") None None [] ∷
    asks (codes "404 {\"error\":\"not found\"}") (codes "PUT") (codes "/pscheduler/peer/runs/00020000-0003-8000-8000-000000000000/material") None None [] ∷
    asks (codes "404 {\"error\":\"not found\"}") (codes "PUT") (codes "/pscheduler/peer/runs/00020000-0003-8001-8000-00000004000/material") None None [] ∷
    asks (codes "404 {\"error\":\"not found\"}") (codes "PUT") (codes "/pscheduler/peer/runs/00020000-0003-4001-8000-000000040005/material") None None [] ∷
    asks (codes "404 {\"error\":\"not found\"}") (codes "POST") (codes "/pscheduler/peer/runs/x/material") None (from 2 (codes "secret")) [] ∷
    asks (codes "404 {\"error\":\"not found\"}") (codes "GET") (codes "/pscheduler/peer/runs/x/result") None None [] ∷
    asks (codes "404 {\"error\":\"not found\"}") (codes "GET") (codes "/pscheduler/peer/runs/00010000-0001-8000-8000-000000000000/result") None None [] ∷
    asks (codes "404 {\"error\":\"not found\"}") (codes "GET") (codes "/pscheduler/peer/runs/00020000-0003-8000-8000-000000000000/result") None None [] ∷
    asks (codes "404 {\"error\":\"not found\"}") (codes "GET") (codes "/pscheduler/peer/runs/00020000-0003-8001-8000-00000004000/result") None None [] ∷
    asks (codes "404 {\"error\":\"not found\"}") (codes "GET") (codes "/pscheduler/peer/runs/00020000-0003-4001-8000-000000040005/result") None None [] ∷
    asks (codes "404 {\"error\":\"not found\"}") (codes "POST") (codes "/pscheduler/peer/runs/x/result") None (from 2 (codes "secret")) [] ∷
    asks (codes "drop of 2 00010000-0001-8001-8000-000000000000") (codes "DELETE") (codes "/pscheduler/peer/runs/00010000-0001-8001-8000-000000000000") None (from 2 (codes "secret")) [] ∷
    asks (codes "confirm of 2 00020000-0003-8001-8000-000000040005") (codes "PUT") (codes "/pscheduler/peer/runs/00020000000380018000000000040005/confirm") None (from 2 (codes "secret")) [] ∷
    asks (codes "confirm of 2 00020000-0003-8001-8000-000000040005") (codes "PUT") (codes "/pscheduler/peer/runs/{00020000-0003-8001-8000-000000040005}/confirm") None (from 2 (codes "secret")) [] ∷
    asks (codes "confirm of 2 00020000-0003-8001-8000-000000040005") (codes "PUT") (codes "/pscheduler/peer/runs/urn:uuid:00020000-0003-8001-8000-000000040005/confirm") None (from 2 (codes "secret")) [] ∷
    asks (codes "404 {\"error\":\"not found\"}") (codes "GET") (codes "/pscheduler/peer/runs/00020000-0003-8001-8000-000000040005/results") None (from 2 (codes "secret")) [] ∷
    asks (codes "404 {\"error\":\"not found\"}") (codes "GET") (codes "/pscheduler/peer/run/00020000-0003-8001-8000-000000040005") None (from 2 (codes "secret")) [] ∷
    asks (codes "404 {\"error\":\"not found\"}") (codes "GET") (codes "/pscheduler/peer/runs/00020000-0003-8001-8000-000000040005/confirm/now") None (from 2 (codes "secret")) [] ∷
    asks (codes "404 {\"error\":\"not found\"}") (codes "GET") (codes "/pscheduler/peer/frees") None (from 2 (codes "secret")) [] ∷
    asks (codes "404 {\"error\":\"not found\"}") (codes "GET") (codes "/pscheduler/peer/free/00020000-0003-8001-8000-000000040005") None (from 2 (codes "secret")) [] ∷
    asks (codes "400 {\"error\":\"syntax\"}") (codes "POST") (codes "/pscheduler/peer/free") None (from 2 (codes "secret")) [] ∷
    asks (codes "400 {\"error\":\"syntax\"}") (codes "POST") (codes "/pscheduler/peer/free") None (from 2 (codes "secret")) (codes "{\"first\":1000,\"key\":\"00020000-0003-8001-8000-000000040005\",\"last\":2000,\"priority\":0,\"test\":{\"spec\":{\"duration\":\"PT10S\"},\"type\":\"idle\"}") ∷
    asks (codes "400 {\"error\":\"syntax\"}") (codes "POST") (codes "/pscheduler/peer/free") None (from 2 (codes "secret")) (codes "{\"first\":1000,\"key\":\"00020000-0003-8001-8000-000000040005\",\"last\":2000,\"priority\":0,\"test\":{\"spec\":{\"duration\":\"PT10S\"},\"type\":\"idle\"}}x") ∷
    asks (codes "400 {\"error\":\"wrong kind\",\"member\":\"question\"}") (codes "POST") (codes "/pscheduler/peer/free") None (from 2 (codes "secret")) (codes "[]") ∷
    asks (codes "400 {\"error\":\"wrong kind\",\"member\":\"question\"}") (codes "POST") (codes "/pscheduler/peer/free") None (from 2 (codes "secret")) (codes "\"x\"") ∷
    asks (codes "400 {\"error\":\"wrong kind\",\"member\":\"question\"}") (codes "POST") (codes "/pscheduler/peer/free") None (from 2 (codes "secret")) (codes "null") ∷
    asks (codes "400 {\"error\":\"missing\",\"member\":\"first\"}") (codes "POST") (codes "/pscheduler/peer/free") None (from 2 (codes "secret")) (codes "{}") ∷
    asks (codes "400 {\"error\":\"missing\",\"member\":\"first\"}") (codes "POST") (codes "/pscheduler/peer/free") None (from 2 (codes "secret")) (codes "{\"key\":\"00020000-0003-8001-8000-000000040005\",\"last\":2000,\"priority\":0,\"test\":{\"spec\":{\"duration\":\"PT10S\"},\"type\":\"idle\"}}") ∷
    asks (codes "400 {\"error\":\"missing\",\"member\":\"key\"}") (codes "POST") (codes "/pscheduler/peer/free") None (from 2 (codes "secret")) (codes "{\"first\":1000,\"last\":2000,\"priority\":0,\"test\":{\"spec\":{\"duration\":\"PT10S\"},\"type\":\"idle\"}}") ∷
    asks (codes "400 {\"error\":\"missing\",\"member\":\"last\"}") (codes "POST") (codes "/pscheduler/peer/free") None (from 2 (codes "secret")) (codes "{\"first\":1000,\"key\":\"00020000-0003-8001-8000-000000040005\",\"priority\":0,\"test\":{\"spec\":{\"duration\":\"PT10S\"},\"type\":\"idle\"}}") ∷
    asks (codes "400 {\"error\":\"missing\",\"member\":\"priority\"}") (codes "POST") (codes "/pscheduler/peer/free") None (from 2 (codes "secret")) (codes "{\"first\":1000,\"key\":\"00020000-0003-8001-8000-000000040005\",\"last\":2000,\"test\":{\"spec\":{\"duration\":\"PT10S\"},\"type\":\"idle\"}}") ∷
    asks (codes "400 {\"error\":\"missing\",\"member\":\"test\"}") (codes "POST") (codes "/pscheduler/peer/free") None (from 2 (codes "secret")) (codes "{\"first\":1000,\"key\":\"00020000-0003-8001-8000-000000040005\",\"last\":2000,\"priority\":0}") ∷
    asks (codes "400 {\"error\":\"unknown\",\"member\":\"x\"}") (codes "POST") (codes "/pscheduler/peer/free") None (from 2 (codes "secret")) (codes "{\"first\":1000,\"key\":\"00020000-0003-8001-8000-000000040005\",\"last\":2000,\"priority\":0,\"test\":{\"spec\":{\"duration\":\"PT10S\"},\"type\":\"idle\"},\"x\":1}") ∷
    asks (codes "400 {\"error\":\"unknown\",\"member\":\"x\"}") (codes "POST") (codes "/pscheduler/peer/free") None (from 2 (codes "secret")) (codes "{\"first\":1000,\"key\":\"00020000-0003-8001-8000-000000040005\",\"last\":2000,\"priority\":0,\"test\":{\"spec\":{\"duration\":\"PT10S\"},\"type\":\"idle\"},\"y\":1,\"x\":1}") ∷
    asks (codes "400 {\"error\":\"syntax\"}") (codes "POST") (codes "/pscheduler/peer/runs") None (from 2 (codes "secret")) [] ∷
    asks (codes "400 {\"error\":\"syntax\"}") (codes "POST") (codes "/pscheduler/peer/runs") None (from 2 (codes "secret")) (codes "{\"key\":\"00020000-0003-8001-8000-000000040005\",\"priority\":0,\"requester\":\"10.0.0.9\",\"start\":1007,\"test\":{\"spec\":{\"duration\":\"PT10S\"},\"type\":\"idle\"},\"tool\":\"sleep\"") ∷
    asks (codes "400 {\"error\":\"syntax\"}") (codes "POST") (codes "/pscheduler/peer/runs") None (from 2 (codes "secret")) (codes "{\"key\":\"00020000-0003-8001-8000-000000040005\",\"priority\":0,\"requester\":\"10.0.0.9\",\"start\":1007,\"test\":{\"spec\":{\"duration\":\"PT10S\"},\"type\":\"idle\"},\"tool\":\"sleep\"}x") ∷
    asks (codes "400 {\"error\":\"wrong kind\",\"member\":\"proposal\"}") (codes "POST") (codes "/pscheduler/peer/runs") None (from 2 (codes "secret")) (codes "[]") ∷
    asks (codes "400 {\"error\":\"wrong kind\",\"member\":\"proposal\"}") (codes "POST") (codes "/pscheduler/peer/runs") None (from 2 (codes "secret")) (codes "\"x\"") ∷
    asks (codes "400 {\"error\":\"wrong kind\",\"member\":\"proposal\"}") (codes "POST") (codes "/pscheduler/peer/runs") None (from 2 (codes "secret")) (codes "null") ∷
    asks (codes "400 {\"error\":\"missing\",\"member\":\"key\"}") (codes "POST") (codes "/pscheduler/peer/runs") None (from 2 (codes "secret")) (codes "{}") ∷
    asks (codes "400 {\"error\":\"missing\",\"member\":\"key\"}") (codes "POST") (codes "/pscheduler/peer/runs") None (from 2 (codes "secret")) (codes "{\"priority\":0,\"requester\":\"10.0.0.9\",\"start\":1007,\"test\":{\"spec\":{\"duration\":\"PT10S\"},\"type\":\"idle\"},\"tool\":\"sleep\"}") ∷
    asks (codes "400 {\"error\":\"missing\",\"member\":\"priority\"}") (codes "POST") (codes "/pscheduler/peer/runs") None (from 2 (codes "secret")) (codes "{\"key\":\"00020000-0003-8001-8000-000000040005\",\"requester\":\"10.0.0.9\",\"start\":1007,\"test\":{\"spec\":{\"duration\":\"PT10S\"},\"type\":\"idle\"},\"tool\":\"sleep\"}") ∷
    asks (codes "400 {\"error\":\"missing\",\"member\":\"requester\"}") (codes "POST") (codes "/pscheduler/peer/runs") None (from 2 (codes "secret")) (codes "{\"key\":\"00020000-0003-8001-8000-000000040005\",\"priority\":0,\"start\":1007,\"test\":{\"spec\":{\"duration\":\"PT10S\"},\"type\":\"idle\"},\"tool\":\"sleep\"}") ∷
    asks (codes "400 {\"error\":\"missing\",\"member\":\"start\"}") (codes "POST") (codes "/pscheduler/peer/runs") None (from 2 (codes "secret")) (codes "{\"key\":\"00020000-0003-8001-8000-000000040005\",\"priority\":0,\"requester\":\"10.0.0.9\",\"test\":{\"spec\":{\"duration\":\"PT10S\"},\"type\":\"idle\"},\"tool\":\"sleep\"}") ∷
    asks (codes "400 {\"error\":\"missing\",\"member\":\"test\"}") (codes "POST") (codes "/pscheduler/peer/runs") None (from 2 (codes "secret")) (codes "{\"key\":\"00020000-0003-8001-8000-000000040005\",\"priority\":0,\"requester\":\"10.0.0.9\",\"start\":1007,\"tool\":\"sleep\"}") ∷
    asks (codes "400 {\"error\":\"missing\",\"member\":\"tool\"}") (codes "POST") (codes "/pscheduler/peer/runs") None (from 2 (codes "secret")) (codes "{\"key\":\"00020000-0003-8001-8000-000000040005\",\"priority\":0,\"requester\":\"10.0.0.9\",\"start\":1007,\"test\":{\"spec\":{\"duration\":\"PT10S\"},\"type\":\"idle\"}}") ∷
    asks (codes "400 {\"error\":\"unknown\",\"member\":\"x\"}") (codes "POST") (codes "/pscheduler/peer/runs") None (from 2 (codes "secret")) (codes "{\"key\":\"00020000-0003-8001-8000-000000040005\",\"priority\":0,\"requester\":\"10.0.0.9\",\"start\":1007,\"test\":{\"spec\":{\"duration\":\"PT10S\"},\"type\":\"idle\"},\"tool\":\"sleep\",\"x\":1}") ∷
    asks (codes "400 {\"error\":\"unknown\",\"member\":\"x\"}") (codes "POST") (codes "/pscheduler/peer/runs") None (from 2 (codes "secret")) (codes "{\"key\":\"00020000-0003-8001-8000-000000040005\",\"priority\":0,\"requester\":\"10.0.0.9\",\"start\":1007,\"test\":{\"spec\":{\"duration\":\"PT10S\"},\"type\":\"idle\"},\"tool\":\"sleep\",\"y\":1,\"x\":1}") ∷
    asks (codes "400 {\"error\":\"syntax\"}") (codes "PUT") (codes "/pscheduler/peer/runs/00020000-0003-8001-8000-000000040005/material") None (from 2 (codes "secret")) [] ∷
    asks (codes "400 {\"error\":\"syntax\"}") (codes "PUT") (codes "/pscheduler/peer/runs/00020000-0003-8001-8000-000000040005/material") None (from 2 (codes "secret")) (codes "{\"material\":\"hello\"") ∷
    asks (codes "400 {\"error\":\"syntax\"}") (codes "PUT") (codes "/pscheduler/peer/runs/00020000-0003-8001-8000-000000040005/material") None (from 2 (codes "secret")) (codes "{\"material\":\"hello\"}x") ∷
    asks (codes "400 {\"error\":\"wrong kind\",\"member\":\"material\"}") (codes "PUT") (codes "/pscheduler/peer/runs/00020000-0003-8001-8000-000000040005/material") None (from 2 (codes "secret")) (codes "[]") ∷
    asks (codes "400 {\"error\":\"wrong kind\",\"member\":\"material\"}") (codes "PUT") (codes "/pscheduler/peer/runs/00020000-0003-8001-8000-000000040005/material") None (from 2 (codes "secret")) (codes "\"x\"") ∷
    asks (codes "400 {\"error\":\"wrong kind\",\"member\":\"material\"}") (codes "PUT") (codes "/pscheduler/peer/runs/00020000-0003-8001-8000-000000040005/material") None (from 2 (codes "secret")) (codes "null") ∷
    asks (codes "400 {\"error\":\"missing\",\"member\":\"material\"}") (codes "PUT") (codes "/pscheduler/peer/runs/00020000-0003-8001-8000-000000040005/material") None (from 2 (codes "secret")) (codes "{}") ∷
    asks (codes "400 {\"error\":\"unknown\",\"member\":\"x\"}") (codes "PUT") (codes "/pscheduler/peer/runs/00020000-0003-8001-8000-000000040005/material") None (from 2 (codes "secret")) (codes "{\"material\":\"hello\",\"x\":1}") ∷
    asks (codes "400 {\"error\":\"unknown\",\"member\":\"x\"}") (codes "PUT") (codes "/pscheduler/peer/runs/00020000-0003-8001-8000-000000040005/material") None (from 2 (codes "secret")) (codes "{\"material\":\"hello\",\"y\":1,\"x\":1}") ∷
    asks (codes "free of 2 for 00020000-0003-8001-8000-000000040005 from 1000 to 2000 at 0") (codes "POST") (codes "/pscheduler/peer/free") None (from 2 (codes "secret")) (codes "{\"first\":1000,\"key\":\"00020000-0003-8001-8000-000000040005\",\"last\":2000,\"priority\":0,\"test\":{\"spec\":{\"duration\":\"PT10S\"},\"type\":\"idle\"},\"#x\":1}") ∷
    asks (codes "free of 2 for 00020000-0003-8001-8000-000000040005 from 1000 to 2000 at 0") (codes "POST") (codes "/pscheduler/peer/free") None (from 2 (codes "secret")) (codes "{\"test\":{\"spec\":{\"duration\":\"PT10S\"},\"type\":\"idle\"},\"priority\":0,\"last\":2000,\"key\":\"00020000-0003-8001-8000-000000040005\",\"first\":1000}") ∷
    asks (codes "propose of 2 of 00020000-0003-8001-8000-000000040005 at 1007 by 10.0.0.9 from b with sleep at 0") (codes "POST") (codes "/pscheduler/peer/runs") None (from 2 (codes "secret")) (codes "{\"key\":\"00020000-0003-8001-8000-000000040005\",\"priority\":0,\"requester\":\"10.0.0.9\",\"start\":1007,\"test\":{\"spec\":{\"duration\":\"PT10S\"},\"type\":\"idle\"},\"tool\":\"sleep\",\"#x\":1}") ∷
    asks (codes "propose of 2 of 00020000-0003-8001-8000-000000040005 at 1007 by 10.0.0.9 from b with sleep at 0") (codes "POST") (codes "/pscheduler/peer/runs") None (from 2 (codes "secret")) (codes "{\"tool\":\"sleep\",\"test\":{\"spec\":{\"duration\":\"PT10S\"},\"type\":\"idle\"},\"start\":1007,\"requester\":\"10.0.0.9\",\"priority\":0,\"key\":\"00020000-0003-8001-8000-000000040005\"}") ∷
    asks (codes "material of 2 00020000-0003-8001-8000-000000040005 hello") (codes "PUT") (codes "/pscheduler/peer/runs/00020000-0003-8001-8000-000000040005/material") None (from 2 (codes "secret")) (codes "{\"material\":\"hello\",\"#x\":1}") ∷
    asks (codes "material of 2 00020000-0003-8001-8000-000000040005 hello") (codes "PUT") (codes "/pscheduler/peer/runs/00020000-0003-8001-8000-000000040005/material") None (from 2 (codes "secret")) (codes "{ \"material\":\"hello\" }") ∷
    asks (codes "400 {\"error\":\"wrong kind\",\"member\":\"first\"}") (codes "POST") (codes "/pscheduler/peer/free") None (from 2 (codes "secret")) (codes "{\"first\":\"x\",\"key\":\"00020000-0003-8001-8000-000000040005\",\"last\":2000,\"priority\":0,\"test\":{\"spec\":{\"duration\":\"PT10S\"},\"type\":\"idle\"}}") ∷
    asks (codes "400 {\"error\":\"wrong kind\",\"member\":\"first\"}") (codes "POST") (codes "/pscheduler/peer/free") None (from 2 (codes "secret")) (codes "{\"first\":-1,\"key\":\"00020000-0003-8001-8000-000000040005\",\"last\":2000,\"priority\":0,\"test\":{\"spec\":{\"duration\":\"PT10S\"},\"type\":\"idle\"}}") ∷
    asks (codes "400 {\"error\":\"wrong kind\",\"member\":\"first\"}") (codes "POST") (codes "/pscheduler/peer/free") None (from 2 (codes "secret")) (codes "{\"first\":4102444801,\"key\":\"00020000-0003-8001-8000-000000040005\",\"last\":2000,\"priority\":0,\"test\":{\"spec\":{\"duration\":\"PT10S\"},\"type\":\"idle\"}}") ∷
    asks (codes "400 {\"error\":\"wrong kind\",\"member\":\"first\"}") (codes "POST") (codes "/pscheduler/peer/free") None (from 2 (codes "secret")) (codes "{\"first\":1000.5,\"key\":\"00020000-0003-8001-8000-000000040005\",\"last\":2000,\"priority\":0,\"test\":{\"spec\":{\"duration\":\"PT10S\"},\"type\":\"idle\"}}") ∷
    asks (codes "400 {\"error\":\"wrong kind\",\"member\":\"first\"}") (codes "POST") (codes "/pscheduler/peer/free") None (from 2 (codes "secret")) (codes "{\"first\":null,\"key\":\"00020000-0003-8001-8000-000000040005\",\"last\":2000,\"priority\":0,\"test\":{\"spec\":{\"duration\":\"PT10S\"},\"type\":\"idle\"}}") ∷
    asks (codes "400 {\"error\":\"wrong kind\",\"member\":\"first\"}") (codes "POST") (codes "/pscheduler/peer/free") None (from 2 (codes "secret")) (codes "{\"first\":[],\"key\":\"00020000-0003-8001-8000-000000040005\",\"last\":2000,\"priority\":0,\"test\":{\"spec\":{\"duration\":\"PT10S\"},\"type\":\"idle\"}}") ∷
    asks (codes "400 {\"error\":\"wrong kind\",\"member\":\"first\"}") (codes "POST") (codes "/pscheduler/peer/free") None (from 2 (codes "secret")) (codes "{\"first\":true,\"key\":\"00020000-0003-8001-8000-000000040005\",\"last\":2000,\"priority\":0,\"test\":{\"spec\":{\"duration\":\"PT10S\"},\"type\":\"idle\"}}") ∷
    asks (codes "400 {\"error\":\"wrong kind\",\"member\":\"last\"}") (codes "POST") (codes "/pscheduler/peer/free") None (from 2 (codes "secret")) (codes "{\"first\":1000,\"key\":\"00020000-0003-8001-8000-000000040005\",\"last\":\"x\",\"priority\":0,\"test\":{\"spec\":{\"duration\":\"PT10S\"},\"type\":\"idle\"}}") ∷
    asks (codes "400 {\"error\":\"wrong kind\",\"member\":\"last\"}") (codes "POST") (codes "/pscheduler/peer/free") None (from 2 (codes "secret")) (codes "{\"first\":1000,\"key\":\"00020000-0003-8001-8000-000000040005\",\"last\":999,\"priority\":0,\"test\":{\"spec\":{\"duration\":\"PT10S\"},\"type\":\"idle\"}}") ∷
    asks (codes "400 {\"error\":\"wrong kind\",\"member\":\"last\"}") (codes "POST") (codes "/pscheduler/peer/free") None (from 2 (codes "secret")) (codes "{\"first\":1000,\"key\":\"00020000-0003-8001-8000-000000040005\",\"last\":87401,\"priority\":0,\"test\":{\"spec\":{\"duration\":\"PT10S\"},\"type\":\"idle\"}}") ∷
    asks (codes "400 {\"error\":\"wrong kind\",\"member\":\"last\"}") (codes "POST") (codes "/pscheduler/peer/free") None (from 2 (codes "secret")) (codes "{\"first\":1000,\"key\":\"00020000-0003-8001-8000-000000040005\",\"last\":-1,\"priority\":0,\"test\":{\"spec\":{\"duration\":\"PT10S\"},\"type\":\"idle\"}}") ∷
    asks (codes "400 {\"error\":\"wrong kind\",\"member\":\"last\"}") (codes "POST") (codes "/pscheduler/peer/free") None (from 2 (codes "secret")) (codes "{\"first\":1000,\"key\":\"00020000-0003-8001-8000-000000040005\",\"last\":4102444801,\"priority\":0,\"test\":{\"spec\":{\"duration\":\"PT10S\"},\"type\":\"idle\"}}") ∷
    asks (codes "400 {\"error\":\"wrong kind\",\"member\":\"last\"}") (codes "POST") (codes "/pscheduler/peer/free") None (from 2 (codes "secret")) (codes "{\"first\":1000,\"key\":\"00020000-0003-8001-8000-000000040005\",\"last\":2000.5,\"priority\":0,\"test\":{\"spec\":{\"duration\":\"PT10S\"},\"type\":\"idle\"}}") ∷
    asks (codes "free of 2 for 00020000-0003-8001-8000-000000040005 from 1000 to 1000 at 0") (codes "POST") (codes "/pscheduler/peer/free") None (from 2 (codes "secret")) (codes "{\"first\":1000,\"key\":\"00020000-0003-8001-8000-000000040005\",\"last\":1000,\"priority\":0,\"test\":{\"spec\":{\"duration\":\"PT10S\"},\"type\":\"idle\"}}") ∷
    asks (codes "free of 2 for 00020000-0003-8001-8000-000000040005 from 1000 to 87400 at 0") (codes "POST") (codes "/pscheduler/peer/free") None (from 2 (codes "secret")) (codes "{\"first\":1000,\"key\":\"00020000-0003-8001-8000-000000040005\",\"last\":87400,\"priority\":0,\"test\":{\"spec\":{\"duration\":\"PT10S\"},\"type\":\"idle\"}}") ∷
    asks (codes "free of 2 for 00020000-0003-8001-8000-000000040005 from 4102444800 to 4102444800 at 0") (codes "POST") (codes "/pscheduler/peer/free") None (from 2 (codes "secret")) (codes "{\"first\":4102444800,\"key\":\"00020000-0003-8001-8000-000000040005\",\"last\":4102444800,\"priority\":0,\"test\":{\"spec\":{\"duration\":\"PT10S\"},\"type\":\"idle\"}}") ∷
    asks (codes "free of 2 for 00020000-0003-8001-8000-000000040005 from 0 to 86400 at 0") (codes "POST") (codes "/pscheduler/peer/free") None (from 2 (codes "secret")) (codes "{\"first\":0,\"key\":\"00020000-0003-8001-8000-000000040005\",\"last\":86400,\"priority\":0,\"test\":{\"spec\":{\"duration\":\"PT10S\"},\"type\":\"idle\"}}") ∷
    asks (codes "400 {\"error\":\"wrong kind\",\"member\":\"last\"}") (codes "POST") (codes "/pscheduler/peer/free") None (from 2 (codes "secret")) (codes "{\"first\":4102444800,\"key\":\"00020000-0003-8001-8000-000000040005\",\"last\":4102444801,\"priority\":0,\"test\":{\"spec\":{\"duration\":\"PT10S\"},\"type\":\"idle\"}}") ∷
    asks (codes "400 {\"error\":\"wrong kind\",\"member\":\"key\"}") (codes "POST") (codes "/pscheduler/peer/free") None (from 2 (codes "secret")) (codes "{\"first\":1000,\"key\":1,\"last\":2000,\"priority\":0,\"test\":{\"spec\":{\"duration\":\"PT10S\"},\"type\":\"idle\"}}") ∷
    asks (codes "400 {\"error\":\"wrong kind\",\"member\":\"key\"}") (codes "POST") (codes "/pscheduler/peer/free") None (from 2 (codes "secret")) (codes "{\"first\":1000,\"key\":\"x\",\"last\":2000,\"priority\":0,\"test\":{\"spec\":{\"duration\":\"PT10S\"},\"type\":\"idle\"}}") ∷
    asks (codes "400 {\"error\":\"wrong kind\",\"member\":\"key\"}") (codes "POST") (codes "/pscheduler/peer/free") None (from 2 (codes "secret")) (codes "{\"first\":1000,\"key\":\"00020000-0003-8000-8000-000000000000\",\"last\":2000,\"priority\":0,\"test\":{\"spec\":{\"duration\":\"PT10S\"},\"type\":\"idle\"}}") ∷
    asks (codes "400 {\"error\":\"wrong kind\",\"member\":\"key\"}") (codes "POST") (codes "/pscheduler/peer/free") None (from 2 (codes "secret")) (codes "{\"first\":1000,\"key\":\"00010000-0001-8000-8000-000000000000\",\"last\":2000,\"priority\":0,\"test\":{\"spec\":{\"duration\":\"PT10S\"},\"type\":\"idle\"}}") ∷
    asks (codes "400 {\"error\":\"wrong kind\",\"member\":\"key\"}") (codes "POST") (codes "/pscheduler/peer/free") None (from 2 (codes "secret")) (codes "{\"first\":1000,\"key\":\"\",\"last\":2000,\"priority\":0,\"test\":{\"spec\":{\"duration\":\"PT10S\"},\"type\":\"idle\"}}") ∷
    asks (codes "400 {\"error\":\"wrong kind\",\"member\":\"key\"}") (codes "POST") (codes "/pscheduler/peer/free") None (from 2 (codes "secret")) (codes "{\"first\":1000,\"key\":\"00020000-0003-8001-8000-0000000400050\",\"last\":2000,\"priority\":0,\"test\":{\"spec\":{\"duration\":\"PT10S\"},\"type\":\"idle\"}}") ∷
    asks (codes "400 {\"error\":\"wrong kind\",\"member\":\"key\"}") (codes "POST") (codes "/pscheduler/peer/free") None (from 2 (codes "secret")) (codes "{\"first\":1000,\"key\":null,\"last\":2000,\"priority\":0,\"test\":{\"spec\":{\"duration\":\"PT10S\"},\"type\":\"idle\"}}") ∷
    asks (codes "free of 2 for 00020000-0003-8001-8000-000000040005 from 1000 to 2000 at 0") (codes "POST") (codes "/pscheduler/peer/free") None (from 2 (codes "secret")) (codes "{\"first\":1000,\"key\":\"{00020000-0003-8001-8000-000000040005}\",\"last\":2000,\"priority\":0,\"test\":{\"spec\":{\"duration\":\"PT10S\"},\"type\":\"idle\"}}") ∷
    asks (codes "free of 2 for 00010000-0001-8001-8000-000000000000 from 1000 to 2000 at 0") (codes "POST") (codes "/pscheduler/peer/free") None (from 2 (codes "secret")) (codes "{\"first\":1000,\"key\":\"00010000-0001-8001-8000-000000000000\",\"last\":2000,\"priority\":0,\"test\":{\"spec\":{\"duration\":\"PT10S\"},\"type\":\"idle\"}}") ∷
    asks (codes "400 {\"error\":\"bad priority\"}") (codes "POST") (codes "/pscheduler/peer/free") None (from 2 (codes "secret")) (codes "{\"first\":1000,\"key\":\"00020000-0003-8001-8000-000000040005\",\"last\":2000,\"priority\":\"x\",\"test\":{\"spec\":{\"duration\":\"PT10S\"},\"type\":\"idle\"}}") ∷
    asks (codes "400 {\"error\":\"bad priority\"}") (codes "POST") (codes "/pscheduler/peer/free") None (from 2 (codes "secret")) (codes "{\"first\":1000,\"key\":\"00020000-0003-8001-8000-000000040005\",\"last\":2000,\"priority\":32768,\"test\":{\"spec\":{\"duration\":\"PT10S\"},\"type\":\"idle\"}}") ∷
    asks (codes "400 {\"error\":\"bad priority\"}") (codes "POST") (codes "/pscheduler/peer/free") None (from 2 (codes "secret")) (codes "{\"first\":1000,\"key\":\"00020000-0003-8001-8000-000000040005\",\"last\":2000,\"priority\":-32769,\"test\":{\"spec\":{\"duration\":\"PT10S\"},\"type\":\"idle\"}}") ∷
    asks (codes "400 {\"error\":\"bad priority\"}") (codes "POST") (codes "/pscheduler/peer/free") None (from 2 (codes "secret")) (codes "{\"first\":1000,\"key\":\"00020000-0003-8001-8000-000000040005\",\"last\":2000,\"priority\":0.5,\"test\":{\"spec\":{\"duration\":\"PT10S\"},\"type\":\"idle\"}}") ∷
    asks (codes "400 {\"error\":\"bad priority\"}") (codes "POST") (codes "/pscheduler/peer/free") None (from 2 (codes "secret")) (codes "{\"first\":1000,\"key\":\"00020000-0003-8001-8000-000000040005\",\"last\":2000,\"priority\":null,\"test\":{\"spec\":{\"duration\":\"PT10S\"},\"type\":\"idle\"}}") ∷
    asks (codes "400 {\"error\":\"bad priority\"}") (codes "POST") (codes "/pscheduler/peer/free") None (from 2 (codes "secret")) (codes "{\"first\":1000,\"key\":\"00020000-0003-8001-8000-000000040005\",\"last\":2000,\"priority\":\"0\",\"test\":{\"spec\":{\"duration\":\"PT10S\"},\"type\":\"idle\"}}") ∷
    asks (codes "400 {\"error\":\"bad priority\"}") (codes "POST") (codes "/pscheduler/peer/free") None (from 2 (codes "secret")) (codes "{\"first\":1000,\"key\":\"00020000-0003-8001-8000-000000040005\",\"last\":2000,\"priority\":99999999999999999999,\"test\":{\"spec\":{\"duration\":\"PT10S\"},\"type\":\"idle\"}}") ∷
    asks (codes "free of 2 for 00020000-0003-8001-8000-000000040005 from 1000 to 2000 at 32767") (codes "POST") (codes "/pscheduler/peer/free") None (from 2 (codes "secret")) (codes "{\"first\":1000,\"key\":\"00020000-0003-8001-8000-000000040005\",\"last\":2000,\"priority\":32767,\"test\":{\"spec\":{\"duration\":\"PT10S\"},\"type\":\"idle\"}}") ∷
    asks (codes "free of 2 for 00020000-0003-8001-8000-000000040005 from 1000 to 2000 at -32768") (codes "POST") (codes "/pscheduler/peer/free") None (from 2 (codes "secret")) (codes "{\"first\":1000,\"key\":\"00020000-0003-8001-8000-000000040005\",\"last\":2000,\"priority\":-32768,\"test\":{\"spec\":{\"duration\":\"PT10S\"},\"type\":\"idle\"}}") ∷
    asks (codes "free of 2 for 00020000-0003-8001-8000-000000040005 from 1000 to 2000 at -1") (codes "POST") (codes "/pscheduler/peer/free") None (from 2 (codes "secret")) (codes "{\"first\":1000,\"key\":\"00020000-0003-8001-8000-000000040005\",\"last\":2000,\"priority\":-1,\"test\":{\"spec\":{\"duration\":\"PT10S\"},\"type\":\"idle\"}}") ∷
    asks (codes "400 {\"error\":\"wrong kind\",\"member\":\"test\"}") (codes "POST") (codes "/pscheduler/peer/free") None (from 2 (codes "secret")) (codes "{\"first\":1000,\"key\":\"00020000-0003-8001-8000-000000040005\",\"last\":2000,\"priority\":0,\"test\":1}") ∷
    asks (codes "400 {\"error\":\"wrong kind\",\"member\":\"test\"}") (codes "POST") (codes "/pscheduler/peer/free") None (from 2 (codes "secret")) (codes "{\"first\":1000,\"key\":\"00020000-0003-8001-8000-000000040005\",\"last\":2000,\"priority\":0,\"test\":[]}") ∷
    asks (codes "400 {\"error\":\"unknown test\",\"name\":\"trace\"}") (codes "POST") (codes "/pscheduler/peer/free") None (from 2 (codes "secret")) (codes "{\"first\":1000,\"key\":\"00020000-0003-8001-8000-000000040005\",\"last\":2000,\"priority\":0,\"test\":{\"spec\":{},\"type\":\"trace\"}}") ∷
    asks (codes "400 {\"error\":\"missing\",\"member\":\"duration\"}") (codes "POST") (codes "/pscheduler/peer/free") None (from 2 (codes "secret")) (codes "{\"first\":1000,\"key\":\"00020000-0003-8001-8000-000000040005\",\"last\":2000,\"priority\":0,\"test\":{\"spec\":{},\"type\":\"idle\"}}") ∷
    asks (codes "400 {\"error\":\"bad time\",\"member\":\"duration\"}") (codes "POST") (codes "/pscheduler/peer/free") None (from 2 (codes "secret")) (codes "{\"first\":1000,\"key\":\"00020000-0003-8001-8000-000000040005\",\"last\":2000,\"priority\":0,\"test\":{\"spec\":{\"duration\":\"x\"},\"type\":\"idle\"}}") ∷
    asks (codes "400 {\"error\":\"missing\",\"member\":\"type\"}") (codes "POST") (codes "/pscheduler/peer/free") None (from 2 (codes "secret")) (codes "{\"first\":1000,\"key\":\"00020000-0003-8001-8000-000000040005\",\"last\":2000,\"priority\":0,\"test\":{\"spec\":{\"duration\":\"PT10S\"}}}") ∷
    asks (codes "400 {\"error\":\"missing\",\"member\":\"spec\"}") (codes "POST") (codes "/pscheduler/peer/free") None (from 2 (codes "secret")) (codes "{\"first\":1000,\"key\":\"00020000-0003-8001-8000-000000040005\",\"last\":2000,\"priority\":0,\"test\":{\"type\":\"idle\"}}") ∷
    asks (codes "400 {\"error\":\"unknown\",\"member\":\"x\"}") (codes "POST") (codes "/pscheduler/peer/free") None (from 2 (codes "secret")) (codes "{\"first\":1000,\"key\":\"00020000-0003-8001-8000-000000040005\",\"last\":2000,\"priority\":0,\"test\":{\"spec\":{\"duration\":\"PT10S\"},\"type\":\"idle\",\"x\":1}}") ∷
    asks (codes "400 {\"error\":\"bad spec\",\"member\":\"duration\"}") (codes "POST") (codes "/pscheduler/peer/free") None (from 2 (codes "secret")) (codes "{\"first\":1000,\"key\":\"00020000-0003-8001-8000-000000040005\",\"last\":2000,\"priority\":0,\"test\":{\"spec\":{\"duration\":\"PT0S\"},\"type\":\"idle\"}}") ∷
    asks (codes "400 {\"error\":\"wrong kind\",\"member\":\"key\"}") (codes "POST") (codes "/pscheduler/peer/runs") None (from 2 (codes "secret")) (codes "{\"key\":1,\"priority\":0,\"requester\":\"10.0.0.9\",\"start\":1007,\"test\":{\"spec\":{\"duration\":\"PT10S\"},\"type\":\"idle\"},\"tool\":\"sleep\"}") ∷
    asks (codes "400 {\"error\":\"wrong kind\",\"member\":\"key\"}") (codes "POST") (codes "/pscheduler/peer/runs") None (from 2 (codes "secret")) (codes "{\"key\":\"x\",\"priority\":0,\"requester\":\"10.0.0.9\",\"start\":1007,\"test\":{\"spec\":{\"duration\":\"PT10S\"},\"type\":\"idle\"},\"tool\":\"sleep\"}") ∷
    asks (codes "400 {\"error\":\"wrong kind\",\"member\":\"key\"}") (codes "POST") (codes "/pscheduler/peer/runs") None (from 2 (codes "secret")) (codes "{\"key\":\"00020000-0003-8000-8000-000000000000\",\"priority\":0,\"requester\":\"10.0.0.9\",\"start\":1007,\"test\":{\"spec\":{\"duration\":\"PT10S\"},\"type\":\"idle\"},\"tool\":\"sleep\"}") ∷
    asks (codes "400 {\"error\":\"wrong kind\",\"member\":\"key\"}") (codes "POST") (codes "/pscheduler/peer/runs") None (from 2 (codes "secret")) (codes "{\"key\":\"00010000-0001-8000-8000-000000000000\",\"priority\":0,\"requester\":\"10.0.0.9\",\"start\":1007,\"test\":{\"spec\":{\"duration\":\"PT10S\"},\"type\":\"idle\"},\"tool\":\"sleep\"}") ∷
    asks (codes "400 {\"error\":\"wrong kind\",\"member\":\"key\"}") (codes "POST") (codes "/pscheduler/peer/runs") None (from 2 (codes "secret")) (codes "{\"key\":\"\",\"priority\":0,\"requester\":\"10.0.0.9\",\"start\":1007,\"test\":{\"spec\":{\"duration\":\"PT10S\"},\"type\":\"idle\"},\"tool\":\"sleep\"}") ∷
    asks (codes "400 {\"error\":\"wrong kind\",\"member\":\"key\"}") (codes "POST") (codes "/pscheduler/peer/runs") None (from 2 (codes "secret")) (codes "{\"key\":\"00020000-0003-8001-8000-0000000400050\",\"priority\":0,\"requester\":\"10.0.0.9\",\"start\":1007,\"test\":{\"spec\":{\"duration\":\"PT10S\"},\"type\":\"idle\"},\"tool\":\"sleep\"}") ∷
    asks (codes "400 {\"error\":\"wrong kind\",\"member\":\"key\"}") (codes "POST") (codes "/pscheduler/peer/runs") None (from 2 (codes "secret")) (codes "{\"key\":null,\"priority\":0,\"requester\":\"10.0.0.9\",\"start\":1007,\"test\":{\"spec\":{\"duration\":\"PT10S\"},\"type\":\"idle\"},\"tool\":\"sleep\"}") ∷
    asks (codes "propose of 2 of 00020000-0003-8001-8000-000000040005 at 1007 by 10.0.0.9 from b with sleep at 0") (codes "POST") (codes "/pscheduler/peer/runs") None (from 2 (codes "secret")) (codes "{\"key\":\"{00020000-0003-8001-8000-000000040005}\",\"priority\":0,\"requester\":\"10.0.0.9\",\"start\":1007,\"test\":{\"spec\":{\"duration\":\"PT10S\"},\"type\":\"idle\"},\"tool\":\"sleep\"}") ∷
    asks (codes "propose of 2 of 00010000-0001-8001-8000-000000000000 at 1007 by 10.0.0.9 from b with sleep at 0") (codes "POST") (codes "/pscheduler/peer/runs") None (from 2 (codes "secret")) (codes "{\"key\":\"00010000-0001-8001-8000-000000000000\",\"priority\":0,\"requester\":\"10.0.0.9\",\"start\":1007,\"test\":{\"spec\":{\"duration\":\"PT10S\"},\"type\":\"idle\"},\"tool\":\"sleep\"}") ∷
    asks (codes "400 {\"error\":\"bad priority\"}") (codes "POST") (codes "/pscheduler/peer/runs") None (from 2 (codes "secret")) (codes "{\"key\":\"00020000-0003-8001-8000-000000040005\",\"priority\":\"x\",\"requester\":\"10.0.0.9\",\"start\":1007,\"test\":{\"spec\":{\"duration\":\"PT10S\"},\"type\":\"idle\"},\"tool\":\"sleep\"}") ∷
    asks (codes "400 {\"error\":\"bad priority\"}") (codes "POST") (codes "/pscheduler/peer/runs") None (from 2 (codes "secret")) (codes "{\"key\":\"00020000-0003-8001-8000-000000040005\",\"priority\":32768,\"requester\":\"10.0.0.9\",\"start\":1007,\"test\":{\"spec\":{\"duration\":\"PT10S\"},\"type\":\"idle\"},\"tool\":\"sleep\"}") ∷
    asks (codes "400 {\"error\":\"bad priority\"}") (codes "POST") (codes "/pscheduler/peer/runs") None (from 2 (codes "secret")) (codes "{\"key\":\"00020000-0003-8001-8000-000000040005\",\"priority\":-32769,\"requester\":\"10.0.0.9\",\"start\":1007,\"test\":{\"spec\":{\"duration\":\"PT10S\"},\"type\":\"idle\"},\"tool\":\"sleep\"}") ∷
    asks (codes "400 {\"error\":\"bad priority\"}") (codes "POST") (codes "/pscheduler/peer/runs") None (from 2 (codes "secret")) (codes "{\"key\":\"00020000-0003-8001-8000-000000040005\",\"priority\":0.5,\"requester\":\"10.0.0.9\",\"start\":1007,\"test\":{\"spec\":{\"duration\":\"PT10S\"},\"type\":\"idle\"},\"tool\":\"sleep\"}") ∷
    asks (codes "400 {\"error\":\"bad priority\"}") (codes "POST") (codes "/pscheduler/peer/runs") None (from 2 (codes "secret")) (codes "{\"key\":\"00020000-0003-8001-8000-000000040005\",\"priority\":null,\"requester\":\"10.0.0.9\",\"start\":1007,\"test\":{\"spec\":{\"duration\":\"PT10S\"},\"type\":\"idle\"},\"tool\":\"sleep\"}") ∷
    asks (codes "400 {\"error\":\"bad priority\"}") (codes "POST") (codes "/pscheduler/peer/runs") None (from 2 (codes "secret")) (codes "{\"key\":\"00020000-0003-8001-8000-000000040005\",\"priority\":\"0\",\"requester\":\"10.0.0.9\",\"start\":1007,\"test\":{\"spec\":{\"duration\":\"PT10S\"},\"type\":\"idle\"},\"tool\":\"sleep\"}") ∷
    asks (codes "400 {\"error\":\"bad priority\"}") (codes "POST") (codes "/pscheduler/peer/runs") None (from 2 (codes "secret")) (codes "{\"key\":\"00020000-0003-8001-8000-000000040005\",\"priority\":99999999999999999999,\"requester\":\"10.0.0.9\",\"start\":1007,\"test\":{\"spec\":{\"duration\":\"PT10S\"},\"type\":\"idle\"},\"tool\":\"sleep\"}") ∷
    asks (codes "propose of 2 of 00020000-0003-8001-8000-000000040005 at 1007 by 10.0.0.9 from b with sleep at 32767") (codes "POST") (codes "/pscheduler/peer/runs") None (from 2 (codes "secret")) (codes "{\"key\":\"00020000-0003-8001-8000-000000040005\",\"priority\":32767,\"requester\":\"10.0.0.9\",\"start\":1007,\"test\":{\"spec\":{\"duration\":\"PT10S\"},\"type\":\"idle\"},\"tool\":\"sleep\"}") ∷
    asks (codes "propose of 2 of 00020000-0003-8001-8000-000000040005 at 1007 by 10.0.0.9 from b with sleep at -32768") (codes "POST") (codes "/pscheduler/peer/runs") None (from 2 (codes "secret")) (codes "{\"key\":\"00020000-0003-8001-8000-000000040005\",\"priority\":-32768,\"requester\":\"10.0.0.9\",\"start\":1007,\"test\":{\"spec\":{\"duration\":\"PT10S\"},\"type\":\"idle\"},\"tool\":\"sleep\"}") ∷
    asks (codes "propose of 2 of 00020000-0003-8001-8000-000000040005 at 1007 by 10.0.0.9 from b with sleep at -1") (codes "POST") (codes "/pscheduler/peer/runs") None (from 2 (codes "secret")) (codes "{\"key\":\"00020000-0003-8001-8000-000000040005\",\"priority\":-1,\"requester\":\"10.0.0.9\",\"start\":1007,\"test\":{\"spec\":{\"duration\":\"PT10S\"},\"type\":\"idle\"},\"tool\":\"sleep\"}") ∷
    asks (codes "400 {\"error\":\"wrong kind\",\"member\":\"test\"}") (codes "POST") (codes "/pscheduler/peer/runs") None (from 2 (codes "secret")) (codes "{\"key\":\"00020000-0003-8001-8000-000000040005\",\"priority\":0,\"requester\":\"10.0.0.9\",\"start\":1007,\"test\":1,\"tool\":\"sleep\"}") ∷
    asks (codes "400 {\"error\":\"wrong kind\",\"member\":\"test\"}") (codes "POST") (codes "/pscheduler/peer/runs") None (from 2 (codes "secret")) (codes "{\"key\":\"00020000-0003-8001-8000-000000040005\",\"priority\":0,\"requester\":\"10.0.0.9\",\"start\":1007,\"test\":[],\"tool\":\"sleep\"}") ∷
    asks (codes "400 {\"error\":\"unknown test\",\"name\":\"trace\"}") (codes "POST") (codes "/pscheduler/peer/runs") None (from 2 (codes "secret")) (codes "{\"key\":\"00020000-0003-8001-8000-000000040005\",\"priority\":0,\"requester\":\"10.0.0.9\",\"start\":1007,\"test\":{\"spec\":{},\"type\":\"trace\"},\"tool\":\"sleep\"}") ∷
    asks (codes "400 {\"error\":\"missing\",\"member\":\"duration\"}") (codes "POST") (codes "/pscheduler/peer/runs") None (from 2 (codes "secret")) (codes "{\"key\":\"00020000-0003-8001-8000-000000040005\",\"priority\":0,\"requester\":\"10.0.0.9\",\"start\":1007,\"test\":{\"spec\":{},\"type\":\"idle\"},\"tool\":\"sleep\"}") ∷
    asks (codes "400 {\"error\":\"bad time\",\"member\":\"duration\"}") (codes "POST") (codes "/pscheduler/peer/runs") None (from 2 (codes "secret")) (codes "{\"key\":\"00020000-0003-8001-8000-000000040005\",\"priority\":0,\"requester\":\"10.0.0.9\",\"start\":1007,\"test\":{\"spec\":{\"duration\":\"x\"},\"type\":\"idle\"},\"tool\":\"sleep\"}") ∷
    asks (codes "400 {\"error\":\"missing\",\"member\":\"type\"}") (codes "POST") (codes "/pscheduler/peer/runs") None (from 2 (codes "secret")) (codes "{\"key\":\"00020000-0003-8001-8000-000000040005\",\"priority\":0,\"requester\":\"10.0.0.9\",\"start\":1007,\"test\":{\"spec\":{\"duration\":\"PT10S\"}},\"tool\":\"sleep\"}") ∷
    asks (codes "400 {\"error\":\"missing\",\"member\":\"spec\"}") (codes "POST") (codes "/pscheduler/peer/runs") None (from 2 (codes "secret")) (codes "{\"key\":\"00020000-0003-8001-8000-000000040005\",\"priority\":0,\"requester\":\"10.0.0.9\",\"start\":1007,\"test\":{\"type\":\"idle\"},\"tool\":\"sleep\"}") ∷
    asks (codes "400 {\"error\":\"unknown\",\"member\":\"x\"}") (codes "POST") (codes "/pscheduler/peer/runs") None (from 2 (codes "secret")) (codes "{\"key\":\"00020000-0003-8001-8000-000000040005\",\"priority\":0,\"requester\":\"10.0.0.9\",\"start\":1007,\"test\":{\"spec\":{\"duration\":\"PT10S\"},\"type\":\"idle\",\"x\":1},\"tool\":\"sleep\"}") ∷
    asks (codes "400 {\"error\":\"bad spec\",\"member\":\"duration\"}") (codes "POST") (codes "/pscheduler/peer/runs") None (from 2 (codes "secret")) (codes "{\"key\":\"00020000-0003-8001-8000-000000040005\",\"priority\":0,\"requester\":\"10.0.0.9\",\"start\":1007,\"test\":{\"spec\":{\"duration\":\"PT0S\"},\"type\":\"idle\"},\"tool\":\"sleep\"}") ∷
    asks (codes "400 {\"error\":\"wrong kind\",\"member\":\"requester\"}") (codes "POST") (codes "/pscheduler/peer/runs") None (from 2 (codes "secret")) (codes "{\"key\":\"00020000-0003-8001-8000-000000040005\",\"priority\":0,\"requester\":1,\"start\":1007,\"test\":{\"spec\":{\"duration\":\"PT10S\"},\"type\":\"idle\"},\"tool\":\"sleep\"}") ∷
    asks (codes "400 {\"error\":\"wrong kind\",\"member\":\"tool\"}") (codes "POST") (codes "/pscheduler/peer/runs") None (from 2 (codes "secret")) (codes "{\"key\":\"00020000-0003-8001-8000-000000040005\",\"priority\":0,\"requester\":\"10.0.0.9\",\"start\":1007,\"test\":{\"spec\":{\"duration\":\"PT10S\"},\"type\":\"idle\"},\"tool\":1}") ∷
    asks (codes "400 {\"error\":\"wrong kind\",\"member\":\"requester\"}") (codes "POST") (codes "/pscheduler/peer/runs") None (from 2 (codes "secret")) (codes "{\"key\":\"00020000-0003-8001-8000-000000040005\",\"priority\":0,\"requester\":null,\"start\":1007,\"test\":{\"spec\":{\"duration\":\"PT10S\"},\"type\":\"idle\"},\"tool\":\"sleep\"}") ∷
    asks (codes "400 {\"error\":\"wrong kind\",\"member\":\"tool\"}") (codes "POST") (codes "/pscheduler/peer/runs") None (from 2 (codes "secret")) (codes "{\"key\":\"00020000-0003-8001-8000-000000040005\",\"priority\":0,\"requester\":\"10.0.0.9\",\"start\":1007,\"test\":{\"spec\":{\"duration\":\"PT10S\"},\"type\":\"idle\"},\"tool\":null}") ∷
    asks (codes "400 {\"error\":\"wrong kind\",\"member\":\"requester\"}") (codes "POST") (codes "/pscheduler/peer/runs") None (from 2 (codes "secret")) (codes "{\"key\":\"00020000-0003-8001-8000-000000040005\",\"priority\":0,\"requester\":[],\"start\":1007,\"test\":{\"spec\":{\"duration\":\"PT10S\"},\"type\":\"idle\"},\"tool\":\"sleep\"}") ∷
    asks (codes "400 {\"error\":\"wrong kind\",\"member\":\"tool\"}") (codes "POST") (codes "/pscheduler/peer/runs") None (from 2 (codes "secret")) (codes "{\"key\":\"00020000-0003-8001-8000-000000040005\",\"priority\":0,\"requester\":\"10.0.0.9\",\"start\":1007,\"test\":{\"spec\":{\"duration\":\"PT10S\"},\"type\":\"idle\"},\"tool\":[]}") ∷
    asks (codes "400 {\"error\":\"wrong kind\",\"member\":\"requester\"}") (codes "POST") (codes "/pscheduler/peer/runs") None (from 2 (codes "secret")) (codes "{\"key\":\"00020000-0003-8001-8000-000000040005\",\"priority\":0,\"requester\":{},\"start\":1007,\"test\":{\"spec\":{\"duration\":\"PT10S\"},\"type\":\"idle\"},\"tool\":\"sleep\"}") ∷
    asks (codes "400 {\"error\":\"wrong kind\",\"member\":\"tool\"}") (codes "POST") (codes "/pscheduler/peer/runs") None (from 2 (codes "secret")) (codes "{\"key\":\"00020000-0003-8001-8000-000000040005\",\"priority\":0,\"requester\":\"10.0.0.9\",\"start\":1007,\"test\":{\"spec\":{\"duration\":\"PT10S\"},\"type\":\"idle\"},\"tool\":{}}") ∷
    asks (codes "propose of 2 of 00020000-0003-8001-8000-000000040005 at 1007 by 10.0.0.9 from b with hammer at 0") (codes "POST") (codes "/pscheduler/peer/runs") None (from 2 (codes "secret")) (codes "{\"key\":\"00020000-0003-8001-8000-000000040005\",\"priority\":0,\"requester\":\"10.0.0.9\",\"start\":1007,\"test\":{\"spec\":{\"duration\":\"PT10S\"},\"type\":\"idle\"},\"tool\":\"hammer\"}") ∷
    asks (codes "400 {\"error\":\"wrong kind\",\"member\":\"start\"}") (codes "POST") (codes "/pscheduler/peer/runs") None (from 2 (codes "secret")) (codes "{\"key\":\"00020000-0003-8001-8000-000000040005\",\"priority\":0,\"requester\":\"10.0.0.9\",\"start\":\"x\",\"test\":{\"spec\":{\"duration\":\"PT10S\"},\"type\":\"idle\"},\"tool\":\"sleep\"}") ∷
    asks (codes "400 {\"error\":\"wrong kind\",\"member\":\"start\"}") (codes "POST") (codes "/pscheduler/peer/runs") None (from 2 (codes "secret")) (codes "{\"key\":\"00020000-0003-8001-8000-000000040005\",\"priority\":0,\"requester\":\"10.0.0.9\",\"start\":-1,\"test\":{\"spec\":{\"duration\":\"PT10S\"},\"type\":\"idle\"},\"tool\":\"sleep\"}") ∷
    asks (codes "400 {\"error\":\"wrong kind\",\"member\":\"start\"}") (codes "POST") (codes "/pscheduler/peer/runs") None (from 2 (codes "secret")) (codes "{\"key\":\"00020000-0003-8001-8000-000000040005\",\"priority\":0,\"requester\":\"10.0.0.9\",\"start\":4102444801,\"test\":{\"spec\":{\"duration\":\"PT10S\"},\"type\":\"idle\"},\"tool\":\"sleep\"}") ∷
    asks (codes "400 {\"error\":\"wrong kind\",\"member\":\"start\"}") (codes "POST") (codes "/pscheduler/peer/runs") None (from 2 (codes "secret")) (codes "{\"key\":\"00020000-0003-8001-8000-000000040005\",\"priority\":0,\"requester\":\"10.0.0.9\",\"start\":1007.5,\"test\":{\"spec\":{\"duration\":\"PT10S\"},\"type\":\"idle\"},\"tool\":\"sleep\"}") ∷
    asks (codes "400 {\"error\":\"wrong kind\",\"member\":\"start\"}") (codes "POST") (codes "/pscheduler/peer/runs") None (from 2 (codes "secret")) (codes "{\"key\":\"00020000-0003-8001-8000-000000040005\",\"priority\":0,\"requester\":\"10.0.0.9\",\"start\":null,\"test\":{\"spec\":{\"duration\":\"PT10S\"},\"type\":\"idle\"},\"tool\":\"sleep\"}") ∷
    asks (codes "propose of 2 of 00020000-0003-8001-8000-000000040005 at 4102444800 by 10.0.0.9 from b with sleep at 0") (codes "POST") (codes "/pscheduler/peer/runs") None (from 2 (codes "secret")) (codes "{\"key\":\"00020000-0003-8001-8000-000000040005\",\"priority\":0,\"requester\":\"10.0.0.9\",\"start\":4102444800,\"test\":{\"spec\":{\"duration\":\"PT10S\"},\"type\":\"idle\"},\"tool\":\"sleep\"}") ∷
    asks (codes "propose of 2 of 00020000-0003-8001-8000-000000040005 at 0 by 10.0.0.9 from b with sleep at 0") (codes "POST") (codes "/pscheduler/peer/runs") None (from 2 (codes "secret")) (codes "{\"key\":\"00020000-0003-8001-8000-000000040005\",\"priority\":0,\"requester\":\"10.0.0.9\",\"start\":0,\"test\":{\"spec\":{\"duration\":\"PT10S\"},\"type\":\"idle\"},\"tool\":\"sleep\"}") ∷
    asks (codes "400 {\"error\":\"wrong kind\",\"member\":\"material\"}") (codes "PUT") (codes "/pscheduler/peer/runs/00020000-0003-8001-8000-000000040005/material") None (from 2 (codes "secret")) (codes "{\"material\":1}") ∷
    asks (codes "400 {\"error\":\"wrong kind\",\"member\":\"material\"}") (codes "PUT") (codes "/pscheduler/peer/runs/00020000-0003-8001-8000-000000040005/material") None (from 2 (codes "secret")) (codes "{\"material\":null}") ∷
    asks (codes "400 {\"error\":\"wrong kind\",\"member\":\"material\"}") (codes "PUT") (codes "/pscheduler/peer/runs/00020000-0003-8001-8000-000000040005/material") None (from 2 (codes "secret")) (codes "{\"material\":[]}") ∷
    asks (codes "400 {\"error\":\"wrong kind\",\"member\":\"material\"}") (codes "PUT") (codes "/pscheduler/peer/runs/00020000-0003-8001-8000-000000040005/material") None (from 2 (codes "secret")) (codes "{\"material\":{\"x\":1}}") ∷
    asks (codes "material of 2 00020000-0003-8001-8000-000000040005 ") (codes "PUT") (codes "/pscheduler/peer/runs/00020000-0003-8001-8000-000000040005/material") None (from 2 (codes "secret")) (codes "{\"material\":\"\"}") ∷
    asks (codes "material of 2 00020000-0003-8001-8000-000000040005 a\"b") (codes "PUT") (codes "/pscheduler/peer/runs/00020000-0003-8001-8000-000000040005/material") None (from 2 (codes "secret")) (codes "{\"material\":\"a\\\"b\"}") ∷
    asks (codes "400 {\"error\":\"wrong kind\",\"member\":\"material\"}") (codes "PUT") (codes "/pscheduler/peer/runs/00020000-0003-8001-8000-000000040005/material") None (from 2 (codes "secret")) (codes "{\"material\":[[[[[[[[[[[[[[[[[[[[[[[[[[[[[[[[[[[[[[[[[[[[[[[[[[[[[[[[[[[[[[[]]]]]]]]]]]]]]]]]]]]]]]]]]]]]]]]]]]]]]]]]]]]]]]]]]]]]]]]]]]]]]]}") ∷
    asks (codes "400 {\"error\":\"too deep\"}") (codes "PUT") (codes "/pscheduler/peer/runs/00020000-0003-8001-8000-000000040005/material") None (from 2 (codes "secret")) (codes "{\"material\":[[[[[[[[[[[[[[[[[[[[[[[[[[[[[[[[[[[[[[[[[[[[[[[[[[[[[[[[[[[[[[[[]]]]]]]]]]]]]]]]]]]]]]]]]]]]]]]]]]]]]]]]]]]]]]]]]]]]]]]]]]]]]]]]}") ∷
    asks (codes "400 {\"error\":\"too deep\"}") (codes "PUT") (codes "/pscheduler/peer/runs/00020000-0003-8001-8000-000000040005/material") None (from 2 (codes "secret")) (codes "{\"material\":[[[[[[[[[[[[[[[[[[[[[[[[[[[[[[[[[[[[[[[[[[[[[[[[[[[[[[[[[[[[[[[[[[[[[[[[[[[[[[[[[[[[[[[[[[[[[[[[[[[[[[[[[[[[[[[[[[[[[[[[[[[[[[]]]]]]]]]]]]]]]]]]]]]]]]]]]]]]]]]]]]]]]]]]]]]]]]]]]]]]]]]]]]]]]]]]]]]]]]]]]]]]]]]]]]]]]]]]]]]]]]]]]]]]]]]]]]]]]]]]]]]]]]]]]]]]}") ∷
    asks (codes "400 {\"error\":\"syntax\"}") (codes "PUT") (codes "/pscheduler/peer/runs/00020000-0003-8001-8000-000000040005/material") None (from 2 (codes "secret")) (codes "{\"material\":[[[[[[[[[[[[[[[[[[[[[[[[[[[[[[[[[[[[[[[[[[[[[[[[[[[[[[[[[[[[[[[[[[[[[[[[[[[[[[[[[[[[[[[[[[[[[[[[[[[[[[[[[[[[[[[[[[[[[[[[[[[[[[[[[[[[[[[[[[[[[[[[[[[[[[[[[[[[[[[[[[[[[[[[[[[[[[[[[[[[[[[[[[[[[[[[[[[[[[[[]]]]]]]]]]]]]]]]]]]]]]]]]]]]]]]]]]]]]]]]]]]]]]]]]]]]]]]]]]]]]]]]]]]]]]]]]]]]]]]]]]]]]]]]]]]]]]]]]]]]]]]]]]]]]]]]]]]]]]]]]]]]]]]]]]]]]]]]]]]]]]]]]]]]]]]]]]]]]]]]]]]]]]]]]]]]]]]]]]]]]]]]]]]]]]]]]]]]]]]]}") ∷
    asks (codes "400 {\"error\":\"wrong kind\",\"member\":\"first\"}") (codes "POST") (codes "/pscheduler/peer/free") None (from 2 (codes "secret")) (codes "{\"first\":\"x\",\"key\":1}") ∷
    asks (codes "400 {\"error\":\"wrong kind\",\"member\":\"key\"}") (codes "POST") (codes "/pscheduler/peer/free") None (from 2 (codes "secret")) (codes "{\"first\":1,\"key\":1,\"last\":\"x\"}") ∷
    asks (codes "400 {\"error\":\"missing\",\"member\":\"first\"}") (codes "POST") (codes "/pscheduler/peer/free") None (from 2 (codes "secret")) (codes "{\"key\":1}") ∷
    asks (codes "400 {\"error\":\"bad priority\"}") (codes "POST") (codes "/pscheduler/peer/runs") None (from 2 (codes "secret")) (codes "{\"key\":\"00020000-0003-8001-8000-000000040005\",\"priority\":\"x\",\"tool\":1}") ∷
    asks (codes "400 {\"error\":\"wrong kind\",\"member\":\"key\"}") (codes "POST") (codes "/pscheduler/peer/runs") None (from 2 (codes "secret")) (codes "{\"key\":1,\"priority\":\"x\",\"x\":1}") ∷
    asks (codes "400 {\"error\":\"wrong kind\",\"member\":\"tool\"}") (codes "POST") (codes "/pscheduler/peer/runs") None (from 2 (codes "secret")) (codes "{\"key\":\"00020000-0003-8001-8000-000000040005\",\"priority\":0,\"requester\":\"10.0.0.9\",\"start\":1007,\"test\":{\"spec\":{\"duration\":\"PT10S\"},\"type\":\"idle\"},\"tool\":1,\"x\":1}") ∷
    []

peer_requests : map told peer_requests_cases ≡ map (λ c. c.want) peer_requests_cases
unfolding is_utf8 chars encode digits uuid_on_literals serde_json_on_literals escape_byte length_of amount_of days_at count_at clock_at seconds_at leading_number begins_as fraction_at length_text_of moment_of offset_of stamp_of clock_seconds start_of day_count days_from_civil days_of_months days_of_years run_text
peer_requests = refl

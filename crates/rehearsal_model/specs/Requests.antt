-- The requests that lines of a script make: `post`, `get` and `delete`.
use Rattle.std.specs.Prelude.{◌&&◌, ◌==◌, ◌||◌, Bool, false, Err, List, None, Ok, Result, [], codes, if◌then◌else◌, length, nat_lt, not, slice_get, unwrap_or, ℕ}
use Rattle.std.specs.List.{before_first, list_all}
use Rattle.httparse.specs.Grammar.{is_uri_byte}
use Rattle.ps_time.specs.Numbers.{most_head_bytes, most_request_bytes}
use Rattle.ps_http.specs.Fields.{behind, cuts_at}
use Rattle.ps_http.specs.declared.message.Request.{Request}
use Rattle.ps_http.specs.declared.message.Response.{Response}
use Rattle.host_model.specs.declared.config.Config.{Config}
use Rattle.host_model.specs.declared.input.Input.{Input}
use Rattle.api_input.specs.Understood.{understood}
use Rattle.api_input.specs.declared.refusal.Refusal.{Refusal}
use Rattle.api_reply.specs.Replies.{answered}
use Rattle.api_reply.specs.Shown.{error}
use Rattle.api_reply.specs.Errors.{refused}

-- a request of somebody who is no peer
abbrev pub request_to : List ℕ → List ℕ → List ℕ → Request
request_to method target body = record { method = method; path = before_first (cuts_at 63) target; query = behind 63 target; peer = None; close = false; body = body }

-- ---- what the reader of a head refuses
-- it begins with `/`, and has only bytes of a target (RFC 9112, 3.2)
abbrev pub is_target : List ℕ → Bool
is_target target = unwrap_or (slice_get target 0) 0 == 47 && list_all is_uri_byte target

abbrev pub is_too_large : List ℕ → List ℕ → Bool
is_too_large target body = nat_lt most_head_bytes (length target) || nat_lt most_request_bytes (length body)

-- ---- what a request comes to: what it asks, or the response that refuses it
abbrev pub or_refused : Result Input Refusal → Result Input Response
or_refused (Ok i) = Ok i
or_refused (Err refusal) = Err (refused refusal)

-- of a request from an address, at a clock
abbrev pub asks : Config → List ℕ → List ℕ → List ℕ → List ℕ → ℕ → Result Input Response
asks c method target body address clock =
    if not (is_target target) then Err (answered 400 (error (codes "bad head")))
    else if is_too_large target body then Err (answered 413 (error (codes "too large")))
    else or_refused (understood c (request_to method target body) address clock)

-- ---- of lines
-- a task is posted to the list of tasks
abbrev pub post : Config → List ℕ → List ℕ → ℕ → Result Input Response
post c address body clock = asks c (codes "POST") (codes "/pscheduler/tasks") body address clock

-- whoever gets something is on the host itself
abbrev pub get : Config → List ℕ → ℕ → Result Input Response
get c target clock = asks c (codes "GET") target [] (codes "127.0.0.1") clock

abbrev pub delete : Config → List ℕ → List ℕ → ℕ → Result Input Response
delete c address target clock = asks c (codes "DELETE") target [] address clock

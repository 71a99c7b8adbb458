-- What the heads of requests and responses say: the length of the body, or the first refusal, and the message.
use Rattle.std.specs.Prelude.{ℕ, ◌==◌, nat_lt, Bool, true, false, not, ◌&&◌, ◌||◌, List, [], ◌∷◌, length, map, Option, Some, None, is_none, Result, Ok, Err, if◌then◌else◌, codes}
use Rattle.std.specs.Str.{bytes_eq, is_utf8}
use Rattle.std.specs.List.{before_first, slice_get}
use Rattle.std.specs.Option.{unwrap_or}
use Rattle.httparse.specs.Grammar.{RequestHead, ResponseHead, status_code}
use Rattle.httparse.specs.Spans.{name_and_value}
use Rattle.ps_time.specs.Numbers.{most_head_fields}
use Rattle.ps_http.specs.Fields.{values_of, asks_close, cuts_at, behind, are_peers, first_peer, length_of}
use Rattle.ps_http.specs.declared.fault.HttpFault.{HttpFault}
use Rattle.ps_http.specs.declared.fault.HttpFault.TheVariants.{BadHead, NoLength, TooLarge}
use Rattle.ps_http.specs.declared.message.HttpLimits.{HttpLimits}
use Rattle.ps_http.specs.declared.message.Request.{Request}
use Rattle.ps_http.specs.declared.message.Response.{Response}

abbrev pub is_empty : {A : Type 0} → List A → Bool
is_empty [] = true
is_empty (x ∷ xs) = false

-- of a head whose Content-Length is well formed: the body's length, or the refusal
abbrev pub bounded_length : HttpLimits → Bool → List (List ℕ × List ℕ) → Option ℕ → Result ℕ HttpFault
bounded_length limits wanted fields said =
    if nat_lt most_head_fields (length fields) || nat_lt limits.body (unwrap_or said 0) then Err TooLarge
    else (if not (is_empty (values_of (codes "transfer-encoding") fields)) || (wanted && is_none said) then Err NoLength
    else Ok (unwrap_or said 0))

abbrev pub length_or_bad : HttpLimits → Bool → List (List ℕ × List ℕ) → Option (Option ℕ) → Result ℕ HttpFault
length_or_bad limits wanted fields None = Err BadHead
length_or_bad limits wanted fields (Some said) = bounded_length limits wanted fields said

-- the body's length by a head's fields, or the first refusal; fits tells that what stands before the fields is right, and wanted that a length is
abbrev pub body_length : HttpLimits → Bool → Bool → List (List ℕ × List ℕ) → Result ℕ HttpFault
body_length limits fits wanted fields =
    if fits && are_peers (values_of (codes "ps-peer") fields)
    then length_or_bad limits wanted fields (length_of (values_of (codes "content-length") fields))
    else Err BadHead

-- ---- requests

-- a request of 1.1 has one Host field, and a target begins with `/`
abbrev pub fits_request : ℕ → List ℕ → List (List ℕ × List ℕ) → Bool
fits_request minor target fields =
    (minor == 0 || length (values_of (codes "host") fields) == 1) && unwrap_or (slice_get target 0) 0 == 47

-- POST and PUT want a length
abbrev pub wants_length : List ℕ → Bool
wants_length method = bytes_eq method (codes "POST") || bytes_eq method (codes "PUT")

abbrev pub request_length : HttpLimits → RequestHead → Result ℕ HttpFault
request_length limits head =
    let fields = map name_and_value head.fields in
    body_length limits (fits_request head.minor head.target fields) (wants_length head.method) fields

-- the request with this head and body
abbrev pub request_of : RequestHead → List ℕ → Request
request_of head body = record {
  method = head.method;
  path = before_first (cuts_at 63) head.target;
  query = behind 63 head.target;
  peer = first_peer (values_of (codes "ps-peer") (map name_and_value head.fields));
  close = asks_close head.minor (map name_and_value head.fields);
  body = body;
}

-- ---- responses

abbrev pub response_length : HttpLimits → ResponseHead → Result ℕ HttpFault
response_length limits head = body_length limits true true (map name_and_value head.fields)

-- the first Allow field, where its value is UTF-8
abbrev pub allowed : List (List ℕ) → Option (List ℕ)
allowed [] = None
allowed (value ∷ values) = if is_utf8 value then Some value else None

-- the response with this head and body
abbrev pub response_of : ResponseHead → List ℕ → Response
response_of head body = record {
  status = status_code head;
  allow = allowed (values_of (codes "allow") (map name_and_value head.fields));
  close = asks_close head.minor (map name_and_value head.fields);
  body = body;
}

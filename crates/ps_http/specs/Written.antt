-- The bytes of requests and responses as they are written (RFC 9112).
use Rattle.std.specs.Prelude.{ℕ, ◌==◌, nat_le, ◌&&◌, Bool, List, [], ◌∷◌, ◌++◌, length, Option, Some, None, if◌then◌else◌, codes}
use Rattle.std.specs.Fmt.{decimal}
use Rattle.std.specs.Option.{unwrap_or}
use Rattle.http.specs.StatusCode.{reason_phrase}
use Rattle.ps_http.specs.Message.{wants_length}
use Rattle.ps_http.specs.declared.message.PeerMark.{PeerMark}
use Rattle.ps_http.specs.declared.message.Request.{Request}
use Rattle.ps_http.specs.declared.message.Response.{Response}

abbrev pub line_end : List ℕ
line_end = 13 ∷ 10 ∷ []

abbrev pub field_text : List ℕ → List ℕ → List ℕ
field_text name value = name ++ (codes ": " ++ (value ++ line_end))

abbrev pub close_text : List ℕ
close_text = field_text (codes "Connection") (codes "close")

unfoldable pub length_text : List ℕ → List ℕ
length_text body = field_text (codes "Content-Length") (decimal (length body))

-- ---- requests

abbrev pub query_text : Option (List ℕ) → List ℕ
query_text None = []
query_text (Some query) = codes "?" ++ query

abbrev pub mark_text : PeerMark → List ℕ
mark_text mark = decimal mark.number ++ (codes " " ++ mark.key)

abbrev pub peer_text : Option PeerMark → List ℕ
peer_text None = []
peer_text (Some mark) = field_text (codes "ps-peer") (mark_text mark)

abbrev pub request_line : Request → List ℕ
request_line r = r.method ++ (codes " " ++ (r.path ++ (query_text r.query ++ (codes " HTTP/1.1" ++ line_end))))

-- POST and PUT have a Content-Length
abbrev pub request_length_text : Request → List ℕ
request_length_text r = if wants_length r.method then length_text r.body else []

abbrev pub request_fields_text : Request → List ℕ → List ℕ
request_fields_text r authority =
    field_text (codes "Host") authority ++ (peer_text r.peer ++ (request_length_text r ++ (close_text ++ line_end)))

abbrev pub request_text : Request → List ℕ → List ℕ
request_text r authority = request_line r ++ (request_fields_text r authority ++ r.body)

-- ---- responses

-- the phrase of a status of three digits, where it has one
abbrev pub phrase_text : ℕ → List ℕ
phrase_text status = if nat_le 100 status && nat_le status 999 then unwrap_or (reason_phrase status) [] else []

unfoldable pub status_line : ℕ → List ℕ
status_line status = codes "HTTP/1.1 " ++ (decimal status ++ (codes " " ++ (phrase_text status ++ line_end)))

unfoldable pub type_text : List ℕ
type_text = field_text (codes "Content-Type") (codes "application/json")

-- Allow stands in a 405 only
abbrev pub allow_text : ℕ → Option (List ℕ) → List ℕ
allow_text status None = []
allow_text status (Some methods) = if status == 405 then field_text (codes "Allow") methods else []

abbrev pub response_close_text : Bool → List ℕ
response_close_text close = if close then close_text else []

unfoldable pub response_fields_text : Response → List ℕ
response_fields_text r =
    type_text ++ (allow_text r.status r.allow ++ (length_text r.body ++ (response_close_text r.close ++ line_end)))

abbrev pub response_text : Response → List ℕ
response_text r = status_line r.status ++ (response_fields_text r ++ r.body)

-- the reply where memory runs out, which is 500, and the one where a disk failed
abbrev pub fault_response : ℕ → Bool → Response
fault_response status close = record {
  status = status;
  allow = None;
  close = close;
  body = if status == 500 then codes "{\"error\":\"memory\"}" else codes "{\"error\":\"disk\"}";
}

-- Requests and responses whose bytes are read again as they were.
use Rattle.std.specs.Prelude.{◌≡◌, ◌≤◌, ◌<◌, ◌⊎◌, ℕ, Bool, true, ◌&&◌, not, ◌==◌, List, [], ◌++◌, length, reverse, IfSome, IsUtf8}
use Rattle.std.specs.Option.{unwrap_or}
use Rattle.std.specs.List.{slice_get}
use Rattle.httparse.specs.Grammar.{AllPass, IsToken, is_uri_byte, is_value_byte, skip_ows}
use Rattle.ps_http.specs.Answer.{requests, responses, IsMessage}
use Rattle.ps_http.specs.Fields.{is_key}
use Rattle.ps_http.specs.Message.{wants_length}
use Rattle.ps_http.specs.Written.{request_line, request_fields_text, request_text, phrase_text, status_line, response_fields_text, response_text}
use Rattle.ps_http.specs.declared.message.HttpLimits.{HttpLimits}
use Rattle.ps_http.specs.declared.message.PeerMark.{PeerMark}
use Rattle.ps_http.specs.declared.message.Request.{Request}
use Rattle.ps_http.specs.declared.message.Response.{Response}

-- a byte of a path: visible, or past ASCII, and no question mark
abbrev pub is_path_byte : ℕ → Bool
is_path_byte b = is_uri_byte b && not (b == 63)

-- the value of a field, with no white space at its ends
pub record IsValue (value : List ℕ) : Type 0 where
  pub bytes : AllPass is_value_byte value
  pub front : skip_ows value ≡ value
  pub back : skip_ows (reverse value) ≡ reverse value

abbrev pub IsMark : PeerMark → Type 0
IsMark mark = (mark.number ≤ 65535) × (is_key mark.key ≡ true)

abbrev pub IsQuery : List ℕ → Type 0
IsQuery query = AllPass is_uri_byte query × IsUtf8 query

pub record IsSendable (limits : HttpLimits) (r : Request) (authority : List ℕ) : Type 0 where
  pub method : IsToken r.method
  pub slash : unwrap_or (slice_get r.path 0) 0 ≡ 47
  pub path : AllPass is_path_byte r.path
  pub path_text : IsUtf8 r.path
  pub query : IfSome r.query IsQuery
  pub peer : IfSome r.peer IsMark
  pub close : r.close ≡ true
  pub no_body : (wants_length r.method ≡ true) ⊎ (r.body ≡ [])
  pub host : IsValue authority
  pub head_fits : length (request_line r ++ request_fields_text r authority) ≤ limits.head
  pub body_fits : length r.body ≤ limits.body
  pub digits_fit : length r.body < 1000000000

-- the bytes of such a request are that request
abbrev pub RequestsReadAgain : Type 0
RequestsReadAgain =
    (limits : HttpLimits) (r : Request) (authority : List ℕ) → IsSendable limits r authority → IsMessage requests limits (request_text r authority) r

-- the methods of a 405
abbrev pub IsAllow : ℕ → List ℕ → Type 0
IsAllow status methods = (status ≡ 405) × IsValue methods × IsUtf8 methods

pub record IsReplying (limits : HttpLimits) (r : Response) : Type 0 where
  pub least : 100 ≤ r.status
  pub most : r.status ≤ 999
  pub phrase : AllPass is_value_byte (phrase_text r.status)
  pub allow : IfSome r.allow (IsAllow r.status)
  pub head_fits : length (status_line r.status ++ response_fields_text r) ≤ limits.head
  pub body_fits : length r.body ≤ limits.body
  pub digits_fit : length r.body < 1000000000

-- the bytes of such a response are that response
abbrev pub ResponsesReadAgain : Type 0
ResponsesReadAgain = (limits : HttpLimits) (r : Response) → IsReplying limits r → IsMessage responses limits (response_text r) r

-- The fields of a head, a name and a value each, and what the profile reads from them (RFC 9110, RFC 9112).
use Rattle.std.specs.Prelude.{ℕ, ◌==◌, nat_le, nat_lt, Bool, ◌&&◌, ◌||◌, List, [], ◌∷◌, length, map, Option, Some, None, is_some, if◌then◌else◌, codes}
use Rattle.std.specs.List.{list_all, list_any, position_or_len, before_first, after_first}
use Rattle.std.specs.Char.{is_ascii_alphanumeric}
use Rattle.std.specs.Str.{str_eq_ignore_ascii_case}
use Rattle.httparse.specs.declared.spans.HeaderSpan.{HeaderSpan}
use Rattle.httparse.specs.Spans.{header_bytes}
use Rattle.ps_time.specs.Number.{decimal_of}
use Rattle.ps_http.specs.declared.message.PeerMark.{PeerMark}

-- the values of the fields with this name, whose letters may be of either case
abbrev pub values_of : List ℕ → List (List ℕ × List ℕ) → List (List ℕ)
values_of name [] = []
values_of name (field ∷ fields) = if str_eq_ignore_ascii_case field.0 name then field.1 ∷ values_of name fields else values_of name fields

abbrev pub is_close : List ℕ → Bool
is_close value = str_eq_ignore_ascii_case value (codes "close")

-- the connection is to be closed: a Connection field says so, or the version is 1.0
abbrev pub asks_close : ℕ → List (List ℕ × List ℕ) → Bool
asks_close minor fields = minor == 0 || list_any is_close (values_of (codes "connection") fields)

-- the byte at which a value or a target is cut
abbrev pub cuts_at : ℕ → ℕ → Bool
cuts_at byte b = b == byte

-- what stands behind the first such byte, where there is one
abbrev pub behind : ℕ → List ℕ → Option (List ℕ)
behind byte text = if nat_lt (position_or_len (cuts_at byte) text) (length text) then Some (after_first (cuts_at byte) text) else None

-- a key of a peer: 1 to 64 letters and digits
abbrev pub is_key : List ℕ → Bool
is_key key = nat_le 1 (length key) && (nat_le (length key) 64 && list_all is_ascii_alphanumeric key)

abbrev pub mark : ℕ → List ℕ → PeerMark
mark number key = record { number = number; key = key }

abbrev pub mark_of : Option ℕ → Option (List ℕ) → Option PeerMark
mark_of None key = None
mark_of (Some number) None = None
mark_of (Some number) (Some key) = if nat_le number 65535 && is_key key then Some (mark number key) else None

-- the value of a `ps-peer` field: a number of 1 to 5 digits up to 65535, a space, and a key
abbrev pub peer_of : List ℕ → Option PeerMark
peer_of value = mark_of (decimal_of 1 5 (before_first (cuts_at 32) value)) (behind 32 value)

-- each value is a peer's
abbrev pub are_peers : List (List ℕ) → Bool
are_peers values = list_all (λ v. is_some (peer_of v)) values

-- the first value's peer
abbrev pub first_peer : List (List ℕ) → Option PeerMark
first_peer [] = None
first_peer (value ∷ values) = peer_of value

-- what Content-Length fields say, if anything: there is at most one, and it has 1 to 9 digits
abbrev pub length_of : List (List ℕ) → Option (Option ℕ)
length_of [] = Some None
length_of (value ∷ []) = said (decimal_of 1 9 value)
  where
    said : Option ℕ → Option (Option ℕ)
    said None = None
    said (Some n) = Some (Some n)
length_of (value ∷ other ∷ values) = None

-- the fields that lie at these places of the bytes
abbrev pub fields_in : List ℕ → List HeaderSpan → List (List ℕ × List ℕ)
fields_in bytes spans = map (header_bytes bytes) spans

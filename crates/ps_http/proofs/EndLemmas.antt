-- Where the heads of the grammar end: behind the first empty line that follows a line.
use Rattle.std.proofs.Common.{◌≡◌, ◌<◌, ◌≤◌, ◌+◌, ℕ, Bool, true, false, List, [], ◌∷◌, ◌++◌, length, refl, sym, ap, ◌∙◌, arith, append_assoc, length-append, All, take, not}
use Rattle.std.specs.Prelude.{codes, IsTrue}
use Rattle.std.specs.List.{flat_map}
use Rattle.std.specs.Char.{is_ascii_digit}
use Rattle.std.proofs.lemmas.Bool.Decides.{nat_tests}
use Rattle.std.proofs.lemmas.List.{take_at}
use Rattle.std.proofs.lemmas.List.Sums.{AllPass-from_list_all}
use Rattle.std.proofs.lemmas.List.Elements.{All-head, All-tail, All-append, All-cons, All-nil, All-weaker}
use Rattle.httparse.specs.Grammar.{AllPass, LineEnd, crlf, lf, print_end, print_blank, print_version, Field, IsField, print_field, print_section, RequestHead, IsRequestHead, print_request, ResponseHead, IsResponseHead, print_response, reason_phrase, print_reason, EndsInTarget, is_token_byte, is_uri_byte, is_value_byte}
use Rattle.httparse.specs.Pieces.{is_newline}
use Rattle.httparse.proofs.PieceLemmas.{token_is_no_newline}
use Rattle.std.proofs.lemmas.Bool.{false≢true, not-true}
use Rattle.std.specs.Prelude.{Option, Some, None}
use Rattle.ps_http.proofs.ScanLemmas.{positions-append, scanned_head}
use Rattle.ps_http.specs.Lines.{has_head_end}
use Rattle.ps_http.specs.Scan.{is_ended, position_after, positions_after}
use Rattle.ps_http.specs.declared.lines.LinePosition.{LinePosition}
use Rattle.ps_http.specs.declared.lines.LinePosition.TheVariants.{Before, BeforeCr, Inside, Start, StartCr, Ended}

is_ended_there : (place : LinePosition) → is_ended place ≡ true → place ≡ Ended
is_ended_there Ended there = refl
is_ended_there Before there = absurd (false≢true there)
is_ended_there BeforeCr there = absurd (false≢true there)
is_ended_there Inside there = absurd (false≢true there)
is_ended_there Start there = absurd (false≢true there)
is_ended_there StartCr there = absurd (false≢true there)

pub ended_stays : (bytes : List ℕ) → positions_after Ended bytes ≡ Ended
ended_stays [] = refl
ended_stays (b ∷ bytes) = ended_stays bytes

-- bytes of a line
abbrev pub IsInLine : List ℕ → Type 0
IsInLine bytes = All (λ b. is_newline b ≡ false) bytes

pub inside : (bytes : List ℕ) → IsInLine bytes → positions_after Inside bytes ≡ Inside
inside [] plain = refl
inside (b ∷ bytes) plain =
    let P : ℕ → Type 0 = λ b. is_newline b ≡ false in
    let here : is_newline b ≡ false = All-head P b bytes plain in
    let next : position_after Inside b ≡ Inside = grind (arith, nat_tests, here) in
    ap (λ p. positions_after p bytes) next ∙ inside bytes (All-tail P b bytes plain)

-- before a line begins
pub data LineStart : LinePosition → Type 0 where
  first : LineStart Before
  later : LineStart Start

begins : {place : LinePosition} (b : ℕ) → LineStart place → is_newline b ≡ false → position_after place b ≡ Inside
begins b first here = grind (arith, nat_tests, here)
begins b later here = grind (arith, nat_tests, here)

line : {place : LinePosition} (bytes : List ℕ) → LineStart place → 0 < length bytes → IsInLine bytes → positions_after place bytes ≡ Inside
line [] at some plain = absurd (omega (arith, some))
line (b ∷ bytes) at some plain =
    let P : ℕ → Type 0 = λ b. is_newline b ≡ false in
    ap (λ p. positions_after p bytes) (begins b at (All-head P b bytes plain)) ∙ inside bytes (All-tail P b bytes plain)

line_end : (e : LineEnd) → positions_after Inside (print_end e) ≡ Start
line_end crlf = refl
line_end lf = refl

-- a line with its end
whole_line : {place : LinePosition} (bytes : List ℕ) (e : LineEnd) → LineStart place → 0 < length bytes → IsInLine bytes
    → positions_after place (bytes ++ print_end e) ≡ Start
whole_line {place} bytes e at some plain =
    positions-append place bytes (print_end e) ∙ ap (λ p. positions_after p (print_end e)) (line bytes at some plain) ∙ line_end e

empty_line : (e : LineEnd) → positions_after Before (print_end e) ≡ Before
empty_line crlf = refl
empty_line lf = refl

blank_lines : (ends : List LineEnd) → positions_after Before (print_blank ends) ≡ Before
blank_lines [] = refl
blank_lines (e ∷ ends) = positions-append Before (print_end e) (print_blank ends) ∙ ap (λ p. positions_after p (print_blank ends)) (empty_line e) ∙ blank_lines ends

-- a line behind the empty ones
behind_blank : (ends : List LineEnd) (bytes : List ℕ) → 0 < length bytes → IsInLine bytes → positions_after Before (print_blank ends ++ bytes) ≡ Inside
behind_blank ends bytes some plain =
    positions-append Before (print_blank ends) bytes ∙ ap (λ p. positions_after p bytes) (blank_lines ends) ∙ line bytes first some plain

-- ---- the bytes of lines

abbrev IsPlain : ℕ → Type 0
IsPlain b = is_newline b ≡ false

value_plain : (b : ℕ) → is_value_byte b ≡ true → is_newline b ≡ false
value_plain b value = grind (arith, nat_tests, value)

uri_plain : (b : ℕ) → is_uri_byte b ≡ true → is_newline b ≡ false
uri_plain b uri = grind (arith, nat_tests, uri)

digit_plain : (b : ℕ) → is_ascii_digit b ≡ true → is_newline b ≡ false
digit_plain b digit = grind (arith, nat_tests, digit)

plain_by : (test : ℕ → Bool) → ((b : ℕ) → test b ≡ true → is_newline b ≡ false) → (bytes : List ℕ) → AllPass test bytes → IsInLine bytes
plain_by test rule bytes pass = All-weaker (λ b. IsTrue (test b)) IsPlain rule bytes pass

plain_token : (bytes : List ℕ) → AllPass is_token_byte bytes → IsInLine bytes
plain_token = plain_by is_token_byte token_is_no_newline

plain_then : (b : ℕ) (front bytes : List ℕ) → is_newline b ≡ false → IsInLine front → IsInLine bytes → IsInLine (front ++ b ∷ bytes)
plain_then b front bytes here before after = All-append IsPlain front (b ∷ bytes) before (All-cons IsPlain b bytes here after)

-- ---- fields

field_line : (f : Field) → IsField f → positions_after Start (print_field f) ≡ Start
field_line f is =
    let plain = plain_then 58 f.name f.raw refl (plain_token f.name is.name.1) (plain_by is_value_byte value_plain f.raw is.raw) in
    whole_line (f.name ++ 58 ∷ f.raw) f.end later (omega (arith, is.name.0, length-append f.name (58 ∷ f.raw))) plain

field_lines : (fields : List Field) → All IsField fields → positions_after Start (flat_map print_field fields) ≡ Start
field_lines [] all = refl
field_lines (f ∷ fields) all =
    positions-append Start (print_field f) (flat_map print_field fields)
    ∙ ap (λ p. positions_after p (flat_map print_field fields)) (field_line f (All-head IsField f fields all)) ∙ field_lines fields (All-tail IsField f fields all)

-- ---- heads

-- a text whose last line is the first empty one behind a line
pub record EndsThere (text : List ℕ) : Type 0 where
  pub front : List ℕ
  pub last : LineEnd
  pub text_is : text ≡ front ++ print_end last
  pub lines : positions_after Before front ≡ Start

version_plain : (minor : ℕ) → minor ≤ 1 → IsInLine (print_version minor)
version_plain minor low =
    let digit : is_newline (48 + minor) ≡ false = grind (arith, nat_tests, low) in
    let name = All-weaker (λ b. IsTrue (not (is_newline b))) IsPlain (λ b. not-true (is_newline b)) (codes "HTTP/1.")
    (AllPass-from_list_all (λ b. not (is_newline b)) (codes "HTTP/1.") refl) in
    All-append IsPlain (codes "HTTP/1.") ((48 + minor) ∷ []) name (All-cons IsPlain (48 + minor) [] digit (All-nil IsPlain))

with_fields : (start : List ℕ) (e : LineEnd) (fields : List Field) (last : LineEnd) → positions_after Before start ≡ Inside → All IsField fields
    → EndsThere (start ++ print_end e ++ print_section fields last)
with_fields start e fields last at all = record {
  front = (start ++ print_end e) ++ flat_map print_field fields;
  last = last;
  text_is = sym (append_assoc (start ++ print_end e) (flat_map print_field fields) (print_end last));
  lines =
      positions-append Before (start ++ print_end e) (flat_map print_field fields)
      ∙ ap (λ p. positions_after p (flat_map print_field fields)) (positions-append Before start (print_end e) ∙ ap (λ p. positions_after p (print_end e)) at ∙ line_end e)
      ∙ field_lines fields all;
}

pub request_ends : (h : RequestHead) → IsRequestHead h → EndsThere (print_request h)
unfolding print_request
request_ends h is =
    let words = h.method ++ 32 ∷ h.target ++ 32 ∷ print_version h.minor in
    let plain : IsInLine words =
    plain_then 32 (h.method ++ 32 ∷ h.target) (print_version h.minor) refl
    (plain_then 32 h.method h.target refl (plain_token h.method is.method.1) (plain_by is_uri_byte uri_plain h.target is.target.1))
    (version_plain h.minor is.minor) in
    let some : 0 < length words = omega (arith, is.method.0, length-append h.method (32 ∷ h.target), length-append (h.method ++ 32 ∷ h.target) (32 ∷ print_version h.minor)) in
    let grouped =
    ap (λ l. l ++ 32 ∷ print_version h.minor) (append_assoc (print_blank h.blank) h.method (32 ∷ h.target))
    ∙ append_assoc (print_blank h.blank) (h.method ++ 32 ∷ h.target) (32 ∷ print_version h.minor) in
    with_fields (print_blank h.blank ++ h.method ++ 32 ∷ h.target ++ 32 ∷ print_version h.minor) h.line_end h.fields h.last
    (ap (positions_after Before) grouped ∙ behind_blank h.blank words some plain) is.fields

reason_plain : (reason : Option (List ℕ)) → AllPass is_value_byte (reason_phrase reason) → IsInLine (print_reason reason)
reason_plain None pass = All-nil IsPlain
reason_plain (Some phrase) pass = All-cons IsPlain 32 phrase refl (plain_by is_value_byte value_plain phrase pass)

pub response_ends : (h : ResponseHead) → IsResponseHead h → EndsThere (print_response h)
unfolding print_response
response_ends h is =
    let words = print_version h.minor ++ 32 ∷ h.digits ++ print_reason h.reason in
    let plain : IsInLine words =
    All-append IsPlain (print_version h.minor ++ 32 ∷ h.digits) (print_reason h.reason)
    (plain_then 32 (print_version h.minor) h.digits refl (version_plain h.minor is.minor) (plain_by is_ascii_digit digit_plain h.digits is.digits.1))
    (reason_plain h.reason is.reason) in
    let some : 0 < length words = omega (arith, length-append (print_version h.minor) (32 ∷ h.digits), length-append (print_version h.minor ++ 32 ∷ h.digits) (print_reason h.reason)) in
    let grouped =
    ap (λ l. l ++ print_reason h.reason) (append_assoc (print_blank h.blank) (print_version h.minor) (32 ∷ h.digits))
    ∙ append_assoc (print_blank h.blank) (print_version h.minor ++ 32 ∷ h.digits) (print_reason h.reason) in
    with_fields (print_blank h.blank ++ print_version h.minor ++ 32 ∷ h.digits ++ print_reason h.reason) h.line_end h.fields h.last
    (ap (positions_after Before) grouped ∙ behind_blank h.blank words some plain) is.fields

-- ---- what ends there has its first end there

ended_by : (e : LineEnd) → positions_after Start (print_end e) ≡ Ended
ended_by crlf = refl
ended_by lf = refl

ended_text : (text : List ℕ) → EndsThere text → positions_after Before text ≡ Ended
ended_text text ends =
    ap (positions_after Before) ends.text_is ∙ positions-append Before ends.front (print_end ends.last)
    ∙ ap (λ p. positions_after p (print_end ends.last)) ends.lines ∙ ended_by ends.last

-- what has ended stays so
pub ended_longer : (bytes more : List ℕ) → has_head_end bytes ≡ true → has_head_end (bytes ++ more) ≡ true
ended_longer bytes more ended =
    let place = is_ended_there (positions_after Before bytes) (scanned_head bytes ∙ ended) in
    sym (scanned_head (bytes ++ more)) ∙ ap is_ended (positions-append Before bytes more ∙ ap (λ p. positions_after p more) place ∙ ended_stays more)

pub has_end : (text rest : List ℕ) → EndsThere text → has_head_end (text ++ rest) ≡ true
has_end text rest ends = ended_longer text rest (sym (scanned_head text) ∙ ap is_ended (ended_text text ends))

-- ---- a proper front of it has no end

without_last : (b : ℕ) (bytes : List ℕ) → (front : List ℕ) × (last : ℕ) × (b ∷ bytes ≡ front ++ last ∷ [])
without_last b [] = ([], b, refl)
without_last b (c ∷ bytes) = let rest = without_last c bytes in (b ∷ rest.0, rest.1, ap (λ l. b ∷ l) rest.2)

same_fronts : (xs ys : List ℕ) (x y : ℕ) → xs ++ x ∷ [] ≡ ys ++ y ∷ [] → xs ≡ ys
same_fronts xs ys x y same =
    let len : length ys ≡ length xs = omega (arith, ap length same, length-append xs (x ∷ []), length-append ys (y ∷ [])) in
    sym (take_at xs (x ∷ []) (length xs) refl) ∙ ap (take (length xs)) same ∙ take_at ys (y ∷ []) (length xs) len

-- all but its last byte have none
record Unended (text : List ℕ) : Type 0 where
  bytes : List ℕ
  last : ℕ
  split : text ≡ bytes ++ last ∷ []
  unended : has_head_end bytes ≡ false

not_ended : (text : List ℕ) → EndsThere text → Unended text
not_ended text ends = by_last ends.last ends.text_is
  where
    by_last : (e : LineEnd) → text ≡ ends.front ++ print_end e → Unended text
    by_last crlf is = record {
      bytes = ends.front ++ 13 ∷ [];
      last = 10;
      split = is ∙ sym (append_assoc ends.front (13 ∷ []) (10 ∷ []));
      unended = sym (scanned_head (ends.front ++ 13 ∷ [])) ∙ ap is_ended (positions-append Before ends.front (13 ∷ []) ∙ ap (λ p. positions_after p (13 ∷ [])) ends.lines);
    }
    by_last lf is = record { bytes = ends.front; last = 10; split = is; unended = sym (scanned_head ends.front) ∙ ap is_ended ends.lines }

pub has_no_end : (text front more : List ℕ) → EndsThere text → text ≡ front ++ more → has_head_end front ≡ true → more ≡ []
has_no_end text front [] ends split ended = refl
has_no_end text front (b ∷ more) ends split ended =
    let all = not_ended text ends in
    let rest = without_last b more in
    let same = same_fronts all.bytes (front ++ rest.0) all.last rest.1
    (sym all.split ∙ split ∙ ap (λ l. front ++ l) rest.2 ∙ sym (append_assoc front rest.0 (rest.1 ∷ []))) in
    absurd (false≢true (sym all.unended ∙ ap has_head_end same ∙ ended_longer front rest.0 ended))

-- ---- bytes that end inside a target

pub target_open : (bytes : List ℕ) → EndsInTarget bytes → has_head_end bytes ≡ false
target_open bytes (blank, method, target, token, uri, is) =
    let words = method ++ 32 ∷ target in
    let plain = plain_then 32 method target refl (plain_token method token.1) (plain_by is_uri_byte uri_plain target uri) in
    let some : 0 < length words = omega (arith, token.0, length-append method (32 ∷ target)) in
    sym (scanned_head bytes) ∙ ap (λ l. is_ended (positions_after Before l)) (is ∙ append_assoc (print_blank blank) method (32 ∷ target))
    ∙ ap is_ended (behind_blank blank words some plain)

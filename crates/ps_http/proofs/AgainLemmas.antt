-- Requests are read again as they were written.
use Rattle.std.proofs.Common.{◌≡◌, ◌≤◌, ◌<◌, ◌+◌, ◌^◌, ◌⊎◌, inl, inr, ◌==◌, ℕ, true, false, Bool, ◌&&◌, not, nat_le, nat_lt, List, [], ◌∷◌, ◌++◌, length, map, reverse, refl, sym, ap, subst, ◌∙◌, arith, append_assoc, append-nil, length-append, All, Option, Some, None, Ok, Err, take, drop}
use Rattle.std.specs.Prelude.{codes, IsTrue, IsUtf8, IfSome, if◌then◌else◌}
use Rattle.std.specs.Fmt.{decimal}
use Rattle.std.specs.Option.{unwrap_or}
use Rattle.std.specs.Char.{is_ascii_digit, is_ascii_alphanumeric}
use Rattle.std.specs.Str.{all_ascii_digits}
use Rattle.std.specs.List.{slice_get, flat_map, list_all, before_first, position_or_len}
use Rattle.std.proofs.lemmas.Bool.Decides.{nat_tests}
use Rattle.std.proofs.lemmas.Bool.{and_parts, and_from, eq-eqb, lt-ltb, le-ltb, le-leb, ltb-true, false≢true}
use Rattle.std.proofs.lemmas.List.{reverse-append, map-append, length-reverse, take_at, take_all, drop_at}
use Rattle.std.proofs.lemmas.Str.{IsUtf8-append, IsUtf8-from_ascii}
use Rattle.ps_time.specs.Number.{decimal_of}
use Rattle.ps_http.specs.Answer.{requests, IsMessage}
use Rattle.ps_http.proofs.AsciiLemmas.{cons_ascii, nil_ascii}
use Rattle.ps_http.specs.declared.fault.HttpFault.TheVariants.{BadHead}
use Rattle.std.proofs.lemmas.List.Concat.{flat_map-append}
use Rattle.std.proofs.lemmas.List.Elements.{All-head, All-tail, All-cons, All-nil, All-append, All-weaker}
use Rattle.std.proofs.lemmas.List.Sums.{AllPass-from_list_all}
use Rattle.std.proofs.lemmas.Fmt.{digits_decimal, decimal_nonempty, length-decimal-le}
use Rattle.httparse.specs.Grammar.{AllPass, is_token, is_token_byte, is_uri_byte, is_value_byte, is_ows, skip_ows, crlf, Field, IsField, print_field, print_section, RequestHead, print_request}
use Rattle.httparse.specs.Spans.{name_and_value}
use Rattle.httparse.proofs.TrimLemmas.{trim_ows_space, AllPass-reverse}
use Rattle.httparse.proofs.GrammarLemmas.{print_request-append}
use Rattle.ps_time.proofs.NumberLemmas.{decimal_of-decimal}
use Rattle.std.specs.Str.Parse.{digits_value}
use Rattle.std.proofs.lemmas.Str.Parse.{IsNumeralModel, numerals_by_value, tells_all_ascii_digits}
use Rattle.ps_http.specs.Fields.{values_of, cuts_at, behind, is_key, asks_close, peer_of, mark_of, are_peers, first_peer, length_of}
use Rattle.ps_http.specs.Message.{wants_length, body_length, length_or_bad, fits_request}
use Rattle.ps_http.specs.Sendable.{IsValue, IsMark, IsQuery, IsSendable, is_path_byte}
use Rattle.ps_http.specs.Written.{field_text, query_text, mark_text, peer_text, request_line, request_fields_text, request_text, length_text, close_text, line_end}
use Rattle.ps_http.specs.declared.message.HttpLimits.{HttpLimits}
use Rattle.ps_http.specs.declared.message.PeerMark.{PeerMark}
use Rattle.ps_http.specs.declared.message.Request.{Request}

pub own : IsNumeralModel (λ ds. all_ascii_digits ds ≡ true) (digits_value 10)
own = numerals_by_value _ tells_all_ascii_digits

-- ---- the head that is written

-- a field with a space before its value
abbrev pub written_field : List ℕ → List ℕ → Field
written_field name value = record { name = name; raw = 32 ∷ value; end = crlf }

abbrev peer_fields : Option PeerMark → List Field
peer_fields None = []
peer_fields (Some mark) = written_field (codes "ps-peer") (mark_text mark) ∷ []

abbrev length_fields : Bool → List ℕ → List Field
length_fields true body = written_field (codes "Content-Length") (decimal (length body)) ∷ []
length_fields false body = []

abbrev close_fields : List Field
close_fields = written_field (codes "Connection") (codes "close") ∷ []

abbrev fields_of : Request → List ℕ → List Field
fields_of r authority = written_field (codes "Host") authority ∷ (peer_fields r.peer ++ (length_fields (wants_length r.method) r.body ++ close_fields))

abbrev head_of : Request → List ℕ → RequestHead
head_of r authority = record {
  blank = [];
  method = r.method;
  target = r.path ++ query_text r.query;
  minor = 1;
  line_end = crlf;
  fields = fields_of r authority;
  last = crlf;
}

-- ---- its bytes

pub field_bytes : (name value : List ℕ) → print_field (written_field name value) ≡ field_text name value
field_bytes name value = append_assoc name (58 ∷ 32 ∷ value) (13 ∷ 10 ∷ [])

peer_bytes : (peer : Option PeerMark) → flat_map print_field (peer_fields peer) ≡ peer_text peer
peer_bytes None = refl
peer_bytes (Some mark) = append-nil (print_field (written_field (codes "ps-peer") (mark_text mark))) ∙ field_bytes (codes "ps-peer") (mark_text mark)

length_bytes : (wanted : Bool) (body : List ℕ) → flat_map print_field (length_fields wanted body) ≡ (if wanted then length_text body else [])
unfolding length_text
length_bytes true body =
    append-nil (print_field (written_field (codes "Content-Length") (decimal (length body)))) ∙ field_bytes (codes "Content-Length") (decimal (length body))
length_bytes false body = refl

pub regroup : (h p l c e : List ℕ) → (h ++ (p ++ (l ++ c))) ++ e ≡ h ++ (p ++ (l ++ (c ++ e)))
regroup h p l c e =
    append_assoc h (p ++ (l ++ c)) e ∙ ap (λ x. h ++ x) (append_assoc p (l ++ c) e ∙ ap (λ x. p ++ x) (append_assoc l c e))

fields_bytes : (r : Request) (authority : List ℕ) → print_section (fields_of r authority) crlf ≡ request_fields_text r authority
fields_bytes r authority =
    let peers = peer_fields r.peer in
    let lengths = length_fields (wants_length r.method) r.body in
    let tail = flat_map-append print_field peers (lengths ++ close_fields) ∙ ap (λ x. flat_map print_field peers ++ x) (flat_map-append print_field lengths close_fields) in
    ap (λ x. (print_field (written_field (codes "Host") authority) ++ x) ++ line_end) tail
    ∙ regroup (print_field (written_field (codes "Host") authority)) (flat_map print_field peers) (flat_map print_field lengths) (flat_map print_field close_fields) line_end
    ∙ (λ i. field_bytes (codes "Host") authority i ++ (peer_bytes r.peer i ++ (length_bytes (wants_length r.method) r.body i ++ (close_text ++ line_end))))

line_bytes : (m p q v x : List ℕ) → (m ++ (32 ∷ (p ++ (q ++ v)))) ++ x ≡ m ++ (32 ∷ ((p ++ q) ++ (v ++ x)))
line_bytes m p q v x =
    append_assoc m (32 ∷ (p ++ (q ++ v))) x
    ∙ ap (λ l. m ++ (32 ∷ l)) (append_assoc p (q ++ v) x ∙ ap (λ l. p ++ l) (append_assoc q v x) ∙ sym (append_assoc p q (v ++ x)))

text_is : (r : Request) (authority : List ℕ) → request_text r authority ≡ print_request (head_of r authority) ++ r.body
text_is r authority =
    line_bytes r.method r.path (query_text r.query) (codes " HTTP/1.1" ++ line_end) (request_fields_text r authority ++ r.body)
    ∙ ap (λ x. r.method ++ (32 ∷ ((r.path ++ query_text r.query) ++ (32 ∷ 72 ∷ 84 ∷ 84 ∷ 80 ∷ 47 ∷ 49 ∷ 46 ∷ 49 ∷ 13 ∷ 10 ∷ (x ++ r.body))))) (sym (fields_bytes r authority))
    ∙ sym (print_request-append (head_of r authority) r.body)

-- ---- values

-- a value that begins with a byte that passes
skip_run : (test : ℕ → Bool) → ((b : ℕ) → test b ≡ true → is_ows b ≡ false) → (bytes rest : List ℕ) → 0 < length bytes → AllPass test bytes
    → skip_ows (bytes ++ rest) ≡ bytes ++ rest
skip_run test rule [] rest some pass = absurd (omega (arith, some))
skip_run test rule (b ∷ bytes) rest some pass =
    let here : is_ows b ≡ false = rule b (All-head (λ x. IsTrue (test x)) b bytes pass) in rw here refl

digit_no_ows : (b : ℕ) → is_ascii_digit b ≡ true → is_ows b ≡ false
digit_no_ows b digit = grind (arith, nat_tests, digit)

letter_no_ows : (b : ℕ) → is_ascii_alphanumeric b ≡ true → is_ows b ≡ false
letter_no_ows b letter = grind (arith, nat_tests, letter)

digit_value : (b : ℕ) → is_ascii_digit b ≡ true → is_value_byte b ≡ true
digit_value b digit = grind (arith, nat_tests, digit)

letter_value : (b : ℕ) → is_ascii_alphanumeric b ≡ true → is_value_byte b ≡ true
letter_value b letter = grind (arith, nat_tests, letter)

digits_pass : (ds : List ℕ) → all_ascii_digits ds ≡ true → AllPass is_ascii_digit ds
digits_pass [] all = All-nil (λ b. IsTrue (is_ascii_digit b))
digits_pass (d ∷ ds) all =
    let parts = and_parts (is_ascii_digit d) (all_ascii_digits ds) all in
    All-cons (λ b. IsTrue (is_ascii_digit b)) d ds parts.0 (digits_pass ds parts.1)

pub decimal_digits : (n : ℕ) → n < 2 ^ 64 → AllPass is_ascii_digit (decimal n)
decimal_digits n small = digits_pass (decimal n) (digits_decimal own n small)

pub decimal_is_value : (n : ℕ) → n < 2 ^ 64 → IsValue (decimal n)
decimal_is_value n small =
    let digits = decimal_digits n small in
    let some = decimal_nonempty n small in
    let back = AllPass-reverse is_ascii_digit (decimal n) digits in
    record {
      bytes = All-weaker (λ b. IsTrue (is_ascii_digit b)) (λ b. IsTrue (is_value_byte b)) digit_value (decimal n) digits;
      front = ap skip_ows (sym (append-nil (decimal n))) ∙ skip_run is_ascii_digit digit_no_ows (decimal n) [] some digits ∙ append-nil (decimal n);
      back = ap skip_ows (sym (append-nil (reverse (decimal n))))
          ∙ skip_run is_ascii_digit digit_no_ows (reverse (decimal n)) [] (omega (arith, some, length-reverse (decimal n))) back ∙ append-nil (reverse (decimal n));
    }

mark_is_value : (mark : PeerMark) → IsMark mark → IsValue (mark_text mark)
mark_is_value mark is =
    let small : mark.number < 2 ^ 64 = omega (arith, is.0) in
    let number = decimal mark.number in
    let digits = decimal_digits mark.number small in
    let some : 1 ≤ length mark.key = grind (arith, nat_tests, is.1) in
    let letters : list_all is_ascii_alphanumeric mark.key ≡ true = grind (arith, nat_tests, is.1) in
    let key = AllPass-from_list_all is_ascii_alphanumeric mark.key letters in
    let back = AllPass-reverse is_ascii_alphanumeric mark.key key in
    let split : mark_text mark ≡ (number ++ 32 ∷ []) ++ mark.key = sym (append_assoc number (32 ∷ []) mark.key) in
    let turned : reverse (mark_text mark) ≡ reverse mark.key ++ reverse (number ++ 32 ∷ []) = ap reverse split ∙ reverse-append (number ++ 32 ∷ []) mark.key in
    let V : ℕ → Type 0 = λ b. IsTrue (is_value_byte b) in
    record {
      bytes = All-append V number (32 ∷ mark.key) (All-weaker (λ b. IsTrue (is_ascii_digit b)) V digit_value number digits)
          (All-cons V 32 mark.key refl (All-weaker (λ b. IsTrue (is_ascii_alphanumeric b)) V letter_value mark.key key));
      front = skip_run is_ascii_digit digit_no_ows number (32 ∷ mark.key) (decimal_nonempty mark.number small) digits;
      back = ap skip_ows turned
          ∙ skip_run is_ascii_alphanumeric letter_no_ows (reverse mark.key) (reverse (number ++ 32 ∷ [])) (omega (arith, some, length-reverse mark.key)) back ∙ sym turned;
    }

pub value_again : (name value : List ℕ) → IsValue value → name_and_value (written_field name value) ≡ (name, value)
value_again name value is = ap (λ v. (name, v)) (trim_ows_space value is.front is.back)

-- ---- the fields as they are read

abbrev peer_pairs : Option PeerMark → List (List ℕ × List ℕ)
peer_pairs None = []
peer_pairs (Some mark) = (codes "ps-peer", mark_text mark) ∷ []

abbrev length_pairs : Bool → List ℕ → List (List ℕ × List ℕ)
length_pairs true body = (codes "Content-Length", decimal (length body)) ∷ []
length_pairs false body = []

abbrev close_pairs : List (List ℕ × List ℕ)
close_pairs = (codes "Connection", codes "close") ∷ []

abbrev pairs_of : Option PeerMark → Bool → List ℕ → List ℕ → List (List ℕ × List ℕ)
pairs_of peer wanted body authority = (codes "Host", authority) ∷ (peer_pairs peer ++ (length_pairs wanted body ++ close_pairs))

pub close_is_value : IsValue (codes "close")
close_is_value = record { bytes = AllPass-from_list_all is_value_byte (codes "close") refl; front = refl; back = refl }

peer_again : (peer : Option PeerMark) → IfSome peer IsMark → map name_and_value (peer_fields peer) ≡ peer_pairs peer
peer_again None is = refl
peer_again (Some mark) is = ap (λ p. p ∷ []) (value_again (codes "ps-peer") (mark_text mark) (mark_is_value mark is))

length_again : (wanted : Bool) (body : List ℕ) → length body < 2 ^ 64 → map name_and_value (length_fields wanted body) ≡ length_pairs wanted body
length_again true body small = ap (λ p. p ∷ []) (value_again (codes "Content-Length") (decimal (length body)) (decimal_is_value (length body) small))
length_again false body small = refl

fields_again : (r : Request) (authority : List ℕ) → IsValue authority → IfSome r.peer IsMark → length r.body < 2 ^ 64
    → map name_and_value (fields_of r authority) ≡ pairs_of r.peer (wants_length r.method) r.body authority
fields_again r authority host peer small =
    let peers = peer_fields r.peer in
    let lengths = length_fields (wants_length r.method) r.body in
    let tail = map-append name_and_value peers (lengths ++ close_fields) ∙ ap (λ x. map name_and_value peers ++ x) (map-append name_and_value lengths close_fields) in
    let close = ap (λ (p : List ℕ × List ℕ). p ∷ []) (value_again (codes "Connection") (codes "close") close_is_value) in
    ap (λ x. name_and_value (written_field (codes "Host") authority) ∷ x) tail
    ∙ (λ i. value_again (codes "Host") authority host i ∷ (peer_again r.peer peer i ++ (length_again (wants_length r.method) r.body small i ++ close i)))

hosts_again : (peer : Option PeerMark) (wanted : Bool) (body authority : List ℕ) → (length (values_of (codes "host") (pairs_of peer wanted body authority)) == 1) ≡ true
hosts_again None true body authority = refl
hosts_again None false body authority = refl
hosts_again (Some mark) true body authority = refl
hosts_again (Some mark) false body authority = refl

abbrev peer_values : Option PeerMark → List (List ℕ)
peer_values None = []
peer_values (Some mark) = mark_text mark ∷ []

peers_again : (peer : Option PeerMark) (wanted : Bool) (body authority : List ℕ) → values_of (codes "ps-peer") (pairs_of peer wanted body authority) ≡ peer_values peer
peers_again None true body authority = refl
peers_again None false body authority = refl
peers_again (Some mark) true body authority = refl
peers_again (Some mark) false body authority = refl

abbrev length_values : Bool → List ℕ → List (List ℕ)
length_values true body = decimal (length body) ∷ []
length_values false body = []

lengths_again : (peer : Option PeerMark) (wanted : Bool) (body authority : List ℕ)
    → values_of (codes "content-length") (pairs_of peer wanted body authority) ≡ length_values wanted body
lengths_again None true body authority = refl
lengths_again None false body authority = refl
lengths_again (Some mark) true body authority = refl
lengths_again (Some mark) false body authority = refl

encodings_again : (peer : Option PeerMark) (wanted : Bool) (body authority : List ℕ)
    → values_of (codes "transfer-encoding") (pairs_of peer wanted body authority) ≡ []
encodings_again None true body authority = refl
encodings_again None false body authority = refl
encodings_again (Some mark) true body authority = refl
encodings_again (Some mark) false body authority = refl

closes_again : (peer : Option PeerMark) (wanted : Bool) (body authority : List ℕ) → asks_close 1 (pairs_of peer wanted body authority) ≡ true
closes_again None true body authority = refl
closes_again None false body authority = refl
closes_again (Some mark) true body authority = refl
closes_again (Some mark) false body authority = refl

few_again : (peer : Option PeerMark) (wanted : Bool) (body authority : List ℕ) → nat_lt 64 (length (pairs_of peer wanted body authority)) ≡ false
few_again None true body authority = refl
few_again None false body authority = refl
few_again (Some mark) true body authority = refl
few_again (Some mark) false body authority = refl

-- ---- texts that are cut

cut_behind : (byte : ℕ) (front rest : List ℕ) → All (λ b. cuts_at byte b ≡ false) front → position_or_len (cuts_at byte) (front ++ byte ∷ rest) ≡ length front
cut_behind byte [] rest none = rw (eq-eqb byte byte refl) refl
cut_behind byte (b ∷ front) rest none =
    let P : ℕ → Type 0 = λ b. cuts_at byte b ≡ false in
    rw (All-head P b front none, cut_behind byte front rest (All-tail P b front none)) (grind arith)

uncut : (byte : ℕ) (front : List ℕ) → All (λ b. cuts_at byte b ≡ false) front → position_or_len (cuts_at byte) front ≡ length front
uncut byte [] none = refl
uncut byte (b ∷ front) none =
    let P : ℕ → Type 0 = λ b. cuts_at byte b ≡ false in
    rw (All-head P b front none, uncut byte front (All-tail P b front none)) (grind arith)

cut_front : (byte : ℕ) (front rest : List ℕ) → All (λ b. cuts_at byte b ≡ false) front → before_first (cuts_at byte) (front ++ byte ∷ rest) ≡ front
cut_front byte front rest none =
    ap (λ n. take n (front ++ byte ∷ rest)) (cut_behind byte front rest none) ∙ take_at front (byte ∷ rest) (length front) refl

cut_rest : (byte : ℕ) (front rest : List ℕ) → All (λ b. cuts_at byte b ≡ false) front → behind byte (front ++ byte ∷ rest) ≡ Some rest
cut_rest byte front rest none =
    let at = cut_behind byte front rest none in
    let inside : nat_lt (position_or_len (cuts_at byte) (front ++ byte ∷ rest)) (length (front ++ byte ∷ rest)) ≡ true =
    lt-ltb _ _ (omega (arith, at, length-append front (byte ∷ rest))) in
    let joined : front ++ byte ∷ rest ≡ (front ++ byte ∷ []) ++ rest = sym (append_assoc front (byte ∷ []) rest) in
    let after = ap (λ n. drop (n + 1) (front ++ byte ∷ rest)) at ∙ ap (drop (length front + 1)) joined
    ∙ drop_at (front ++ byte ∷ []) rest (length front + 1) (length-append front (byte ∷ [])) in
    rw inside (ap Some after)

path_plain : (b : ℕ) → is_path_byte b ≡ true → cuts_at 63 b ≡ false
path_plain b path = grind (arith, nat_tests, path)

digit_uncut : (b : ℕ) → is_ascii_digit b ≡ true → cuts_at 32 b ≡ false
digit_uncut b digit = grind (arith, nat_tests, digit)

path_again : (path : List ℕ) (query : Option (List ℕ)) → AllPass is_path_byte path → before_first (cuts_at 63) (path ++ query_text query) ≡ path
path_again path None pass =
    let none = All-weaker (λ b. IsTrue (is_path_byte b)) (λ b. cuts_at 63 b ≡ false) path_plain path pass in
    ap (before_first (cuts_at 63)) (append-nil path) ∙ ap (λ n. take n path) (uncut 63 path none) ∙ take_all (length path) path (omega arith)
path_again path (Some query) pass =
    cut_front 63 path query (All-weaker (λ b. IsTrue (is_path_byte b)) (λ b. cuts_at 63 b ≡ false) path_plain path pass)

query_again : (path : List ℕ) (query : Option (List ℕ)) → AllPass is_path_byte path → behind 63 (path ++ query_text query) ≡ query
query_again path None pass =
    let none = All-weaker (λ b. IsTrue (is_path_byte b)) (λ b. cuts_at 63 b ≡ false) path_plain path pass in
    let outside : nat_lt (position_or_len (cuts_at 63) path) (length path) ≡ false = le-ltb _ _ (omega (arith, uncut 63 path none)) in
    ap (behind 63) (append-nil path) ∙ rw outside refl
query_again path (Some query) pass =
    cut_rest 63 path query (All-weaker (λ b. IsTrue (is_path_byte b)) (λ b. cuts_at 63 b ≡ false) path_plain path pass)

mark_again : (mark : PeerMark) → IsMark mark → peer_of (mark_text mark) ≡ Some mark
mark_again mark is =
    let n = mark.number in
    let small : n < 2 ^ 64 = omega (arith, is.0) in
    let none = All-weaker (λ b. IsTrue (is_ascii_digit b)) (λ b. cuts_at 32 b ≡ false) digit_uncut (decimal n) (decimal_digits n small) in
    let number = ap (decimal_of 1 5) (cut_front 32 (decimal n) mark.key none)
    ∙ decimal_of-decimal 1 5 n small (decimal_nonempty n small) (length-decimal-le 5 n (omega arith) (omega (arith, is.0)) small) in
    let fits : (nat_le n 65535 && is_key mark.key) ≡ true = and_from _ _ (le-leb n 65535 is.0) is.1 in
    (λ i. mark_of (number i) (cut_rest 32 (decimal n) mark.key none i)) ∙ rw fits refl

are_again : (peer : Option PeerMark) → IfSome peer IsMark → are_peers (peer_values peer) ≡ true
are_again None is = refl
are_again (Some mark) is = rw (mark_again mark is) refl

first_again : (peer : Option PeerMark) → IfSome peer IsMark → first_peer (peer_values peer) ≡ peer
first_again None is = refl
first_again (Some mark) is = mark_again mark is

-- ---- the message

slash_again : (path rest : List ℕ) → unwrap_or (slice_get path 0) 0 ≡ 47 → unwrap_or (slice_get (path ++ rest) 0) 0 ≡ 47
slash_again [] rest slash = absurd (omega (arith, slash))
slash_again (b ∷ path) rest slash = slash

fits_again : (target : List ℕ) (peer : Option PeerMark) (wanted : Bool) (body authority : List ℕ) → unwrap_or (slice_get target 0) 0 ≡ 47 → IfSome peer IsMark
    → (fits_request 1 target (pairs_of peer wanted body authority) && are_peers (values_of (codes "ps-peer") (pairs_of peer wanted body authority))) ≡ true
fits_again target peer wanted body authority slash is =
    and_from _ _ (and_from _ _ (hosts_again peer wanted body authority) (eq-eqb (unwrap_or (slice_get target 0) 0) 47 slash))
    (ap are_peers (peers_again peer wanted body authority) ∙ are_again peer is)

pub said_again : (body : List ℕ) → length body < 1000000000 → length_of (decimal (length body) ∷ []) ≡ Some (Some (length body))
said_again body small =
    let wide : length body < 2 ^ 64 = omega (arith, small) in
    rw (decimal_of-decimal 1 9 (length body) wide (decimal_nonempty (length body) wide) (length-decimal-le 9 (length body) (omega arith) (omega (arith, small)) wide)) refl

sized_again : (limits : HttpLimits) (peer : Option PeerMark) (wanted : Bool) (body authority : List ℕ) → length body ≤ limits.body → length body < 1000000000
    → (wanted ≡ true) ⊎ (body ≡ []) → length_or_bad limits wanted (pairs_of peer wanted body authority) (length_of (values_of (codes "content-length") (pairs_of peer wanted body authority))) ≡ Ok (length body)
sized_again limits peer true body authority fits small has =
    let within : nat_lt limits.body (length body) ≡ false = le-ltb limits.body (length body) fits in
    ap (λ v. length_or_bad limits true (pairs_of peer true body authority) (length_of v)) (lengths_again peer true body authority)
    ∙ ap (length_or_bad limits true (pairs_of peer true body authority)) (said_again body small)
    ∙ rw (few_again peer true body authority, within, encodings_again peer true body authority) refl
sized_again limits peer false body authority fits small (inl wants) = absurd (false≢true wants)
sized_again limits peer false body authority fits small (inr none) =
    let within : nat_lt limits.body 0 ≡ false = le-ltb limits.body 0 (omega arith) in
    ap (λ v. length_or_bad limits false (pairs_of peer false body authority) (length_of v)) (lengths_again peer false body authority)
    ∙ rw (few_again peer false body authority, within, encodings_again peer false body authority) (ap (λ b. Ok (length b)) (sym none))

target_again : (path : List ℕ) (query : Option (List ℕ)) → unwrap_or (slice_get path 0) 0 ≡ 47 → AllPass is_path_byte path → IsUtf8 path → IfSome query IsQuery
    → (0 < length (path ++ query_text query)) × AllPass is_uri_byte (path ++ query_text query) × IsUtf8 (path ++ query_text query)
target_again path query slash pass text is = (nonempty path slash, uri query is, utf8 query is)
  where
    U : ℕ → Type 0
    U = λ b. IsTrue (is_uri_byte b)

    paths : AllPass is_uri_byte path
    paths = All-weaker (λ b. IsTrue (is_path_byte b)) U (λ b p. (and_parts (is_uri_byte b) (not (b == 63)) p).0) path pass

    nonempty : (path : List ℕ) → unwrap_or (slice_get path 0) 0 ≡ 47 → 0 < length (path ++ query_text query)
    nonempty [] slash = absurd (omega (arith, slash))
    nonempty (b ∷ path) slash = omega arith

    uri : (query : Option (List ℕ)) → IfSome query IsQuery → AllPass is_uri_byte (path ++ query_text query)
    uri None is = subst (AllPass is_uri_byte) (sym (append-nil path)) paths
    uri (Some q) is = All-append U path (63 ∷ q) paths (All-cons U 63 q refl is.0)

    utf8 : (query : Option (List ℕ)) → IfSome query IsQuery → IsUtf8 (path ++ query_text query)
    utf8 None is = subst IsUtf8 (sym (append-nil path)) text
    utf8 (Some q) is = IsUtf8-append path (63 ∷ q) text (IsUtf8-append (63 ∷ []) q (IsUtf8-from_ascii (63 ∷ []) (cons_ascii 63 [] (omega arith) nil_ascii)) is.1)

pub field_is : (name value : List ℕ) → is_token name ≡ true → IsValue value → IsField (written_field name value)
field_is name value token is =
    let parts = and_parts (nat_lt 0 (length name)) (list_all is_token_byte name) token in
    record {
      name = (ltb-true 0 (length name) parts.0, AllPass-from_list_all is_token_byte name parts.1);
      raw = All-cons (λ b. IsTrue (is_value_byte b)) 32 value refl is.bytes;
    }

fields_are : (r : Request) (authority : List ℕ) → IsValue authority → IfSome r.peer IsMark → length r.body < 2 ^ 64 → All IsField (fields_of r authority)
unfolding is_token_byte
fields_are r authority host peer small =
    All-cons IsField _ _ (field_is (codes "Host") authority refl host)
    (All-append IsField (peer_fields r.peer) (length_fields (wants_length r.method) r.body ++ close_fields) (peers r.peer peer)
    (All-append IsField (length_fields (wants_length r.method) r.body) close_fields (lengths (wants_length r.method))
    (All-cons IsField _ [] (field_is (codes "Connection") (codes "close") refl close_is_value) (All-nil IsField))))
  where
    peers : (peer : Option PeerMark) → IfSome peer IsMark → All IsField (peer_fields peer)
    peers None is = All-nil IsField
    peers (Some mark) is = All-cons IsField _ [] (field_is (codes "ps-peer") (mark_text mark) refl (mark_is_value mark is)) (All-nil IsField)

    lengths : (wanted : Bool) → All IsField (length_fields wanted r.body)
    lengths true = All-cons IsField _ [] (field_is (codes "Content-Length") (decimal (length r.body)) refl (decimal_is_value (length r.body) small)) (All-nil IsField)
    lengths false = All-nil IsField

pub request_again : (limits : HttpLimits) (r : Request) (authority : List ℕ) → IsSendable limits r authority → IsMessage requests limits (request_text r authority) r
request_again limits r authority s =
    let wide : length r.body < 2 ^ 64 = omega (arith, s.digits_fit) in
    let pairs = fields_again r authority s.host s.peer wide in
    let target = target_again r.path r.query s.slash s.path s.path_text s.query in
    let text = text_is r authority in
    let head = head_of r authority in
    record {
      head = head;
      body = r.body;
      reads = (record { method = s.method; target = (target.0, target.1); target_text = target.2; minor = omega arith; fields = fields_are r authority s.host s.peer wide }, text);
      fits = omega (
        arith,
        s.head_fits,
        ap length text,
        length-append (print_request head) r.body,
        length-append (request_line r) (request_fields_text r authority),
        length-append (request_line r) (request_fields_text r authority ++ r.body),
        length-append (request_fields_text r authority) r.body,
      );
      length_is =
          ap (λ fs. body_length limits (fits_request 1 head.target fs) (wants_length r.method) fs) pairs
          ∙ ap (λ t. if t then length_or_bad limits (wants_length r.method) (pairs_of r.peer (wants_length r.method) r.body authority)
          (length_of (values_of (codes "content-length") (pairs_of r.peer (wants_length r.method) r.body authority))) else Err BadHead)
          (fits_again head.target r.peer (wants_length r.method) r.body authority (slash_again r.path (query_text r.query) s.slash) s.peer)
          ∙ sized_again limits r.peer (wants_length r.method) r.body authority s.body_fits s.digits_fit s.no_body;
      message_is = λ i. record {
        method = r.method;
        path = sym (path_again r.path r.query s.path) i;
        query = sym (query_again r.path r.query s.path) i;
        peer = sym (ap (λ fs. first_peer (values_of (codes "ps-peer") fs)) pairs ∙ ap first_peer (peers_again r.peer (wants_length r.method) r.body authority) ∙ first_again r.peer s.peer) i;
        close = (s.close ∙ sym (ap (asks_close 1) pairs ∙ closes_again r.peer (wants_length r.method) r.body authority)) i;
        body = r.body;
      };
    }

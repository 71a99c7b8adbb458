-- Responses are read again as they were written.
use Rattle.std.proofs.Common.{◌≡◌, ◌≤◌, ◌<◌, ◌^◌, ℕ, true, false, Bool, List, [], ◌∷◌, ◌++◌, length, map, refl, sym, ap, ◌∙◌, arith, append_assoc, append-nil, length-append, All, Option, Some, None, Ok, ◌⊎◌, inl, inr}
use Rattle.std.proofs.lemmas.List.Sums.{AllPass-from_list_all}
use Rattle.std.specs.Prelude.{codes, IfSome}
use Rattle.std.specs.Fmt.{decimal}
use Rattle.std.specs.List.{flat_map}
use Rattle.std.proofs.lemmas.Bool.{eq-eqb, le-ltb, cases_lt}
use Rattle.std.proofs.lemmas.Fmt.{length-decimal-le, digits_value-decimal, digits_decimal}
use Rattle.std.proofs.lemmas.List.{map-append}
use Rattle.std.proofs.lemmas.List.Concat.{flat_map-append}
use Rattle.std.proofs.lemmas.List.Elements.{All-cons, All-nil, All-append}
use Rattle.std.proofs.lemmas.Str.{is_utf8-from_IsUtf8}
use Rattle.std.proofs.lemmas.Str.Parse.{digits_value_short}
use Rattle.httparse.specs.Grammar.{is_token_byte, is_value_byte, crlf, Field, IsField, print_field, print_section, ResponseHead, print_response}
use Rattle.httparse.specs.Spans.{name_and_value}
use Rattle.httparse.proofs.GrammarLemmas.{print_response-append}
use Rattle.ps_http.specs.Answer.{responses, IsMessage}
use Rattle.ps_http.specs.Fields.{values_of, asks_close}
use Rattle.ps_http.specs.Message.{body_length, length_or_bad, allowed}
use Rattle.ps_http.specs.Sendable.{IsValue, IsAllow, IsReplying}
use Rattle.ps_http.specs.Written.{status_line, phrase_text, type_text, allow_text, length_text, response_close_text, response_fields_text, response_text, line_end}
use Rattle.ps_http.specs.declared.message.HttpLimits.{HttpLimits}
use Rattle.ps_http.specs.declared.message.Response.{Response}
use Rattle.ps_http.proofs.AgainLemmas.{own, written_field, field_bytes, regroup, value_again, decimal_digits, decimal_is_value, close_is_value, said_again, field_is}

abbrev json : List ℕ
json = codes "application/json"

abbrev allow_fields : Option (List ℕ) → List Field
allow_fields None = []
allow_fields (Some methods) = written_field (codes "Allow") methods ∷ []

abbrev closing_fields : Bool → List Field
closing_fields true = written_field (codes "Connection") (codes "close") ∷ []
closing_fields false = []

abbrev reply_fields : Response → List Field
reply_fields r =
    written_field (codes "Content-Type") json
    ∷ (allow_fields r.allow ++ (written_field (codes "Content-Length") (decimal (length r.body)) ∷ closing_fields r.close))

abbrev reply_head : Response → ResponseHead
reply_head r = record {
  blank = [];
  minor = 1;
  digits = decimal r.status;
  reason = Some (phrase_text r.status);
  line_end = crlf;
  fields = reply_fields r;
  last = crlf;
}

-- ---- its bytes

allow_bytes : (status : ℕ) (allow : Option (List ℕ)) → IfSome allow (IsAllow status) → flat_map print_field (allow_fields allow) ≡ allow_text status allow
allow_bytes status None is = refl
allow_bytes status (Some methods) is =
    append-nil (print_field (written_field (codes "Allow") methods)) ∙ field_bytes (codes "Allow") methods ∙ rw (eq-eqb status 405 is.0) refl

closing_bytes : (close : Bool) → flat_map print_field (closing_fields close) ≡ response_close_text close
closing_bytes true = refl
closing_bytes false = refl

reply_fields_bytes : (r : Response) → IfSome r.allow (IsAllow r.status) → print_section (reply_fields r) crlf ≡ response_fields_text r
unfolding response_fields_text type_text length_text
reply_fields_bytes r is =
    let size = decimal (length r.body) in
    let lengths = written_field (codes "Content-Length") size in
    let kind = written_field (codes "Content-Type") json in
    ap (λ x. (print_field kind ++ x) ++ line_end) (flat_map-append print_field (allow_fields r.allow) (lengths ∷ closing_fields r.close))
    ∙ regroup (print_field kind) (flat_map print_field (allow_fields r.allow)) (print_field lengths) (flat_map print_field (closing_fields r.close)) line_end
    ∙ (λ i. field_bytes (codes "Content-Type") json i ++ (allow_bytes r.status r.allow is i ++ (field_bytes (codes "Content-Length") size i ++ (closing_bytes r.close i ++ line_end))))

status_bytes : (d p e x : List ℕ) → (d ++ (32 ∷ (p ++ e))) ++ x ≡ d ++ (32 ∷ (p ++ (e ++ x)))
status_bytes d p e x = append_assoc d (32 ∷ (p ++ e)) x ∙ ap (λ l. d ++ (32 ∷ l)) (append_assoc p e x)

reply_text_is : (r : Response) → IfSome r.allow (IsAllow r.status) → response_text r ≡ print_response (reply_head r) ++ r.body
unfolding status_line
reply_text_is r is =
    ap (λ l. codes "HTTP/1.1 " ++ l) (status_bytes (decimal r.status) (phrase_text r.status) line_end (response_fields_text r ++ r.body)
    ∙ ap (λ x. decimal r.status ++ (32 ∷ (phrase_text r.status ++ (line_end ++ (x ++ r.body))))) (sym (reply_fields_bytes r is)))
    ∙ sym (print_response-append (reply_head r) r.body)

-- ---- the fields as they are read

abbrev allow_pairs : Option (List ℕ) → List (List ℕ × List ℕ)
allow_pairs None = []
allow_pairs (Some methods) = (codes "Allow", methods) ∷ []

abbrev closing_pairs : Bool → List (List ℕ × List ℕ)
closing_pairs true = (codes "Connection", codes "close") ∷ []
closing_pairs false = []

abbrev reply_pairs : Option (List ℕ) → Bool → List ℕ → List (List ℕ × List ℕ)
reply_pairs allow close body = (codes "Content-Type", json) ∷ (allow_pairs allow ++ ((codes "Content-Length", decimal (length body)) ∷ closing_pairs close))

json_is_value : IsValue json
json_is_value = record { bytes = AllPass-from_list_all is_value_byte json refl; front = refl; back = refl }

allow_again : (status : ℕ) (allow : Option (List ℕ)) → IfSome allow (IsAllow status) → map name_and_value (allow_fields allow) ≡ allow_pairs allow
allow_again status None is = refl
allow_again status (Some methods) is = ap (λ (p : List ℕ × List ℕ). p ∷ []) (value_again (codes "Allow") methods is.1)

closing_again : (close : Bool) → map name_and_value (closing_fields close) ≡ closing_pairs close
closing_again true = ap (λ (p : List ℕ × List ℕ). p ∷ []) (value_again (codes "Connection") (codes "close") close_is_value)
closing_again false = refl

reply_fields_again : (r : Response) → IfSome r.allow (IsAllow r.status) → length r.body < 2 ^ 64 → map name_and_value (reply_fields r) ≡ reply_pairs r.allow r.close r.body
reply_fields_again r is small =
    let size = decimal (length r.body) in
    let lengths = written_field (codes "Content-Length") size in
    ap (λ x. name_and_value (written_field (codes "Content-Type") json) ∷ x) (map-append name_and_value (allow_fields r.allow) (lengths ∷ closing_fields r.close))
    ∙ (λ i. value_again (codes "Content-Type") json json_is_value i
    ∷ (allow_again r.status r.allow is i ++ (value_again (codes "Content-Length") size (decimal_is_value (length r.body) small) i ∷ closing_again r.close i)))

allows_again : (allow : Option (List ℕ)) (close : Bool) (body : List ℕ) (status : ℕ) → IfSome allow (IsAllow status)
    → allow ≡ allowed (values_of (codes "allow") (reply_pairs allow close body))
allows_again None true body status is = refl
allows_again None false body status is = refl
allows_again (Some methods) true body status is = rw (is_utf8-from_IsUtf8 methods is.2) refl
allows_again (Some methods) false body status is = rw (is_utf8-from_IsUtf8 methods is.2) refl

closed_again : (allow : Option (List ℕ)) (close : Bool) (body : List ℕ) → close ≡ asks_close 1 (reply_pairs allow close body)
closed_again None true body = refl
closed_again None false body = refl
closed_again (Some methods) true body = refl
closed_again (Some methods) false body = refl

measured_again : (limits : HttpLimits) (allow : Option (List ℕ)) (close : Bool) (body : List ℕ) → length body ≤ limits.body → length body < 1000000000
    → body_length limits true true (reply_pairs allow close body) ≡ Ok (length body)
measured_again limits None true body fits small =
    ap (length_or_bad limits true (reply_pairs None true body)) (said_again body small) ∙ rw (le-ltb limits.body (length body) fits) refl
measured_again limits None false body fits small =
    ap (length_or_bad limits true (reply_pairs None false body)) (said_again body small) ∙ rw (le-ltb limits.body (length body) fits) refl
measured_again limits (Some methods) true body fits small =
    ap (length_or_bad limits true (reply_pairs (Some methods) true body)) (said_again body small) ∙ rw (le-ltb limits.body (length body) fits) refl
measured_again limits (Some methods) false body fits small =
    ap (length_or_bad limits true (reply_pairs (Some methods) false body)) (said_again body small) ∙ rw (le-ltb limits.body (length body) fits) refl

-- ---- the message

three : (n : ℕ) → 100 ≤ n → n ≤ 999 → length (decimal n) ≡ 3
three n low high =
    let small : n < 2 ^ 64 = omega (arith, high) in
    let most = length-decimal-le 3 n (omega arith) (omega (arith, high)) small in
    let least : 3 ≤ length (decimal n) = by_length (cases_lt (length (decimal n)) 3) in
    omega (arith, most, least)
  where
    by_length : (length (decimal n) < 3) ⊎ (3 ≤ length (decimal n)) → 3 ≤ length (decimal n)
    by_length (inr enough) = enough
    by_length (inl few) =
        let small : n < 2 ^ 64 = omega (arith, high) in
        absurd (omega (arith, low, digits_value-decimal own n small, digits_value_short own (decimal n) 2 (digits_decimal own n small) (omega (arith, few))))

reply_fields_are : (r : Response) → IfSome r.allow (IsAllow r.status) → length r.body < 2 ^ 64 → All IsField (reply_fields r)
unfolding is_token_byte
reply_fields_are r is small =
    All-cons IsField _ _ (field_is (codes "Content-Type") json refl json_is_value)
    (All-append IsField (allow_fields r.allow) (written_field (codes "Content-Length") (decimal (length r.body)) ∷ closing_fields r.close) (allows r.allow is)
    (All-cons IsField _ _ (field_is (codes "Content-Length") (decimal (length r.body)) refl (decimal_is_value (length r.body) small)) (closes r.close)))
  where
    allows : (allow : Option (List ℕ)) → IfSome allow (IsAllow r.status) → All IsField (allow_fields allow)
    allows None is = All-nil IsField
    allows (Some methods) is = All-cons IsField _ [] (field_is (codes "Allow") methods refl is.1) (All-nil IsField)

    closes : (close : Bool) → All IsField (closing_fields close)
    closes true = All-cons IsField _ [] (field_is (codes "Connection") (codes "close") refl close_is_value) (All-nil IsField)
    closes false = All-nil IsField

pub response_again : (limits : HttpLimits) (r : Response) → IsReplying limits r → IsMessage responses limits (response_text r) r
response_again limits r s =
    let wide : length r.body < 2 ^ 64 = omega (arith, s.digits_fit) in
    let small : r.status < 2 ^ 64 = omega (arith, s.most) in
    let pairs = reply_fields_again r s.allow wide in
    let text = reply_text_is r s.allow in
    let head = reply_head r in
    record {
      head = head;
      body = r.body;
      reads = (record { minor = omega arith; digits = (three r.status s.least s.most, decimal_digits r.status small); reason = s.phrase; fields = reply_fields_are r s.allow wide }, text);
      fits = omega (
        arith,
        s.head_fits,
        ap length text,
        length-append (print_response head) r.body,
        length-append (status_line r.status) (response_fields_text r),
        length-append (status_line r.status) (response_fields_text r ++ r.body),
        length-append (response_fields_text r) r.body,
      );
      length_is = ap (body_length limits true true) pairs ∙ measured_again limits r.allow r.close r.body s.body_fits s.digits_fit;
      message_is = λ i. record {
        status = sym (digits_value-decimal own r.status small) i;
        allow = (allows_again r.allow r.close r.body r.status s.allow ∙ sym (ap (λ fs. allowed (values_of (codes "allow") fs)) pairs)) i;
        close = (closed_again r.allow r.close r.body ∙ sym (ap (asks_close 1) pairs)) i;
        body = r.body;
      };
    }

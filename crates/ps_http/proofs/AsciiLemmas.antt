-- Digits, letters and the bytes between them are ASCII, so what isn't UTF-8 has others.
use Rattle.std.proofs.Common.{◌≡◌, ◌<◌, ◌==◌, ℕ, zero, suc, Bool, true, false, List, [], ◌∷◌, length, get_or, nat_lt, refl, sym, ap, subst, ◌∙◌, arith, Option, Some, None}
use Rattle.std.specs.List.{list_all, position_or_len, before_first, after_first}
use Rattle.std.specs.Char.{is_ascii_alphanumeric}
use Rattle.std.specs.Str.{IsAscii, IsUtf8, all_ascii_digits}
use Rattle.std.proofs.lemmas.Bool.Decides.{nat_tests}
use Rattle.httparse.specs.Grammar.{AllPass, is_token_byte}
use Rattle.std.proofs.lemmas.List.Elements.{All-weaker}
use Rattle.std.proofs.lemmas.Str.Ascii.{IsAscii-from_all}
use Rattle.std.proofs.lemmas.List.Sums.{split_at_first, passes_at_first}
use Rattle.std.proofs.lemmas.Str.{IsUtf8-from_ascii, is_utf8-from_IsUtf8, IsUtf8-from_is_utf8, IsAscii-append}
use Rattle.ps_time.specs.Number.{decimal_of}
use Rattle.std.specs.Prelude.{is_some}
use Rattle.std.specs.Option.{unwrap_or}
use Rattle.std.specs.List.{slice_get}
use Rattle.std.specs.Str.{is_utf8}
use Rattle.std.proofs.lemmas.Bool.{true≢false}
use Rattle.ps_http.specs.Message.{allowed}
use Rattle.ps_http.specs.Fields.{cuts_at, mark_of, peer_of}

pub cons_ascii : (b : ℕ) (bs : List ℕ) → b < 128 → IsAscii bs → IsAscii (b ∷ bs)
cons_ascii b bs low rest zero = low
cons_ascii b bs low rest (suc i) = rest i

pub nil_ascii : IsAscii []
nil_ascii i = grind arith

pub digits_ascii : (bs : List ℕ) → all_ascii_digits bs ≡ true → IsAscii bs
digits_ascii [] all = nil_ascii
digits_ascii (b ∷ bs) all = cons_ascii b bs (grind (arith, nat_tests)) (digits_ascii bs (grind (arith, nat_tests)))

letters_ascii : (bs : List ℕ) → list_all is_ascii_alphanumeric bs ≡ true → IsAscii bs
letters_ascii [] all = nil_ascii
letters_ascii (b ∷ bs) all = cons_ascii b bs (grind (arith, nat_tests)) (letters_ascii bs (grind (arith, nat_tests)))

no_digits : (least most : ℕ) (bs : List ℕ) → all_ascii_digits bs ≡ false → None ≡ decimal_of least most bs
no_digits least most bs other = rw other (grind (arith, nat_tests))

-- what isn't UTF-8 is no number
pub not_decimal : (least most : ℕ) (bs : List ℕ) → ¬ (IsUtf8 bs) → None ≡ decimal_of least most bs
not_decimal least most bs bad = by_test (all_ascii_digits bs) refl
  where
    by_test : (t : Bool) → all_ascii_digits bs ≡ t → None ≡ decimal_of least most bs
    by_test true all = absurd (bad (IsUtf8-from_ascii bs (digits_ascii bs all)))
    by_test false other = no_digits least most bs other

uncut : (number : Option ℕ) → None ≡ mark_of number None
uncut None = refl
uncut (Some n) = refl

no_key : (number : Option ℕ) (key : List ℕ) → list_all is_ascii_alphanumeric key ≡ false → None ≡ mark_of number (Some key)
no_key None key other = refl
no_key (Some n) key other = rw other (grind (arith, nat_tests))

-- what isn't UTF-8 is no peer's mark
pub not_peer : (value : List ℕ) → ¬ (IsUtf8 value) → None ≡ peer_of value
not_peer value bad = by_cut (nat_lt (position_or_len (cuts_at 32) value) (length value)) refl
  where
    front : List ℕ
    front = before_first (cuts_at 32) value

    key : List ℕ
    key = after_first (cuts_at 32) value

    by_parts : position_or_len (cuts_at 32) value < length value → (d l : Bool) → all_ascii_digits front ≡ d → list_all is_ascii_alphanumeric key ≡ l
        → None ≡ mark_of (decimal_of 1 5 front) (Some key)
    by_parts there false l other _ = ap (λ o. mark_of o (Some key)) (no_digits 1 5 front other)
    by_parts there true false _ other = no_key (decimal_of 1 5 front) key other
    by_parts there true true digits letters =
        let at = get_or value (position_or_len (cuts_at 32) value) 0 in
        let space : (at == 32) ≡ true = passes_at_first (cuts_at 32) value 0 there in
        let low : at < 128 = grind (arith, nat_tests, space) in
        absurd (bad (IsUtf8-from_ascii value (subst IsAscii (sym (split_at_first (cuts_at 32) value 0 there))
        (IsAscii-append front (at ∷ key) (digits_ascii front digits) (cons_ascii at key low (letters_ascii key letters))))))

    by_cut : (c : Bool) → nat_lt (position_or_len (cuts_at 32) value) (length value) ≡ c → None ≡ peer_of value
    by_cut false other = rw other (uncut (decimal_of 1 5 front))
    by_cut true cut = rw cut (by_parts (grind (arith, nat_tests)) (all_ascii_digits front) (list_all is_ascii_alphanumeric key) refl refl)

token_is_ascii : (b : ℕ) → is_token_byte b ≡ true → b < 128
unfolding is_token_byte
token_is_ascii b token = grind (arith, nat_tests)

-- a token is a text
pub token_text : (bytes : List ℕ) → AllPass is_token_byte bytes → IsUtf8 bytes
token_text bytes token =
    IsUtf8-from_ascii bytes (IsAscii-from_all bytes (All-weaker (λ b. is_token_byte b ≡ true) (λ b. b < 128) token_is_ascii bytes token))

-- ---- the first Allow field

same_some : (v w : List ℕ) → Some v ≡ Some w → v ≡ w
same_some v w same = ap (λ o. unwrap_or o v) same

pub allowed_text : (values : List (List ℕ)) (value text : List ℕ) → Some value ≡ slice_get values 0 → text ≡ value → IsUtf8 value → Some text ≡ allowed values
allowed_text [] value text first same utf8 = absurd (true≢false (ap is_some first))
allowed_text (v ∷ values) value text first same utf8 =
    let is = same_some value v first in
    rw (is_utf8-from_IsUtf8 v (subst IsUtf8 is utf8)) (ap Some (same ∙ is))

pub not_allowed : (values : List (List ℕ)) (value : List ℕ) → Some value ≡ slice_get values 0 → ¬ (IsUtf8 value) → None ≡ allowed values
not_allowed [] value first bad = refl
not_allowed (v ∷ values) value first bad = by_test (is_utf8 v) refl
  where
    by_test : (t : Bool) → is_utf8 v ≡ t → None ≡ allowed (v ∷ values)
    by_test true utf8 = absurd (bad (subst IsUtf8 (sym (same_some value v first)) (IsUtf8-from_is_utf8 v utf8)))
    by_test false other = rw other refl

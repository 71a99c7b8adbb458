-- The strings and names of a JSON text that is UTF-8 are UTF-8.
use Rattle.std.specs.Prelude.{◌||◌, ◌&&◌, get_or, nat_lt, option_and_then}
use Rattle.std.proofs.Common.{◌≡◌, ◌<◌, ◌+◌, ◌-◌, ◌*◌, ◌==◌, ℕ, zero, suc, Bool, true, false, cond, List, [], ◌∷◌, ◌++◌, length, take, drop, Option, Some, None, refl, sym, ap, ◌∙◌, subst, append-nil, append_assoc, arith}
use Rattle.std.proofs.lemmas.Bool.Decides.{nat_tests}
use Rattle.std.proofs.lemmas.Str.{IsUtf8-append, IsUtf8-drop, IsUtf8-encode, IsUtf8-from_ascii, IsUtf8-take, IsCharBoundary-after_ascii, IsCharBoundary-before_ascii}
use Rattle.std.specs.Char.{digit_value, encode_utf8, is_digit, IsScalar}
use Rattle.std.specs.Str.{IsUtf8}
use Rattle.json.specs.Text.{Within, after_backslash, after_high, after_u, code_unit, content, is_high_surrogate, is_low_surrogate, plain, prepend, short_escape, surrogate_pair}

-- ---- a text may be cut at an ASCII byte
front_of : (p q : List ℕ) → take (length p) (p ++ q) ≡ p
front_of [] q = refl
front_of (x ∷ p) q = ap (λ l. x ∷ l) (front_of p q)

byte_of : (p : List ℕ) (x : ℕ) (r : List ℕ) → get_or (p ++ x ∷ r) (length p) 0 ≡ x
byte_of [] x r = refl
byte_of (y ∷ p) x r = byte_of p x r

rest_of : (p : List ℕ) (x : ℕ) (r : List ℕ) → drop (suc (length p)) (p ++ x ∷ r) ≡ r
rest_of [] x r = refl
rest_of (y ∷ p) x r = rest_of p x r

within : (p : List ℕ) (x : ℕ) (r : List ℕ) → length p < length (p ++ x ∷ r)
within [] x r = omega arith
within (y ∷ p) x r = omega (arith, within p x r)

pub before_byte : (p : List ℕ) (x : ℕ) (r : List ℕ) → x < 128 → IsUtf8 (p ++ x ∷ r) → IsUtf8 p
before_byte p x r low u =
    let here : get_or (p ++ x ∷ r) (length p) 0 < 128 = subst (λ n. n < 128) (sym (byte_of p x r)) low in
    subst IsUtf8 (front_of p (x ∷ r)) (IsUtf8-take (p ++ x ∷ r) (length p) u (IsCharBoundary-before_ascii (p ++ x ∷ r) (length p) (within p x r) here))

pub after_byte : (p : List ℕ) (x : ℕ) (r : List ℕ) → x < 128 → IsUtf8 (p ++ x ∷ r) → IsUtf8 r
after_byte p x r low u =
    let here : get_or (p ++ x ∷ r) (length p) 0 < 128 = subst (λ n. n < 128) (sym (byte_of p x r)) low in
    let next : length p + 1 ≡ suc (length p) = omega arith in
    subst IsUtf8 (ap (λ n. drop n (p ++ x ∷ r)) next ∙ rest_of p x r) (IsUtf8-drop (p ++ x ∷ r) (length p + 1) u (IsCharBoundary-after_ascii (p ++ x ∷ r) (length p) u (within p x r) here))

-- ---- escapes
one_byte : (x : ℕ) → x < 128 → IsUtf8 (x ∷ [])
one_byte x low = IsUtf8-from_ascii (x ∷ []) (λ i. is i)
  where
    is : (i : ℕ) → get_or (x ∷ []) i 0 < 128
    is zero = low
    is (suc i) = omega arith

-- a byte that a test lets through
is_byte : (x n : ℕ) → (x == n) ≡ true → x ≡ n
is_byte x n e = grind (arith, nat_tests)

-- the letter of a short escape, and what it stands for, are ASCII
short_low : (x c : ℕ) → short_escape x ≡ Some c → (x < 128) × (c < 128)
unfolding short_escape
short_low x c e = go (x == 34) (x == 92) (x == 47) (x == 98) (x == 102) (x == 110) (x == 114) (x == 116) refl refl refl refl refl refl refl refl e
  where
    go : (q b s p f n r t : Bool) → (x == 34) ≡ q → (x == 92) ≡ b → (x == 47) ≡ s → (x == 98) ≡ p → (x == 102) ≡ f → (x == 110) ≡ n → (x == 114) ≡ r → (x == 116) ≡ t →
        cond ((q || b) || s) (Some x) (cond p (Some 8) (cond f (Some 12) (cond n (Some 10) (cond r (Some 13) (cond t (Some 9) None))))) ≡ Some c → (x < 128) × (c < 128)
    go true b s p f n r t eq eb es ep ef en er et e = let is : x ≡ 34 = is_byte x 34 eq in let same : x ≡ c = cc in (omega (arith, is), omega (arith, is, same))
    go false true s p f n r t eq eb es ep ef en er et e = let is : x ≡ 92 = is_byte x 92 eb in let same : x ≡ c = cc in (omega (arith, is), omega (arith, is, same))
    go false false true p f n r t eq eb es ep ef en er et e = let is : x ≡ 47 = is_byte x 47 es in let same : x ≡ c = cc in (omega (arith, is), omega (arith, is, same))
    go false false false true f n r t eq eb es ep ef en er et e = let is : x ≡ 98 = is_byte x 98 ep in let same : 8 ≡ c = cc in (omega (arith, is), omega (arith, same))
    go false false false false true n r t eq eb es ep ef en er et e = let is : x ≡ 102 = is_byte x 102 ef in let same : 12 ≡ c = cc in (omega (arith, is), omega (arith, same))
    go false false false false false true r t eq eb es ep ef en er et e = let is : x ≡ 110 = is_byte x 110 en in let same : 10 ≡ c = cc in (omega (arith, is), omega (arith, same))
    go false false false false false false true t eq eb es ep ef en er et e = let is : x ≡ 114 = is_byte x 114 er in let same : 13 ≡ c = cc in (omega (arith, is), omega (arith, same))
    go false false false false false false false true eq eb es ep ef en er et e = let is : x ≡ 116 = is_byte x 116 et in let same : 9 ≡ c = cc in (omega (arith, is), omega (arith, same))
    go false false false false false false false false eq eb es ep ef en er et e = cc

-- a digit is ASCII
digit_low : (x : ℕ) → is_digit x 16 ≡ true → x < 128
digit_low x e = go (nat_lt x 48) (nat_lt x 58) (nat_lt x 65) (nat_lt x 91) (nat_lt x 97) (nat_lt x 123) refl refl refl e
  where
    go : (a b c d f g : Bool) → nat_lt x 58 ≡ b → nat_lt x 91 ≡ d → nat_lt x 123 ≡ g → nat_lt (cond a 36 (cond b (x - 48) (cond c 36 (cond d (x - 55) (cond f 36 (cond g (x - 87) 36)))))) 16 ≡ true → x < 128
    go a true c d f g eb ed eg e = grind (arith, nat_tests, eb)
    go a false c true f g eb ed eg e = grind (arith, nat_tests, ed)
    go a false c false f true eb ed eg e = grind (arith, nat_tests, eg)
    go true false c false f false eb ed eg e = absurd (cc)
    go false false true false f false eb ed eg e = absurd (cc)
    go false false false false true false eb ed eg e = absurd (cc)
    go false false false false false false eb ed eg e = absurd (cc)

-- ---- code units
-- four digits spell a code unit of 16 bits
unit_low : (a b c d n : ℕ) → code_unit a b c d ≡ Some n → ((a < 128) × (b < 128)) × ((c < 128) × (d < 128)) × (n < 65_536)
unfolding code_unit
unit_low a b c d n e = go (is_digit a 16) (is_digit b 16) (is_digit c 16) (is_digit d 16) refl refl refl refl e
  where
    go : (p q r s : Bool) → is_digit a 16 ≡ p → is_digit b 16 ≡ q → is_digit c 16 ≡ r → is_digit d 16 ≡ s →
        cond (p && q && r && s) (Some (digit_value a * 4_096 + digit_value b * 256 + digit_value c * 16 + digit_value d)) None ≡ Some n → ((a < 128) × (b < 128)) × ((c < 128) × (d < 128)) × (n < 65_536)
    go true true true true ea eb ec ed e =
        let same : digit_value a * 4_096 + digit_value b * 256 + digit_value c * 16 + digit_value d ≡ n = cc in
        let va : digit_value a < 16 = value_low (digit_value a) ea in
        let vb : digit_value b < 16 = value_low (digit_value b) eb in
        let vc : digit_value c < 16 = value_low (digit_value c) ec in
        let vd : digit_value d < 16 = value_low (digit_value d) ed in
        ((digit_low a ea, digit_low b eb), (digit_low c ec, digit_low d ed), omega (arith, same, va, vb, vc, vd))
      where
        value_low : (v : ℕ) → nat_lt v 16 ≡ true → v < 16
        value_low v e = grind (arith, nat_tests)
    go true true true false ea eb ec ed e = cc
    go true true false s ea eb ec ed e = cc
    go true false r s ea eb ec ed e = cc
    go false q r s ea eb ec ed e = cc

-- ---- the content of a string
prepended : (bytes : List ℕ) (o : Option (List ℕ)) (s : List ℕ) → prepend bytes o ≡ Some s → (t : List ℕ) × (o ≡ Some t) × (bytes ++ t ≡ s)
prepended bytes None s e = cc
prepended bytes (Some t) s e = (t, refl, cc)

-- a scalar value that no test took for a surrogate
plain_unit : (n : ℕ) → n < 65_536 → is_high_surrogate n ≡ false → is_low_surrogate n ≡ false → IsScalar n
plain_unit n low high other = go (nat_lt n 0xd800) (nat_lt n 0xdc00) (nat_lt n 0xe000) refl refl refl
  where
    go : (a b c : Bool) → nat_lt n 0xd800 ≡ a → nat_lt n 0xdc00 ≡ b → nat_lt n 0xe000 ≡ c → IsScalar n
    go true b c ea eb ec = grind (arith, nat_tests)
    go false true c ea eb ec = grind (arith, nat_tests)
    go false false true ea eb ec = grind (arith, nat_tests)
    go false false false ea eb ec = grind (arith, nat_tests)

paired : (h l : ℕ) → is_high_surrogate h ≡ true → is_low_surrogate l ≡ true → IsScalar (surrogate_pair h l)
paired h l high low = grind (arith, nat_tests)

-- what an escape brings, before the rest of the string
with_front : (bytes : List ℕ) (o : Option (List ℕ)) (s : List ℕ) → IsUtf8 bytes → ((t : List ℕ) → o ≡ Some t → IsUtf8 t) → prepend bytes o ≡ Some s → IsUtf8 s
with_front bytes o s front rest e =
    let p = prepended bytes o s e in subst IsUtf8 p.2 (IsUtf8-append bytes p.0 front (rest p.0 p.1))

abbrev Reads : Within → List ℕ → Type 0
Reads w xs = (s : List ℕ) → content w xs ≡ Some s → IsUtf8 xs → IsUtf8 s

-- with any bytes before it
abbrev ReadsPlain : List ℕ → Type 0
ReadsPlain xs = (p s : List ℕ) → content plain xs ≡ Some s → IsUtf8 (p ++ xs) → IsUtf8 (p ++ s)

plain_reads : (xs : List ℕ) → ReadsPlain xs → Reads plain xs
plain_reads xs rest s e u = rest [] s e u

plain_step : (x : ℕ) (xs : List ℕ) → Reads after_backslash xs → ReadsPlain xs → ReadsPlain (x ∷ xs)
unfolding content
plain_step x xs escaped rest p s e u = go (x == 34) (x == 92) (nat_lt x 32) refl refl e
  where
    go : (q b l : Bool) → (x == 34) ≡ q → (x == 92) ≡ b → cond q (Some []) (cond b (content after_backslash xs) (cond l None (prepend (x ∷ []) (content plain xs)))) ≡ Some s → IsUtf8 (p ++ s)
    go true b l eq eb e =
        let is : x ≡ 34 = is_byte x 34 eq in
        let same : [] ≡ s = cc in
        subst (λ t. IsUtf8 (p ++ t)) same (subst IsUtf8 (sym (append-nil p)) (before_byte p x xs (omega (arith, is)) u))
    go false true l eq eb e =
        let is : x ≡ 92 = is_byte x 92 eb in
        let low : x < 128 = omega (arith, is) in
        IsUtf8-append p s (before_byte p x xs low u) (escaped s e (after_byte p x xs low u))
    go false false true eq eb e = cc
    go false false false eq eb e =
        let t = prepended (x ∷ []) (content plain xs) s e in
        let text : IsUtf8 ((p ++ x ∷ []) ++ xs) = subst IsUtf8 (sym (append_assoc p (x ∷ []) xs)) u in
        subst (λ y. IsUtf8 (p ++ y)) t.2 (subst IsUtf8 (append_assoc p (x ∷ []) t.0) (rest (p ++ x ∷ []) t.0 t.1 text))

escaped_step : (x : ℕ) (xs : List ℕ) → Reads after_u xs → ReadsPlain xs → Reads after_backslash (x ∷ xs)
unfolding content
escaped_step x xs unit rest s e u = go (x == 117) refl e
  where
    short : (o : Option ℕ) → short_escape x ≡ o → option_and_then (λ c. prepend (c ∷ []) (content plain xs)) o ≡ Some s → IsUtf8 s
    short None is e = cc
    short (Some c) is e =
        let low = short_low x c is in
        with_front (c ∷ []) (content plain xs) s (one_byte c low.1) (λ t f. plain_reads xs rest t f (after_byte [] x xs low.0 u)) e

    go : (b : Bool) → (x == 117) ≡ b → cond b (content after_u xs) (option_and_then (λ c. prepend (c ∷ []) (content plain xs)) (short_escape x)) ≡ Some s → IsUtf8 s
    go true eb e = let is : x ≡ 117 = is_byte x 117 eb in unit s e (after_byte [] x xs (omega (arith, is)) u)
    go false eb e = short (short_escape x) refl e

-- what follows four ASCII bytes
after_four : (a b c d : ℕ) (xs : List ℕ) → ((a < 128) × (b < 128)) × ((c < 128) × (d < 128)) → IsUtf8 (a ∷ b ∷ c ∷ d ∷ xs) → IsUtf8 xs
after_four a b c d xs low u = after_byte [] d xs low.1.1 (after_byte [] c (d ∷ xs) low.1.0 (after_byte [] b (c ∷ d ∷ xs) low.0.1 (after_byte [] a (b ∷ c ∷ d ∷ xs) low.0.0 u)))

unit_step : (a b c d : ℕ) (xs : List ℕ) → ((h : ℕ) → is_high_surrogate h ≡ true → Reads (after_high h) xs) → ReadsPlain xs → Reads after_u (a ∷ b ∷ c ∷ d ∷ xs)
unfolding content
unit_step a b c d xs high rest s e u = unit (code_unit a b c d) refl e
  where
    go : (n : ℕ) → IsUtf8 xs → n < 65_536 → (h l : Bool) → is_high_surrogate n ≡ h → is_low_surrogate n ≡ l → cond h (content (after_high n) xs) (cond l None (prepend (encode_utf8 n) (content plain xs))) ≡ Some s → IsUtf8 s
    go n text low true l eh el e = high n eh s e text
    go n text low false true eh el e = cc
    go n text low false false eh el e = with_front (encode_utf8 n) (content plain xs) s (IsUtf8-encode n (plain_unit n low eh el)) (λ t f. plain_reads xs rest t f text) e

    unit : (o : Option ℕ) → code_unit a b c d ≡ o → option_and_then (λ n. cond (is_high_surrogate n) (content (after_high n) xs) (cond (is_low_surrogate n) None (prepend (encode_utf8 n) (content plain xs)))) o ≡ Some s → IsUtf8 s
    unit None is e = cc
    unit (Some n) is e =
        let low = unit_low a b c d n is in
        go n (after_four a b c d xs (low.0, low.1) u) low.2 (is_high_surrogate n) (is_low_surrogate n) refl refl e

high_step : (h x y a b c d : ℕ) (xs : List ℕ) → is_high_surrogate h ≡ true → ReadsPlain xs → Reads (after_high h) (x ∷ y ∷ a ∷ b ∷ c ∷ d ∷ xs)
unfolding content
high_step h x y a b c d xs is_high rest s e u = go (x == 92) (y == 117) refl refl e
  where
    pair : IsUtf8 (a ∷ b ∷ c ∷ d ∷ xs) → (o : Option ℕ) → code_unit a b c d ≡ o → option_and_then (λ l. cond (is_low_surrogate l) (prepend (encode_utf8 (surrogate_pair h l)) (content plain xs)) None) o ≡ Some s → IsUtf8 s
    pair text None is e = cc
    pair text (Some n) is e = half (is_low_surrogate n) refl e
      where
        half : (l : Bool) → is_low_surrogate n ≡ l → cond l (prepend (encode_utf8 (surrogate_pair h n)) (content plain xs)) None ≡ Some s → IsUtf8 s
        half true el e =
            let low = unit_low a b c d n is in
            with_front (encode_utf8 (surrogate_pair h n)) (content plain xs) s (IsUtf8-encode (surrogate_pair h n) (paired h n is_high el)) (λ t f. plain_reads xs rest t f (after_four a b c d xs (low.0, low.1) text)) e
        half false el e = cc

    go : (p q : Bool) → (x == 92) ≡ p → (y == 117) ≡ q → cond (p && q) (option_and_then (λ l. cond (is_low_surrogate l) (prepend (encode_utf8 (surrogate_pair h l)) (content plain xs)) None) (code_unit a b c d)) None ≡ Some s → IsUtf8 s
    go true true ex ey e =
        let first : x ≡ 92 = is_byte x 92 ex in
        let second : y ≡ 117 = is_byte y 117 ey in
        pair (after_byte [] y (a ∷ b ∷ c ∷ d ∷ xs) (omega (arith, second)) (after_byte [] x (y ∷ a ∷ b ∷ c ∷ d ∷ xs) (omega (arith, first)) u)) (code_unit a b c d) refl e
    go true false ex ey e = cc
    go false q ex ey e = cc

mutual
  unfolding content

  plain_text : (xs : List ℕ) → ReadsPlain xs
  plain_text [] p s e u = cc
  plain_text (x ∷ xs) p s e u = plain_step x xs (escaped_text xs) (plain_text xs) p s e u

  escaped_text : (xs : List ℕ) → Reads after_backslash xs
  escaped_text [] s e u = cc
  escaped_text (x ∷ xs) s e u = escaped_step x xs (unit_text xs) (plain_text xs) s e u

  unit_text : (xs : List ℕ) → Reads after_u xs
  unit_text [] s e u = cc
  unit_text (a ∷ []) s e u = cc
  unit_text (a ∷ b ∷ []) s e u = cc
  unit_text (a ∷ b ∷ c ∷ []) s e u = cc
  unit_text (a ∷ b ∷ c ∷ d ∷ xs) s e u = unit_step a b c d xs (λ h high. high_text h high xs) (plain_text xs) s e u

  high_text : (h : ℕ) → is_high_surrogate h ≡ true → (xs : List ℕ) → Reads (after_high h) xs
  high_text h high [] s e u = cc
  high_text h high (x ∷ []) s e u = cc
  high_text h high (x ∷ y ∷ []) s e u = cc
  high_text h high (x ∷ y ∷ a ∷ []) s e u = cc
  high_text h high (x ∷ y ∷ a ∷ b ∷ []) s e u = cc
  high_text h high (x ∷ y ∷ a ∷ b ∷ c ∷ []) s e u = cc
  high_text h high (x ∷ y ∷ a ∷ b ∷ c ∷ d ∷ xs) s e u = high_step h x y a b c d xs high (plain_text xs) s e u

-- the content of a string in a text
pub content_text : (xs s : List ℕ) → content plain xs ≡ Some s → IsUtf8 xs → IsUtf8 s
content_text xs s e u = plain_text xs [] s e u

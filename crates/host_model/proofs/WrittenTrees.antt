-- The compact text of a tree that a reader made is read again as that tree, where its numbers are whole.
use Rattle.std.specs.Cmp.Lexicographic.{slice_cmp}
use Rattle.std.specs.Ordering.{match_ordering, nat_cmp, ordering_reverse}
use Rattle.std.specs.Prelude.{⊤, option_and_then, option_map, neg_ℤ, slice_index}
use Rattle.std.specs.Float.{binary64, float_is_finite}
use Rattle.std.specs.Str.{IsUtf8}
use Rattle.std.proofs.Common.{◌≡◌, ◌≤◌, ◌<◌, ◌^◌, ◌==◌, ◌&&◌, ℕ, pos, negsuc, zero, suc, max, Bool, true, false, cond, nat_lt, nat_le, drop, length, get_or, List, [], ◌∷◌, ◌++◌, Option, Some, None, Less, Equal, Greater, Ordering, decimal, refl, sym, ap, ap₂, ◌∙◌, subst, append-nil, arith}
use Rattle.std.proofs.lemmas.Bool.{or_parts}
use Rattle.std.proofs.lemmas.Bool.Decides.{nat_tests}
use Rattle.std.proofs.lemmas.Cmp.{nat_list_cmp_total}
use Rattle.std.proofs.lemmas.Fmt.{IsAscii-decimal, decimal_is_IsNumeral}
use Rattle.std.proofs.lemmas.Str.Parse.{digit_at}
use Rattle.std.proofs.lemmas.Str.{IsUtf8-append, IsUtf8-from_ascii, IsUtf8-nil}
use Rattle.std.specs.Float.Numeral.{Parts, nearest_float as nearest, numeral_digits as digits_of, scan_numeral as scan}
use Rattle.json.specs.Json as json
use Rattle.json.specs.Lex.{tokens}
use Rattle.json.specs.Print.{IsNumber, quoted}
use Rattle.json.specs.Token.{Token}
use Rattle.json.specs.Tree.{HasNumbers, ItemsHaveNumbers, MembersHaveNumbers, json_tokens}
use Rattle.json.specs.Tree as tree
use Rattle.json.specs.Word.{after_number, after_exponent, after_fraction, after_whole, head}
use Rattle.json.proofs.Printed.Decimals.{IsNumber-decimal}
use Rattle.json.proofs.Printed.Tokens.{tokens-print}
use Rattle.json.proofs.Printed.Trees.{ArePrintable-json_tokens, value-json_tokens}
use Rattle.json.proofs.Printed.Utf8.{IsUtf8-are_ascii, IsUtf8-boolean, IsUtf8-quoted}
use Rattle.serde_json.specs.Data.{Data, Items, Members, Num, array, boolean, depth, float, item, items_depth, member, members_depth, negative, no_items, no_members, null, number, object, put, string, unsigned}
use Rattle.serde_json.specs.Find.{is_float}
use Rattle.serde_json.specs.Read.{float_of, is_integer, max_depth, number_from, number_of, of_items, of_json, of_members, read}
use Rattle.serde_json.specs.Written.{comma_if, compact_text, has_float, items_have_float, items_outline, items_text, members_have_float, members_outline, members_text, number_text, outline}
use Rattle.serde_json.proofs.Numbers.{number_of-decimal, number_of-negative}
use Rattle.serde_json.proofs.Texts.{print-outline}
use Rattle.host_model.proofs.TreesRead.{IsOfTexts, ItemsAreOfTexts, MembersAreOfTexts, value_text}

-- ---- what a reader makes
-- a number that has an own text, or a float
abbrev pub IsReadNumber : Num → Type 0
IsReadNumber (unsigned n) = n < 2 ^ 64
IsReadNumber (negative (pos n)) = ⊥
IsReadNumber (negative (negsuc n)) = n < 2 ^ 63
IsReadNumber (float x) = ⊤

-- the name is below each of these
abbrev pub IsUnder : List ℕ → Members → Type 0
IsUnder k no_members = ⊤
IsUnder k (member l e ms) = (slice_cmp nat_cmp k l ≡ Less) × IsUnder k ms

-- names ascend
abbrev pub AreRising : Members → Type 0
AreRising no_members = ⊤
AreRising (member k d ms) = IsUnder k ms × AreRising ms

-- its strings and names are UTF-8, its numbers are in range, and names ascend
abbrev mutual
  pub IsRead : Data → Type 0
  IsRead null = ⊤
  IsRead (boolean b) = ⊤
  IsRead (number n) = IsReadNumber n
  IsRead (string s) = IsUtf8 s
  IsRead (array ds) = ItemsAreRead ds
  IsRead (object ms) = MembersAreRead ms × AreRising ms

  pub ItemsAreRead : Items → Type 0
  ItemsAreRead no_items = ⊤
  ItemsAreRead (item d ds) = IsRead d × ItemsAreRead ds

  pub MembersAreRead : Members → Type 0
  MembersAreRead no_members = ⊤
  MembersAreRead (member k d ms) = IsUtf8 k × IsRead d × MembersAreRead ms

-- ---- a member is put
under_put : (l k : List ℕ) (d : Data) (ms : Members) → slice_cmp nat_cmp l k ≡ Less → IsUnder l ms → IsUnder l (put k d ms)
under_put l k d no_members less under = (less, tt)
under_put l k d (member j e ms) less under = go (slice_cmp nat_cmp k j) (under_put l k d ms less under.1)
  where
    go : (o : Ordering) → IsUnder l (put k d ms) → IsUnder l (match_ordering o (member k d (member j e ms)) (member j d ms) (member j e (put k d ms)))
    go Less rest = (less, under)
    go Equal rest = under
    go Greater rest = (under.0, rest)

under_lower : (k l : List ℕ) (ms : Members) → slice_cmp nat_cmp k l ≡ Less → IsUnder l ms → IsUnder k ms
under_lower k l no_members less under = tt
under_lower k l (member j e ms) less under = (nat_list_cmp_total.trans k l j less under.0, under_lower k l ms less under.1)

lower_of : (k l : List ℕ) → slice_cmp nat_cmp k l ≡ Greater → slice_cmp nat_cmp l k ≡ Less
lower_of k l e = nat_list_cmp_total.antisymm l k ∙ ap ordering_reverse e

greater_of : (k l : List ℕ) → slice_cmp nat_cmp k l ≡ Less → slice_cmp nat_cmp l k ≡ Greater
greater_of k l e = nat_list_cmp_total.antisymm l k ∙ ap ordering_reverse e

rising_put : (k : List ℕ) (d : Data) (ms : Members) → AreRising ms → AreRising (put k d ms)
rising_put k d no_members rising = (tt, tt)
rising_put k d (member l e ms) rising = go (slice_cmp nat_cmp k l) refl (rising_put k d ms rising.1)
  where
    go : (o : Ordering) → slice_cmp nat_cmp k l ≡ o → AreRising (put k d ms) → AreRising (match_ordering o (member k d (member l e ms)) (member l d ms) (member l e (put k d ms)))
    go Less is rest = ((is, under_lower k l ms is rising.0), rising)
    go Equal is rest = rising
    go Greater is rest = (under_put l k d ms (lower_of k l is) rising.0, rest)

read_put : (k : List ℕ) (d : Data) (ms : Members) → IsUtf8 k → IsRead d → MembersAreRead ms → MembersAreRead (put k d ms)
read_put k d no_members text is all = (text, is, tt)
read_put k d (member l e ms) text is all = go (slice_cmp nat_cmp k l) (read_put k d ms text is all.2)
  where
    go : (o : Ordering) → MembersAreRead (put k d ms) → MembersAreRead (match_ordering o (member k d (member l e ms)) (member l d ms) (member l e (put k d ms)))
    go Less rest = (text, is, all)
    go Equal rest = (all.0, is, all.2)
    go Greater rest = (all.0, all.1, rest)

-- ---- what is read is so
float_read : (sign : Bool) (p : Parts) (n : Num) → float_of sign p ≡ Some n → IsReadNumber n
float_read sign p n e = go (float_is_finite (nearest binary64 sign p)) e
  where
    go : (t : Bool) → cond t (Some (float (nearest binary64 sign p))) None ≡ Some n → IsReadNumber n
    go true e = let same : float (nearest binary64 sign p) ≡ n = cc in subst IsReadNumber same tt
    go false e = cc

number_from_read : (sign : Bool) (p : Parts) (n : Num) → number_from sign p ≡ Some n → IsReadNumber n
number_from_read false p n e = go (is_integer p) (nat_lt (digits_of p) (2 ^ 64)) refl e
  where
    go : (a b : Bool) → nat_lt (digits_of p) (2 ^ 64) ≡ b → cond (a && b) (Some (unsigned (digits_of p))) (float_of false p) ≡ Some n → IsReadNumber n
    go true true low e = let same : unsigned (digits_of p) ≡ n = cc in subst IsReadNumber same (grind (arith, nat_tests))
    go true false low e = float_read false p n e
    go false b low e = float_read false p n e
number_from_read true p n e = go (is_integer p) (nat_lt 0 (digits_of p)) (nat_le (digits_of p) (2 ^ 63)) refl refl e
  where
    below : (k : ℕ) → 0 < k → k ≤ 2 ^ 63 → IsReadNumber (negative (neg_ℤ (pos k)))
    below zero some low = absurd (omega arith)
    below (suc k) some low = omega arith

    go : (a b c : Bool) → nat_lt 0 (digits_of p) ≡ b → nat_le (digits_of p) (2 ^ 63) ≡ c → cond (a && b && c) (Some (negative (neg_ℤ (pos (digits_of p))))) (float_of true p) ≡ Some n → IsReadNumber n
    go true true true some low e =
        let same : negative (neg_ℤ (pos (digits_of p))) ≡ n = cc in
        subst IsReadNumber same (below (digits_of p) (grind (arith, nat_tests, some)) (grind (arith, nat_tests, low)))
    go true true false some low e = float_read true p n e
    go true false c some low e = float_read true p n e
    go false b c some low e = float_read true p n e

number_read : (s : List ℕ) (n : Num) → number_of s ≡ Some n → IsReadNumber n
unfolding number_of
number_read s n e = go (slice_index s 0 == 45) (scan (drop 1 s)) (scan s) e
  where
    go : (t : Bool) (p q : Parts) → cond t (number_from true p) (number_from false q) ≡ Some n → IsReadNumber n
    go true p q e = number_from_read true p n e
    go false p q e = number_from_read false q n e

number_mapped : (s : List ℕ) (o : Option Num) (d : Data) → number_of s ≡ o → option_map number o ≡ Some d → IsRead d
number_mapped s None d is e = cc
number_mapped s (Some n) d is e = let same : number n ≡ d = cc in subst IsRead same (number_read s n is)

items_made : (o : Option Items) (d : Data) → ((ds : Items) → o ≡ Some ds → ItemsAreRead ds) → option_map array o ≡ Some d → IsRead d
items_made None d all e = cc
items_made (Some ds) d all e = let same : array ds ≡ d = cc in subst IsRead same (all ds refl)

members_made : (o : Option Members) (d : Data) → ((ds : Members) → o ≡ Some ds → MembersAreRead ds × AreRising ds) → option_map object o ≡ Some d → IsRead d
members_made None d all e = cc
members_made (Some ds) d all e = let same : object ds ≡ d = cc in subst IsRead same (all ds refl)

item_made : (o : Option Data) (p : Option Items) (ds : Items) → ((d : Data) → o ≡ Some d → IsRead d) → ((es : Items) → p ≡ Some es → ItemsAreRead es) → option_and_then (λ d. option_map (item d) p) o ≡ Some ds → ItemsAreRead ds
item_made None p ds one all e = cc
item_made (Some d) None ds one all e = cc
item_made (Some d) (Some es) ds one all e = let same : item d es ≡ ds = cc in subst ItemsAreRead same (one d refl, all es refl)

member_made : (k : List ℕ) (o : Option Data) (ms : json.Members) (found ds : Members) → ((d : Data) → o ≡ Some d → IsRead d) → ((d : Data) → IsRead d → of_members ms (put k d found) ≡ Some ds → MembersAreRead ds × AreRising ds) →
    option_and_then (λ d. of_members ms (put k d found)) o ≡ Some ds → MembersAreRead ds × AreRising ds
member_made k None ms found ds one rest e = cc
member_made k (Some d) ms found ds one rest e = rest d (one d refl) e

mutual
  of_json_read : (j : json.Json) (d : Data) → IsOfTexts j → of_json j ≡ Some d → IsRead d
  of_json_read json.null d texts e = let same : null ≡ d = cc in subst IsRead same tt
  of_json_read (json.boolean b) d texts e = let same : boolean b ≡ d = cc in subst IsRead same tt
  of_json_read (json.number s) d texts e = number_mapped s (number_of s) d refl e
  of_json_read (json.string s) d texts e = let same : string s ≡ d = cc in subst IsRead same texts
  of_json_read (json.array js) d texts e = items_made (of_items js) d (of_items_read js texts) e
  of_json_read (json.object ms) d texts e = members_made (of_members ms no_members) d (of_members_read ms no_members texts tt tt) e

  of_items_read : (js : json.Items) → ItemsAreOfTexts js → (ds : Items) → of_items js ≡ Some ds → ItemsAreRead ds
  of_items_read json.no_items texts ds e = let same : no_items ≡ ds = cc in subst ItemsAreRead same tt
  of_items_read (json.item j js) texts ds e = item_made (of_json j) (of_items js) ds (λ d. of_json_read j d texts.0) (of_items_read js texts.1) e

  of_members_read : (ms : json.Members) (found : Members) → MembersAreOfTexts ms → MembersAreRead found → AreRising found → (ds : Members) → of_members ms found ≡ Some ds → MembersAreRead ds × AreRising ds
  of_members_read json.no_members found texts all rising ds e = let same : found ≡ ds = cc in subst (λ x. MembersAreRead x × AreRising x) same (all, rising)
  of_members_read (json.member k j ms) found texts all rising ds e =
      member_made k (of_json j) ms found ds (λ d. of_json_read j d texts.1) (λ d is. of_members_read ms (put k d found) texts.2 (read_put k d found texts.0 is all) (rising_put k d found rising) ds) e

-- the tree of a text
pub tree_read : (text : List ℕ) (d : Data) → IsUtf8 text → read text ≡ Some d → IsRead d
tree_read text d u e = go (json.value max_depth (tokens text)) refl e
  where
    go : (o : Option (json.Json × List Token)) → json.value max_depth (tokens text) ≡ o → option_and_then of_json (option_and_then (λ p. json.if_last p.0 p.1) o) ≡ Some d → IsRead d
    go None is e = cc
    go (Some (j, [])) is e = of_json_read j d (value_text max_depth text j [] u is) e
    go (Some (j, t ∷ ts)) is e = cc

-- ---- what is written is read as the tree
abbrev joined : Members → Members → Members
joined no_members ms = ms
joined (member k d more) ms = member k d (joined more ms)

-- each of the first is below each of the second
abbrev AreUnder : Members → Members → Type 0
AreUnder no_members ms = ⊤
AreUnder (member k d more) ms = IsUnder k ms × AreUnder more ms

put_last : (k : List ℕ) (d : Data) (more ms : Members) → AreUnder more (member k d ms) → put k d more ≡ joined more (member k d no_members)
put_last k d no_members ms under = refl
put_last k d (member l e more) ms under = rw (greater_of l k under.0.0) (ap (member l e) (put_last k d more ms under.1))

joined_last : (more : Members) (k : List ℕ) (d : Data) (ms : Members) → joined (joined more (member k d no_members)) ms ≡ joined more (member k d ms)
joined_last no_members k d ms = refl
joined_last (member l e more) k d ms = ap (member l e) (joined_last more k d ms)

joined_none : (more : Members) → more ≡ joined more no_members
joined_none no_members = refl
joined_none (member k d more) = ap (member k d) (joined_none more)

under_last : (more : Members) (k : List ℕ) (d : Data) (ms : Members) → AreUnder more (member k d ms) → IsUnder k ms → AreUnder (joined more (member k d no_members)) ms
under_last no_members k d ms under first = (first, tt)
under_last (member l e more) k d ms under first = (under.0.1, under_last more k d ms under.1 first)

number_again : (n : Num) → IsReadNumber n → is_float n ≡ false → number_of (number_text n) ≡ Some n
number_again (unsigned n) is whole = number_of-decimal n is
number_again (negative (pos n)) is whole = absurd is
number_again (negative (negsuc n)) is whole = number_of-negative n is
number_again (float x) is whole = cc

mutual
  outline_again : (d : Data) → IsRead d → has_float d ≡ false → of_json (outline d) ≡ Some d
  outline_again null is whole = refl
  outline_again (boolean b) is whole = refl
  outline_again (number n) is whole = ap (option_map number) (number_again n is whole)
  outline_again (string s) is whole = refl
  outline_again (array ds) is whole = ap (option_map array) (items_again ds is whole)
  outline_again (object ms) is whole = ap (option_map object) (members_again ms no_members is.0 is.1 tt whole)

  items_again : (ds : Items) → ItemsAreRead ds → items_have_float ds ≡ false → of_items (items_outline ds) ≡ Some ds
  items_again no_items is whole = refl
  items_again (item d ds) is whole = let both = or_parts (has_float d) _ whole in rw (outline_again d is.0 both.0, items_again ds is.1 both.1) refl

  members_again : (ms more : Members) → MembersAreRead ms → AreRising ms → AreUnder more ms → members_have_float ms ≡ false → of_members (members_outline ms) more ≡ Some (joined more ms)
  members_again no_members more is rising under whole = ap Some (joined_none more)
  members_again (member k d ms) more is rising under whole =
      let both = or_parts (has_float d) _ whole in
      ap (option_and_then (λ e. of_members (members_outline ms) (put k e more))) (outline_again d is.1 both.0)
      ∙ ap (of_members (members_outline ms)) (put_last k d more ms under)
      ∙ members_again ms (joined more (member k d no_members)) is.2 rising.1 (under_last more k d ms under rising.0) both.1
      ∙ ap Some (joined_last more k d ms)

-- ---- its text
-- each byte is a digit
abbrev IsAllDigits : List ℕ → Type 0
IsAllDigits ds = (i : ℕ) → i < length ds → (48 ≤ get_or ds i 0) × (get_or ds i 0 ≤ 57)

-- digits don't begin with a sign
no_sign : (ds : List ℕ) → IsAllDigits ds → (head ds == 45) ≡ false
no_sign [] digits = refl
no_sign (d ∷ ds) digits = let first = digits zero (omega arith) in grind (arith, nat_tests, first.0)

negative_number : (n : ℕ) → n < 2 ^ 64 → IsNumber (45 ∷ decimal n)
unfolding after_number
negative_number n low =
    let sign = no_sign (decimal n) (λ i l. digit_at (decimal n) i (decimal_is_IsNumeral n low).0.1 l) in
    let whole : IsNumber (decimal n) = IsNumber-decimal n low in
    ap (λ b. option_and_then after_exponent (option_and_then after_fraction (after_whole (cond b (drop 1 (decimal n)) (decimal n))))) (sym sign) ∙ whole

number_is : (n : Num) → IsReadNumber n → is_float n ≡ false → IsNumber (number_text n)
number_is (unsigned n) is whole = IsNumber-decimal n is
number_is (negative (pos n)) is whole = absurd is
number_is (negative (negsuc n)) is whole = negative_number (suc n) (omega (arith, is))
number_is (float x) is whole = cc

number_utf8 : (n : Num) → IsReadNumber n → is_float n ≡ false → IsUtf8 (number_text n)
number_utf8 (unsigned n) is whole = IsUtf8-from_ascii (decimal n) (IsAscii-decimal n is)
number_utf8 (negative (pos n)) is whole = absurd is
number_utf8 (negative (negsuc n)) is whole = IsUtf8-append (45 ∷ []) (decimal (suc n)) (IsUtf8-are_ascii (45 ∷ []) refl) (IsUtf8-from_ascii (decimal (suc n)) (IsAscii-decimal (suc n) (omega (arith, is))))
number_utf8 (float x) is whole = cc

mutual
  numbers_are : (d : Data) → IsRead d → has_float d ≡ false → HasNumbers (outline d)
  numbers_are null is whole = tt
  numbers_are (boolean b) is whole = tt
  numbers_are (number n) is whole = number_is n is whole
  numbers_are (string s) is whole = tt
  numbers_are (array ds) is whole = items_numbers ds is whole
  numbers_are (object ms) is whole = members_numbers ms is.0 whole

  items_numbers : (ds : Items) → ItemsAreRead ds → items_have_float ds ≡ false → ItemsHaveNumbers (items_outline ds)
  items_numbers no_items is whole = tt
  items_numbers (item d ds) is whole = let both = or_parts (has_float d) _ whole in (numbers_are d is.0 both.0, items_numbers ds is.1 both.1)

  members_numbers : (ms : Members) → MembersAreRead ms → members_have_float ms ≡ false → MembersHaveNumbers (members_outline ms)
  members_numbers no_members is whole = tt
  members_numbers (member k d ms) is whole = let both = or_parts (has_float d) _ whole in (numbers_are d is.1 both.0, members_numbers ms is.2 both.1)

mutual
  same_depth : (d : Data) → tree.depth (outline d) ≡ depth d
  same_depth null = refl
  same_depth (boolean b) = refl
  same_depth (number n) = refl
  same_depth (string s) = refl
  same_depth (array ds) = ap suc (same_items_depth ds)
  same_depth (object ms) = ap suc (same_members_depth ms)

  same_items_depth : (ds : Items) → tree.items_depth (items_outline ds) ≡ items_depth ds
  same_items_depth no_items = refl
  same_items_depth (item d ds) = ap₂ max (same_depth d) (same_items_depth ds)

  same_members_depth : (ms : Members) → tree.members_depth (members_outline ms) ≡ members_depth ms
  same_members_depth no_members = refl
  same_members_depth (member k d ms) = ap₂ max (same_depth d) (same_members_depth ms)

comma_utf8 : (later : Bool) → IsUtf8 (comma_if later)
comma_utf8 true = IsUtf8-are_ascii (44 ∷ []) refl
comma_utf8 false = IsUtf8-nil

one_ascii : (x : ℕ) (rest : List ℕ) → IsUtf8 (x ∷ []) → IsUtf8 rest → IsUtf8 (x ∷ rest)
one_ascii x rest first later = IsUtf8-append (x ∷ []) rest first later

mutual
  pub text_utf8 : (d : Data) → IsRead d → has_float d ≡ false → IsUtf8 (compact_text d)
  text_utf8 null is whole = IsUtf8-are_ascii _ refl
  text_utf8 (boolean b) is whole = IsUtf8-boolean b
  text_utf8 (number n) is whole = number_utf8 n is whole
  text_utf8 (string s) is whole = IsUtf8-quoted s is
  text_utf8 (array ds) is whole = one_ascii 91 (items_text false ds) (IsUtf8-are_ascii (91 ∷ []) refl) (items_utf8 false ds is whole)
  text_utf8 (object ms) is whole = one_ascii 123 (members_text false ms) (IsUtf8-are_ascii (123 ∷ []) refl) (members_utf8 false ms is.0 whole)

  items_utf8 : (later : Bool) (ds : Items) → ItemsAreRead ds → items_have_float ds ≡ false → IsUtf8 (items_text later ds)
  items_utf8 later no_items is whole = IsUtf8-are_ascii (93 ∷ []) refl
  items_utf8 later (item d ds) is whole =
      let both = or_parts (has_float d) _ whole in
      IsUtf8-append (comma_if later) _ (comma_utf8 later) (IsUtf8-append (compact_text d) (items_text true ds) (text_utf8 d is.0 both.0) (items_utf8 true ds is.1 both.1))

  members_utf8 : (later : Bool) (ms : Members) → MembersAreRead ms → members_have_float ms ≡ false → IsUtf8 (members_text later ms)
  members_utf8 later no_members is whole = IsUtf8-are_ascii (125 ∷ []) refl
  members_utf8 later (member k d ms) is whole =
      let both = or_parts (has_float d) _ whole in
      let rest : IsUtf8 (compact_text d ++ members_text true ms) = IsUtf8-append (compact_text d) (members_text true ms) (text_utf8 d is.1 both.0) (members_utf8 true ms is.2 both.1) in
      IsUtf8-append (comma_if later) _ (comma_utf8 later) (IsUtf8-append (quoted k) (58 ∷ (compact_text d ++ members_text true ms)) (IsUtf8-quoted k is.0) (one_ascii 58 _ (IsUtf8-are_ascii (58 ∷ []) refl) rest))

-- what was written is read again
pub read_again : (d : Data) → IsRead d → has_float d ≡ false → depth d ≤ max_depth → read (compact_text d) ≡ Some d
read_again d is whole flat =
    let j : json.Json = outline d in
    let made : tokens (compact_text d) ≡ json_tokens j = ap tokens (sym (print-outline d)) ∙ tokens-print (json_tokens j) (ArePrintable-json_tokens j (numbers_are d is whole)) in
    let value : json.value max_depth (tokens (compact_text d)) ≡ Some (j, []) =
    ap (json.value max_depth) (made ∙ sym (append-nil (json_tokens j))) ∙ value-json_tokens j max_depth [] (omega (arith, same_depth d, flat)) in
    ap (λ o. option_and_then of_json (option_and_then (λ p. json.if_last p.0 p.1) o)) value ∙ outline_again d is whole

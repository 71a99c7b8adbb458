-- The strings and names of a JSON value that is read from a text are UTF-8.
use Rattle.std.specs.Prelude.{⊤, option_and_then}
use Rattle.std.proofs.Common.{◌≡◌, ◌==◌, ℕ, zero, suc, Bool, true, false, cond, List, [], ◌∷◌, ◌++◌, length, Option, Some, None, refl, sym, subst, append_assoc, arith}
use Rattle.std.proofs.lemmas.Bool.Decides.{nat_tests}
use Rattle.std.specs.Str.{IsUtf8}
use Rattle.json.specs.Token.{Token, begin_object, end_object, begin_array, end_array, key, string, number, boolean, null, bad}
use Rattle.json.specs.Text.{content, plain}
use Rattle.json.specs.Word.{after_number, ends_word, head, is_operator, is_space, number_before, word}
use Rattle.json.specs.Lex.{Class, Lexeme, Mode, Place, after_comma, after_key, after_value, backslash, begins_colon, between, class, colon, comma, fresh, if_allowed, in_escape, in_string, in_word, lex, lex_byte, may_begin, may_close, operator, operator_lexeme, other, place_token, punctuate, quote, space, string_token, token, tokens}
use Rattle.json.specs.Json as json
use Rattle.json.specs.Json.{Json, Parse, after_end_array, item, items, items_step, member, members, members_step, parse_map, read_key, value, value_with}
use Rattle.host_model.proofs.TextsRead.{after_byte, content_text}

-- ---- tokens
abbrev HasText : Token → Type 0
HasText (key s) = IsUtf8 s
HasText (string s) = IsUtf8 s
HasText t = ⊤

abbrev HaveTexts : List Token → Type 0
HaveTexts [] = ⊤
HaveTexts (t ∷ ts) = HasText t × HaveTexts ts

abbrev LexemeHasText : Lexeme → Type 0
LexemeHasText (token t) = HasText t
LexemeHasText comma = ⊤
LexemeHasText colon = ⊤

abbrev LexemesHaveTexts : List Lexeme → Type 0
LexemesHaveTexts [] = ⊤
LexemesHaveTexts (l ∷ ls) = LexemeHasText l × LexemesHaveTexts ls

-- ---- a word and an operator have none
one_of : (b : Bool) (x y : Token) → HasText x → HasText y → HasText (cond b x y)
one_of true x y p q = p
one_of false x y p q = q

number_word : (t : List ℕ) (o : Option (List ℕ)) → HasText (number_before t o)
number_word t None = tt
number_word t (Some r) = one_of (ends_word r) _ bad tt tt

word_text : (t : List ℕ) → HasText (word t)
unfolding word
word_text t =
    one_of (head t == 116) _ _ (one_of _ (boolean true) bad tt tt) (one_of (head t == 102) _ _ (one_of _ (boolean false) bad tt tt)
    (one_of (head t == 110) _ _ (one_of _ null bad tt tt) (number_word t (after_number t))))

mark : (b : Bool) (x y : Lexeme) → LexemeHasText x → LexemeHasText y → LexemeHasText (cond b x y)
mark true x y p q = p
mark false x y p q = q

operator_text : (x : ℕ) → LexemeHasText (operator_lexeme x)
operator_text x =
    mark (x == 123) (token begin_object) _ tt (mark (x == 125) (token end_object) _ tt (mark (x == 91) (token begin_array) _ tt (mark (x == 93) (token end_array) _ tt (mark (x == 44) comma colon tt tt))))

-- ---- a string
string_text : (xs : List ℕ) (o : Option (List ℕ)) → content plain xs ≡ o → IsUtf8 xs → HasText (string_token o)
string_text xs None e u = tt
string_text xs (Some s) e u = content_text xs s e u

-- what begins with a quote
quote_is : (x : ℕ) → class x ≡ quote → x ≡ 34
quote_is x e = go (x == 34) refl (x == 92) (is_operator x) (is_space x) e
  where
    go : (q : Bool) → (x == 34) ≡ q → (b o s : Bool) → cond q quote (cond b backslash (cond o operator (cond s space other))) ≡ quote → x ≡ 34
    go true eq b o s e = grind (arith, nat_tests)
    go false eq true o s e = cc
    go false eq false true s e = cc
    go false eq false false true e = cc
    go false eq false false false e = cc

byte_text : (p : List ℕ) (m : Mode) (x : ℕ) (xs : List ℕ) (k : Mode → List Lexeme) → IsUtf8 (p ++ x ∷ xs) → ((n : Mode) → LexemesHaveTexts (k n)) → (c : Class) → class x ≡ c → LexemesHaveTexts (lex_byte m c x xs k)
byte_text p between x xs k u h quote is = let at : x ≡ 34 = quote_is x is in (string_text xs (content plain xs) refl (after_byte p x xs (omega (arith, at)) u), h in_string)
byte_text p between x xs k u h backslash is = (tt, h in_word)
byte_text p between x xs k u h operator is = (operator_text x, h between)
byte_text p between x xs k u h space is = h between
byte_text p between x xs k u h other is = (word_text (x ∷ xs), h in_word)
byte_text p in_word x xs k u h quote is = h in_word
byte_text p in_word x xs k u h backslash is = h in_word
byte_text p in_word x xs k u h operator is = (operator_text x, h between)
byte_text p in_word x xs k u h space is = h between
byte_text p in_word x xs k u h other is = h in_word
byte_text p in_string x xs k u h quote is = h between
byte_text p in_string x xs k u h backslash is = h in_escape
byte_text p in_string x xs k u h operator is = h in_string
byte_text p in_string x xs k u h space is = h in_string
byte_text p in_string x xs k u h other is = h in_string
byte_text p in_escape x xs k u h c is = h in_string

lex_text : (xs p : List ℕ) → IsUtf8 (p ++ xs) → (m : Mode) → LexemesHaveTexts (lex m xs)
unfolding lex
lex_text [] p u m = tt
lex_text (x ∷ xs) p u m = byte_text p m x xs (λ n. lex n xs) u (lex_text xs (p ++ x ∷ []) (subst IsUtf8 (sym (append_assoc p (x ∷ []) xs)) u)) (class x) refl

-- ---- commas and colons
allowed : (b : Bool) (t : Token) (k : Place → List Token) (next : Place) → HasText t → HaveTexts (k next) → HaveTexts (if_allowed b t k next)
allowed true t k next p q = (p, q)
allowed false t k next p q = (tt, tt)

placed : (p : Place) (t : Token) (b : Bool) (k : Place → List Token) → HasText t → ((n : Place) → HaveTexts (k n)) → HaveTexts (place_token p t b k)
placed p begin_object b k q h = allowed (may_begin p) begin_object k fresh tt (h fresh)
placed p end_object b k q h = allowed (may_close p) end_object k after_value tt (h after_value)
placed p begin_array b k q h = allowed (may_begin p) begin_array k fresh tt (h fresh)
placed p end_array b k q h = allowed (may_close p) end_array k after_value tt (h after_value)
placed p (key s) b k q h = (tt, tt)
placed p (string s) true k q h = allowed (may_begin p) (key s) k after_key q (h after_key)
placed p (string s) false k q h = allowed (may_begin p) (string s) k after_value q (h after_value)
placed p (number s) b k q h = allowed (may_begin p) (number s) k after_value tt (h after_value)
placed p (boolean v) b k q h = allowed (may_begin p) (boolean v) k after_value tt (h after_value)
placed p null b k q h = allowed (may_begin p) null k after_value tt (h after_value)
placed p bad b k q h = (tt, tt)

punctuated : (ls : List Lexeme) → LexemesHaveTexts ls → (p : Place) → HaveTexts (punctuate p ls)
unfolding punctuate
punctuated [] h fresh = tt
punctuated [] h after_value = tt
punctuated [] h after_comma = (tt, tt)
punctuated [] h after_key = (tt, tt)
punctuated (token t ∷ ls) h p = placed p t (begins_colon ls) (λ n. punctuate n ls) h.0 (punctuated ls h.1)
punctuated (comma ∷ ls) h fresh = (tt, tt)
punctuated (comma ∷ ls) h after_value = punctuated ls h.1 after_comma
punctuated (comma ∷ ls) h after_comma = (tt, tt)
punctuated (comma ∷ ls) h after_key = (tt, tt)
punctuated (colon ∷ ls) h fresh = (tt, tt)
punctuated (colon ∷ ls) h after_value = (tt, tt)
punctuated (colon ∷ ls) h after_comma = (tt, tt)
punctuated (colon ∷ ls) h after_key = punctuated ls h.1 fresh

tokens_text : (text : List ℕ) → IsUtf8 text → HaveTexts (tokens text)
tokens_text text u = punctuated (lex between text) (lex_text text [] u between) fresh

-- ---- values
abbrev mutual
  pub IsOfTexts : Json → Type 0
  IsOfTexts (json.string s) = IsUtf8 s
  IsOfTexts (json.array js) = ItemsAreOfTexts js
  IsOfTexts (json.object ms) = MembersAreOfTexts ms
  IsOfTexts j = ⊤

  pub ItemsAreOfTexts : json.Items → Type 0
  ItemsAreOfTexts json.no_items = ⊤
  ItemsAreOfTexts (item j js) = IsOfTexts j × ItemsAreOfTexts js

  pub MembersAreOfTexts : json.Members → Type 0
  MembersAreOfTexts json.no_members = ⊤
  MembersAreOfTexts (member k j ms) = IsUtf8 k × IsOfTexts j × MembersAreOfTexts ms

abbrev Gives : {A : Type 0} → (A → Type 0) → Option (A × List Token) → Type 0
Gives Q None = ⊤
Gives Q (Some p) = Q p.0 × HaveTexts p.1

abbrev Keeps : {A : Type 0} → (A → Type 0) → Parse A → Type 0
Keeps Q p = (ts : List Token) → HaveTexts ts → Gives Q (p ts)

mapped : {A B : Type 0} (P : A → Type 0) (Q : B → Type 0) (f : A → B) → ((a : A) → P a → Q (f a)) → (o : Option (A × List Token)) → Gives P o → Gives Q (parse_map f o)
mapped P Q f g None h = tt
mapped P Q f g (Some p) h = (g p.0 h.0, h.1)

and_more : {B : Type 0} (Q : B → Type 0) (f : Json → B → B) → ((j : Json) (b : B) → IsOfTexts j → Q b → Q (f j b)) → (more : Parse B) → Keeps Q more
    → (o : Option (Json × List Token)) → Gives IsOfTexts o → Gives Q (option_and_then (λ q. parse_map (f q.0) (more q.1)) o)
and_more Q f g more keeps None h = tt
and_more Q f g more keeps (Some q) h = mapped Q Q (f q.0) (λ b. g q.0 b h.0) _ (keeps q.1 h.1)

abbrev Rest : Option (List Token) → Type 0
Rest None = ⊤
Rest (Some r) = HaveTexts r

closing : (ts : List Token) → HaveTexts ts → Rest (after_end_array ts)
closing [] h = tt
closing (begin_object ∷ ts) h = tt
closing (end_object ∷ ts) h = tt
closing (begin_array ∷ ts) h = tt
closing (end_array ∷ ts) h = h.1
closing (key s ∷ ts) h = tt
closing (string s ∷ ts) h = tt
closing (number s ∷ ts) h = tt
closing (boolean v ∷ ts) h = tt
closing (null ∷ ts) h = tt
closing (bad ∷ ts) h = tt

-- a name that may be there
abbrev IsName : Option (List ℕ) → Type 0
IsName None = ⊤
IsName (Some k) = IsUtf8 k

naming : Keeps IsName read_key
naming [] h = tt
naming (begin_object ∷ ts) h = tt
naming (end_object ∷ ts) h = (tt, h.1)
naming (begin_array ∷ ts) h = tt
naming (end_array ∷ ts) h = tt
naming (key s ∷ ts) h = (h.0, h.1)
naming (string s ∷ ts) h = tt
naming (number s ∷ ts) h = tt
naming (boolean v ∷ ts) h = tt
naming (null ∷ ts) h = tt
naming (bad ∷ ts) h = tt

module _ (p : Parse Json) (keeps : Keeps IsOfTexts p) where
  item_turn : (more : Parse json.Items) → Keeps ItemsAreOfTexts more → (ts : List Token) → HaveTexts ts → (o : Option (List Token)) → Rest o → Gives ItemsAreOfTexts (items_step p more ts o)
  item_turn more again ts h (Some r) q = (tt, q)
  item_turn more again ts h None q = and_more ItemsAreOfTexts item (λ j b x y. (x, y)) more again (p ts) (keeps ts h)

  keeps_items : (n : ℕ) → Keeps ItemsAreOfTexts (items p n)
  unfolding items
  keeps_items zero ts h = tt
  keeps_items (suc n) ts h = item_turn (items p n) (keeps_items n) ts h (after_end_array ts) (closing ts h)

  member_turn : (more : Parse json.Members) → Keeps MembersAreOfTexts more → (o : Option (Option (List ℕ) × List Token)) → Gives IsName o
      → Gives MembersAreOfTexts (option_and_then (λ q. members_step p more q.0 q.1) o)
  member_turn more again None h = tt
  member_turn more again (Some (None, s)) h = (tt, h.1)
  member_turn more again (Some (Some k, s)) h = and_more MembersAreOfTexts (member k) (λ j b x y. (h.0, x, y)) more again (p s) (keeps s h.1)

  keeps_members : (n : ℕ) → Keeps MembersAreOfTexts (members p n)
  unfolding members
  keeps_members zero ts h = tt
  keeps_members (suc n) ts h = member_turn (members p n) (keeps_members n) (read_key ts) (naming ts h)

keeps_value_with : (a : Parse json.Items) (o : Parse json.Members) → Keeps ItemsAreOfTexts a → Keeps MembersAreOfTexts o → Keeps IsOfTexts (value_with a o)
keeps_value_with a o p q [] h = tt
keeps_value_with a o p q (begin_object ∷ ts) h = mapped MembersAreOfTexts IsOfTexts json.object (λ m x. x) _ (q ts h.1)
keeps_value_with a o p q (end_object ∷ ts) h = tt
keeps_value_with a o p q (begin_array ∷ ts) h = mapped ItemsAreOfTexts IsOfTexts json.array (λ m x. x) _ (p ts h.1)
keeps_value_with a o p q (end_array ∷ ts) h = tt
keeps_value_with a o p q (key s ∷ ts) h = tt
keeps_value_with a o p q (string s ∷ ts) h = h
keeps_value_with a o p q (number s ∷ ts) h = (tt, h.1)
keeps_value_with a o p q (boolean v ∷ ts) h = (tt, h.1)
keeps_value_with a o p q (null ∷ ts) h = (tt, h.1)
keeps_value_with a o p q (bad ∷ ts) h = tt

keeps_value : (depth : ℕ) → Keeps IsOfTexts (value depth)
unfolding value
keeps_value zero = keeps_value_with (λ ts. None) (λ ts. None) (λ ts h. tt) (λ ts h. tt)
keeps_value (suc d) =
    keeps_value_with (λ ts. items (value d) (length ts) ts) (λ ts. members (value d) (length ts) ts)
    (λ ts. keeps_items (value d) (keeps_value d) (length ts) ts) (λ ts. keeps_members (value d) (keeps_value d) (length ts) ts)

-- what a text in UTF-8 is read as
pub value_text : (depth : ℕ) (text : List ℕ) (j : Json) (rest : List Token) → IsUtf8 text → value depth (tokens text) ≡ Some (j, rest) → IsOfTexts j
value_text depth text j rest u e = (subst (Gives IsOfTexts) e (keeps_value depth (tokens text) (tokens_text text u))).0

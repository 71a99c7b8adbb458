-- A name may stand in a field.
use Rattle.std.specs.List.{AllByRecursion, list_all}
use Rattle.std.proofs.Common.{◌&&◌, ◌++◌, ◌∷◌, ◌≡◌, ◌≤◌, Bool, List, [], arith, false, length, nat_le, refl, reverse, true, ℕ}
use Rattle.std.specs.Prelude.{All}
use Rattle.std.proofs.lemmas.Bool.{and_parts}
use Rattle.std.proofs.lemmas.Bool.Decides.{nat_tests}
use Rattle.std.proofs.lemmas.List.{reverse-append}
use Rattle.std.proofs.lemmas.List.Elements.{All-from_recursion, All-head, All-push, All-same, All-tail}
use Rattle.httparse.specs.Grammar.{is_ows, is_value_byte, skip_ows}
use Rattle.ps_http.specs.Sendable.{IsValue}
use Rattle.ps_time.specs.Name.{is_name, is_name_byte, is_name_start}

start_in : (c : ℕ) → is_name_start c ≡ true → is_name_byte c ≡ true
start_in c is = rw is refl

byte_value : (c : ℕ) → is_name_byte c ≡ true → is_value_byte c ≡ true
byte_value c is = grind (arith, nat_tests)

byte_solid : (c : ℕ) → is_name_byte c ≡ true → is_ows c ≡ false
byte_solid c is = grind (arith, nat_tests)

abbrev Each : (ℕ → Bool) → Bool → List ℕ → Type 0
Each test answer bytes = AllByRecursion (λ b. test b ≡ answer) bytes

each_of : (test : ℕ → Bool) (answer : Bool) → ((c : ℕ) → is_name_byte c ≡ true → test c ≡ answer) → (bytes : List ℕ) → list_all is_name_byte bytes ≡ true → Each test answer bytes
each_of test answer of [] is = tt
each_of test answer of (c ∷ cs) is = let parts = and_parts (is_name_byte c) (list_all is_name_byte cs) is in (of c parts.0, each_of test answer of cs parts.1)

solid_front : (bytes : List ℕ) → All (λ b. is_ows b ≡ false) bytes → skip_ows bytes ≡ bytes
solid_front [] solid = refl
solid_front (b ∷ bs) solid = let first : is_ows b ≡ false = All-head (λ c. is_ows c ≡ false) b bs solid in rw first refl

turned : (P : ℕ → Type 0) (xs : List ℕ) → All P xs → All P (reverse xs)
turned P [] all = all
turned P (x ∷ xs) all = All-same P (reverse (x ∷ xs)) (reverse xs ++ x ∷ []) (reverse-append (x ∷ []) xs) (All-push P (reverse xs) x (turned P xs (All-tail P x xs all)) (All-head P x xs all))

named_all : (name : List ℕ) → is_name name ≡ true → list_all is_name_byte name ≡ true
named_all [] is = cc
named_all (c ∷ cs) is =
    let parts = and_parts (is_name_start c) (nat_le (length cs) 62 && list_all is_name_byte cs) is in
    let rest = (and_parts (nat_le (length cs) 62) (list_all is_name_byte cs) parts.1).1 in
    rw (start_in c parts.0) rest

pub name_value : (name : List ℕ) → is_name name ≡ true → IsValue name
name_value name is =
    let all = named_all name is in
    let solid : All (λ b. is_ows b ≡ false) name = All-from_recursion (λ b. is_ows b ≡ false) name (each_of is_ows false byte_solid name all) in
    record {
      bytes = All-from_recursion (λ b. is_value_byte b ≡ true) name (each_of is_value_byte true byte_value name all);
      front = solid_front name solid;
      back = solid_front (reverse name) (turned (λ b. is_ows b ≡ false) name solid);
    }

pub name_near : (name : List ℕ) → is_name name ≡ true → length name ≤ 255
name_near [] is = cc
name_near (c ∷ cs) is =
    let few : nat_le (length cs) 62 ≡ true = (and_parts (nat_le (length cs) 62) (list_all is_name_byte cs) (and_parts (is_name_start c) (nat_le (length cs) 62 && list_all is_name_byte cs) is).1).0 in
    let low : length cs ≤ 62 = grind (arith, nat_tests) in
    omega (arith, low)

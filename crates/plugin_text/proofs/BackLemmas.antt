-- The compact text of the tree of a test is read again as that tree.
use Rattle.std.specs.Prelude.{option_and_then}
use Rattle.std.specs.Str.{IsUtf8}
use Rattle.std.proofs.Common.{◌≡◌, ℕ, ◌≤◌, List, [], ◌∷◌, map, Option, Some, None, Ok, refl, sym, ap, ◌∙◌, append-nil, arith}
use Rattle.json.specs.Json as json
use Rattle.json.specs.Lex.{tokens}
use Rattle.json.specs.Tree.{HasNumbers, ItemsHaveNumbers, MembersHaveNumbers, json_tokens}
use Rattle.json.specs.Tree as tree
use Rattle.json.proofs.Printed.Tokens.{tokens-print}
use Rattle.json.proofs.Printed.Trees.{ArePrintable-json_tokens, value-json_tokens}
use Rattle.serde_json.specs.Data.{Data, Members, no_members, string}
use Rattle.serde_json.specs.Read.{max_depth, of_items, of_json, of_members, read}
use Rattle.serde_json.specs.View.{items_of}
use Rattle.serde_json.specs.Written.{compact_text, items_outline, members_outline, outline}
use Rattle.serde_json.proofs.Texts.{print-outline}
use Rattle.ps_json.specs.Tree.{tree_of}
use Rattle.ps_json.proofs.TreeLemmas.{tree_text}
use Rattle.plugin_core.specs.WriteTest.{spec_members, test_data}
use Rattle.plugin_core.specs.declared.test_spec.Sleep.{Sleep}
use Rattle.plugin_core.specs.declared.test_spec.TestSpec.{TestSpec}
use Rattle.plugin_core.specs.declared.test_spec.TestSpec.TheVariants.{Idle, Idleex, Idlebgm, Idlemany, Simplestream}
use Rattle.plugin_core.proofs.ShapeLemmas.{test_flat}

-- the tree is made again of what is written for it, which has no numbers and isn't deeper
record IsMade (d : Data) : Type 0 where
  pub again : of_json (outline d) ≡ Some d
  pub numbers : HasNumbers (outline d)
  pub flat : tree.depth (outline d) ≤ 3

record AreMade (ms : Members) : Type 0 where
  pub again : of_members (members_outline ms) no_members ≡ Some ms
  pub numbers : MembersHaveNumbers (members_outline ms)
  pub flat : tree.members_depth (members_outline ms) ≤ 1

names_again : (names : List (List ℕ)) → of_items (items_outline (items_of (map string names))) ≡ Some (items_of (map string names))
names_again [] = refl
names_again (x ∷ xs) = rw (names_again xs) refl

names_numbers : (names : List (List ℕ)) → ItemsHaveNumbers (items_outline (items_of (map string names)))
names_numbers [] = tt
names_numbers (x ∷ xs) = (tt, names_numbers xs)

names_flat : (names : List (List ℕ)) → tree.items_depth (items_outline (items_of (map string names))) ≡ 0
names_flat [] = refl
names_flat (x ∷ xs) = rw (names_flat xs) refl

abbrev sleep : ℕ → Option (List ℕ) → Option (List ℕ) → Sleep
sleep d s p = record { duration = d; starting_comment = s; parting_comment = p }

idle_made : (d : ℕ) (s p : Option (List ℕ)) → AreMade (spec_members (Idle (sleep d s p)))
idle_made d None None = record { again = refl; numbers = (tt, tt); flat = omega arith }
idle_made d None (Some p) = record { again = refl; numbers = (tt, (tt, tt)); flat = omega arith }
idle_made d (Some s) None = record { again = refl; numbers = (tt, (tt, tt)); flat = omega arith }
idle_made d (Some s) (Some p) = record { again = refl; numbers = (tt, (tt, (tt, tt))); flat = omega arith }

paced_made : (d : ℕ) (s p : Option (List ℕ)) (i : ℕ) → AreMade (spec_members (Idlebgm (sleep d s p) i))
paced_made d None None i = record { again = refl; numbers = (tt, (tt, tt)); flat = omega arith }
paced_made d None (Some p) i = record { again = refl; numbers = (tt, (tt, (tt, tt))); flat = omega arith }
paced_made d (Some s) None i = record { again = refl; numbers = (tt, (tt, (tt, tt))); flat = omega arith }
paced_made d (Some s) (Some p) i = record { again = refl; numbers = (tt, (tt, (tt, (tt, tt)))); flat = omega arith }

many_made : (d : ℕ) (s p : Option (List ℕ)) (h : List (List ℕ)) → AreMade (spec_members (Idlemany (sleep d s p) h))
many_made d None None h = record { again = rw (names_again h) refl; numbers = (tt, (names_numbers h, tt)); flat = omega (arith, names_flat h) }
many_made d None (Some p) h = record { again = rw (names_again h) refl; numbers = (tt, (names_numbers h, (tt, tt))); flat = omega (arith, names_flat h) }
many_made d (Some s) None h = record { again = rw (names_again h) refl; numbers = (tt, (names_numbers h, (tt, tt))); flat = omega (arith, names_flat h) }
many_made d (Some s) (Some p) h = record { again = rw (names_again h) refl; numbers = (tt, (names_numbers h, (tt, (tt, tt)))); flat = omega (arith, names_flat h) }

spec_made : (test : TestSpec) → AreMade (spec_members test)
spec_made (Idle z) = idle_made z.duration z.starting_comment z.parting_comment
spec_made (Idleex z) = idle_made z.duration z.starting_comment z.parting_comment
spec_made (Idlebgm z i) = paced_made z.duration z.starting_comment z.parting_comment i
spec_made (Idlemany z h) = many_made z.duration z.starting_comment z.parting_comment h
spec_made (Simplestream to m w t) = record { again = refl; numbers = (tt, (tt, (tt, (tt, tt)))); flat = omega arith }

test_made : (test : TestSpec) → IsMade (test_data test)
test_made test =
    let made = spec_made test in
    record { again = rw (made.again) refl; numbers = (made.numbers, (tt, tt)); flat = omega (arith, made.flat) }

text_read : (test : TestSpec) → read (compact_text (test_data test)) ≡ Some (test_data test)
text_read test =
    let made = test_made test in
    let j : json.Json = outline (test_data test) in
    let printed : tokens (compact_text (test_data test)) ≡ json_tokens j = ap tokens (sym (print-outline (test_data test))) ∙ tokens-print (json_tokens j) (ArePrintable-json_tokens j made.numbers) in
    ap (λ o. option_and_then of_json (option_and_then (λ p. json.if_last p.0 p.1) o)) (ap (json.value max_depth) (printed ∙ sym (append-nil (json_tokens j))) ∙ value-json_tokens j max_depth [] (omega (arith, made.flat))) ∙ made.again

pub text_back : (test : TestSpec) → IsUtf8 (compact_text (test_data test)) → tree_of (compact_text (test_data test)) ≡ Ok (test_data test)
text_back test utf8 = tree_text (compact_text (test_data test)) (test_data test) utf8 (text_read test) (omega (arith, test_flat test))

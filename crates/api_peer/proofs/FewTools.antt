-- Different names of tools are four at most.
use Rattle.std.specs.List.{list_all}
use Rattle.std.specs.Prelude.{bytes_eq, codes}
use Rattle.std.proofs.Common.{◌+◌, ◌∷◌, ◌≡◌, ◌≤◌, Bool, List, None, Some, [], arith, cond, false, is_some, length, not, refl, subst, true, ℕ}
use Rattle.std.proofs.lemmas.Bool.{and_parts, not-true, or_parts}
use Rattle.std.proofs.lemmas.Slice.Eq.{bytes_eq-Decides}
use Rattle.plugin_core.specs.Participants.{is_named}
use Rattle.plugin_core.specs.ReadTest.{all_differ}
use Rattle.plugin_tool.specs.Choice.{tool_of_text}
use Rattle.plugin_tool.specs.declared.tool.Tool.TheVariants.{Sleep, Snooze, Sleepbgm, Simplestreamer}

one_if : Bool → ℕ
one_if true = 1
one_if false = 0

-- how many of the names are this one
count : List ℕ → List (List ℕ) → ℕ
count t [] = 0
count t (n ∷ ns) = one_if (bytes_eq n t) + count t ns

no_count : (t : List ℕ) (names : List (List ℕ)) → is_named t names ≡ false → count t names ≡ 0
unfolding count one_if
no_count t [] none = refl
no_count t (n ∷ ns) none =
    let parts = or_parts (bytes_eq n t) (is_named t ns) none in
    rw (parts.0, no_count t ns parts.1) refl

one_count : (t : List ℕ) (names : List (List ℕ)) → all_differ names ≡ true → count t names ≤ 1
unfolding count one_if
one_count t [] differ = omega arith
one_count t (n ∷ ns) differ = go (bytes_eq n t) refl (one_count t ns parts.1)
  where
    parts : (not (is_named n ns) ≡ true) × (all_differ ns ≡ true)
    parts = and_parts (not (is_named n ns)) (all_differ ns) differ

    go : (b : Bool) → bytes_eq n t ≡ b → count t ns ≤ 1 → one_if b + count t ns ≤ 1
    go false other few = omega (arith, few)
    go true same few =
        let is : n ≡ t = (bytes_eq-Decides n t).0 same in
        let none : count t ns ≡ 0 = no_count t ns (subst (λ x. is_named x ns ≡ false) is (not-true (is_named n ns) parts.0)) in
        omega (arith, none)

abbrev sum : List (List ℕ) → ℕ
sum names = count (codes "sleep") names + (count (codes "snooze") names + (count (codes "sleepbgm") names + count (codes "simplestreamer") names))

-- each is one of the four
some_tool : (a b c d : Bool) → is_some (cond a (Some Sleep) (cond b (Some Snooze) (cond c (Some Sleepbgm) (cond d (Some Simplestreamer) None)))) ≡ true → 1 ≤ one_if a + (one_if b + (one_if c + one_if d))
unfolding one_if
some_tool true b c d is = omega arith
some_tool false true c d is = omega arith
some_tool false false true d is = omega arith
some_tool false false false true is = omega arith
some_tool false false false false is = cc

all_counted : (names : List (List ℕ)) → list_all (λ name. is_some (tool_of_text name)) names ≡ true → length names ≤ sum names
unfolding count
all_counted [] known = omega arith
all_counted (n ∷ ns) known =
    let parts = and_parts (is_some (tool_of_text n)) (list_all (λ name. is_some (tool_of_text name)) ns) known in
    let here = some_tool (bytes_eq n (codes "sleep")) (bytes_eq n (codes "snooze")) (bytes_eq n (codes "sleepbgm")) (bytes_eq n (codes "simplestreamer")) parts.0 in
    let rest = all_counted ns parts.1 in
    omega (arith, here, rest)

pub few_tools : (names : List (List ℕ)) → list_all (λ name. is_some (tool_of_text name)) names ≡ true → all_differ names ≡ true → length names ≤ 4
few_tools names known differ =
    omega (
      arith,
      all_counted names known,
      one_count (codes "sleep") names differ,
      one_count (codes "snooze") names differ,
      one_count (codes "sleepbgm") names differ,
      one_count (codes "simplestreamer") names differ,
    )

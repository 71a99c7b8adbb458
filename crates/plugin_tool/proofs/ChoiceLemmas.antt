-- What the choice of a tool means.
use Rattle.std.proofs.Common.{◌≡◌, ◌⊎◌, inl, inr, ⊎_elim, ℕ, ◌*◌, ◌<◌, ◌≤◌, ◌↔◌, nat_lt, Bool, true, false, ◌&&◌, ◌||◌, List, [], ◌∷◌, ◌++◌, length, Option, Some, None, is_some, IfSome, refl, sym, subst, ◌∙◌, ap, codes, arith, if◌then◌else◌}
use Rattle.std.proofs.lemmas.Bool.{false≢true}
use Rattle.std.proofs.lemmas.Bool.Decides.{nat_tests}
use Rattle.std.proofs.lemmas.List.Sums.{sum_by-cons}
use Rattle.std.proofs.lemmas.Slice.Eq.{bytes_eq-Decides}
use Rattle.std.specs.List.{AllByRecursion, Contains}
use Rattle.std.specs.Option.{IsNone, unwrap_or}
use Rattle.std.specs.Str.{bytes_eq}
use Rattle.plugin_tool.specs.Choice.{tool_of_text, preference, in_all, offered, or_else, first_wanted, tools_by_name, exceeds, or_better, best_of, chosen, sum_of_preferences, is_named_first, IsBest, IsFirstWanted, IsChoice, qualifies}
use Rattle.plugin_core.specs.Participants.{is_named}
use Rattle.plugin_tool.specs.Tool.{tool_text}
use Rattle.plugin_tool.specs.declared.tool.Tool.{Tool}
use Rattle.plugin_tool.specs.declared.tool.Tool.TheVariants.{Sleep, Snooze, Sleepbgm, Simplestreamer}

-- ---- names

same_tool : (u t : Tool) → Some u ≡ Some t → u ≡ t
same_tool u t is = ap (λ (o : Option Tool). unwrap_or o u) is

-- one word of the names
named : (bs word : List ℕ) (u t : Tool) (rest : Option Tool) → tool_text u ≡ word → (rest ≡ Some t → bs ≡ tool_text t) → (if bytes_eq bs word then Some u else rest) ≡ Some t → bs ≡ tool_text t
named bs word u t rest text next = by_test (bytes_eq bs word) refl
  where
    by_test : (b : Bool) → bytes_eq bs word ≡ b → (if b then Some u else rest) ≡ Some t → bs ≡ tool_text t
    by_test true here_is is = subst (λ (x : Tool). bs ≡ tool_text x) (same_tool u t is) ((bytes_eq-Decides bs word).0 here_is ∙ sym text)
    by_test false is_not is = next is

-- only the name of a tool is read as that tool
text_of_named : (bs : List ℕ) (t : Tool) → tool_of_text bs ≡ Some t → bs ≡ tool_text t
text_of_named bs t =
    named bs (codes "sleep") Sleep t _ refl (named bs (codes "snooze") Snooze t _ refl (named bs (codes "sleepbgm") Sleepbgm t _ refl (named bs (codes "simplestreamer") Simplestreamer t None refl (λ is_not. absurd (false≢true (ap is_some is_not))))))

tool_named : (t : Tool) → tool_of_text (tool_text t) ≡ Some t
tool_named Sleep = refl
tool_named Snooze = refl
tool_named Sleepbgm = refl
tool_named Simplestreamer = refl

-- ---- wanted tools

or_true : (a b : Bool) → a || b ≡ true → (a ≡ true) ⊎ (b ≡ true)
or_true true b is = inl refl
or_true false b is = inr is

-- a tool that is named among a name and others is read off that name, or is among the others
is_first_or_later : (name : List ℕ) (names : List (List ℕ)) (t : Tool) → is_named (tool_text t) (name ∷ names) ≡ true → (tool_of_text name ≡ Some t) ⊎ (is_named (tool_text t) names ≡ true)
is_first_or_later name names t is =
    ⊎_elim (λ here. inl (ap tool_of_text ((bytes_eq-Decides name (tool_text t)).0 here) ∙ tool_named t)) (λ later. inr later) (or_true (bytes_eq name (tool_text t)) (is_named (tool_text t) names) is)

-- one more name that isn't chosen, before those that are left
passed_on : (lists : List (List (List ℕ))) (name : List ℕ) (names : List (List ℕ)) (t : Tool) → ((other : Tool) → tool_of_text name ≡ Some other → in_all lists other ≡ false) → IsFirstWanted lists names t → IsFirstWanted lists (name ∷ names) t
passed_on lists name names t not_here first = record {
  everywhere = first.everywhere;
  before = name ∷ first.before;
  after = first.after;
  place = ap (λ (ns : List (List ℕ)). name ∷ ns) first.place;
  passed = λ other is. ⊎_elim (λ here. not_here other here) (λ later. first.passed other later) (is_first_or_later name first.before other is);
}

wanted_some : (lists : List (List (List ℕ))) (names : List (List ℕ)) (t : Tool) → first_wanted lists names ≡ Some t → IsFirstWanted lists names t
wanted_some lists [] t is = absurd (false≢true (ap is_some is))
wanted_some lists (name ∷ names) t is = by_name (wanted_some lists names t) (tool_of_text name) refl is
  where
    by_lists : (first_wanted lists names ≡ Some t → IsFirstWanted lists names t) → (u : Tool) → tool_of_text name ≡ Some u → (b : Bool) → in_all lists u ≡ b → or_else (if b then Some u else None) (first_wanted lists names) ≡ Some t → IsFirstWanted lists (name ∷ names) t
    by_lists rest u read true here_is is =
        let same : u ≡ t = same_tool u t is in
        record {
          everywhere = subst (λ (x : Tool). in_all lists x ≡ true) same here_is;
          before = [];
          after = names;
          place = ap (λ (n : List ℕ). n ∷ names) (text_of_named name u read ∙ ap tool_text same);
          passed = λ other none. absurd (false≢true none);
        }
    by_lists rest u read false is_not is =
        passed_on lists name names t (λ other also. subst (λ (x : Tool). in_all lists x ≡ false) (same_tool u other (sym read ∙ also)) is_not) (rest is)

    by_name : (first_wanted lists names ≡ Some t → IsFirstWanted lists names t) → (o : Option Tool) → tool_of_text name ≡ o → or_else (offered lists o) (first_wanted lists names) ≡ Some t → IsFirstWanted lists (name ∷ names) t
    by_name rest None unread is = passed_on lists name names t (λ other also. absurd (false≢true (ap is_some (sym unread ∙ also)))) (rest is)
    by_name rest (Some u) read is = by_lists rest u read (in_all lists u) refl is

-- where none is chosen, none that is named is in all lists
wanted_none : (lists : List (List (List ℕ))) (names : List (List ℕ)) → first_wanted lists names ≡ None → (t : Tool) → is_named (tool_text t) names ≡ true → in_all lists t ≡ false
wanted_none lists [] is t among = absurd (false≢true among)
wanted_none lists (name ∷ names) is t among = by_name (wanted_none lists names) (tool_of_text name) refl is
  where
    by_lists : (first_wanted lists names ≡ None → (t : Tool) → is_named (tool_text t) names ≡ true → in_all lists t ≡ false) → (u : Tool) → tool_of_text name ≡ Some u → (b : Bool) → in_all lists u ≡ b → or_else (if b then Some u else None) (first_wanted lists names) ≡ None → in_all lists t ≡ false
    by_lists rest u read true here_is is_not = absurd (false≢true (sym (ap is_some is_not)))
    by_lists rest u read false out is_not =
        ⊎_elim (λ here. subst (λ (x : Tool). in_all lists x ≡ false) (same_tool u t (sym read ∙ here)) out) (λ later. rest is_not t later) (is_first_or_later name names t among)

    by_name : (first_wanted lists names ≡ None → (t : Tool) → is_named (tool_text t) names ≡ true → in_all lists t ≡ false) → (o : Option Tool) → tool_of_text name ≡ o → or_else (offered lists o) (first_wanted lists names) ≡ None → in_all lists t ≡ false
    by_name rest None unread is_not =
        ⊎_elim (λ here. absurd (false≢true (ap is_some (sym unread ∙ here)))) (λ later. rest is_not t later) (is_first_or_later name names t among)
    by_name rest (Some u) read is_not = by_lists rest u read (in_all lists u) refl is_not

-- a tool stands where its name stands
is_named_at : (before after : List (List ℕ)) (t : Tool) → is_named (tool_text t) (before ++ tool_text t ∷ after) ≡ true
is_named_at [] after t = rw ((bytes_eq-Decides (tool_text t) (tool_text t)).1 refl) refl
is_named_at (x ∷ xs) after t = or_later (bytes_eq x (tool_text t)) _ (is_named_at xs after t)
  where
    or_later : (a b : Bool) → b ≡ true → a || b ≡ true
    or_later true b is = refl
    or_later false b is = is

-- ---- preferences

sum_is : (lists : List (List (List ℕ))) (t : Tool) → sum_of_preferences lists t ≡ length lists * preference t
sum_is [] t = omega arith
sum_is (x ∷ xs) t = sum_by-cons (λ list. preference t) x xs ∙ (rw (sum_is xs t) (omega arith))

-- the one comes before the other
abbrev Beats : List (List (List ℕ)) → Tool → Tool → Type 0
Beats lists t o = (sum_of_preferences lists o < sum_of_preferences lists t) ⊎ ((sum_of_preferences lists o ≡ sum_of_preferences lists t) × (is_named_first t o ≡ true))

-- of these tools none that each list has comes before the one, or each list has none
abbrev BestOf : List (List (List ℕ)) → List Tool → Option Tool → Type 0
BestOf lists tools None = AllByRecursion (λ o. in_all lists o ≡ false) tools
BestOf lists tools (Some t) = (in_all lists t ≡ true) × AllByRecursion (λ o. in_all lists o ≡ true → Beats lists t o) tools

self_first : (t : Tool) → is_named_first t t ≡ true
self_first Sleep = refl
self_first Snooze = refl
self_first Sleepbgm = refl
self_first Simplestreamer = refl

-- where a tool's sum isn't below that of another which comes before a third, and its name is before that one's
before_third : (lists : List (List (List ℕ))) (x t o : Tool) → sum_of_preferences lists t ≤ sum_of_preferences lists x → is_named_first x o ≡ true → Beats lists t o → Beats lists x o
before_third lists x t o le first beats = by_test (nat_lt (sum_of_preferences lists o) (sum_of_preferences lists x)) refl
  where
    least : sum_of_preferences lists o ≤ sum_of_preferences lists x
    least = ⊎_elim (λ lt. omega (arith, le, lt)) (λ eq. omega (arith, le, eq.0)) beats

    by_test : (b : Bool) → nat_lt (sum_of_preferences lists o) (sum_of_preferences lists x) ≡ b → Beats lists x o
    by_test true lt = inl (grind (arith, nat_tests))
    by_test false not_lt =
        let ge : sum_of_preferences lists x ≤ sum_of_preferences lists o = grind (arith, nat_tests) in
        inr (omega (arith, ge, least), first)

none_beat : (lists : List (List (List ℕ))) (x : Tool) (xs : List Tool) → AllByRecursion (λ o. in_all lists o ≡ false) xs → AllByRecursion (λ o. in_all lists o ≡ true → Beats lists x o) xs
none_beat lists x [] out = tt
none_beat lists x (o ∷ os) out = (λ is. absurd (false≢true (sym out.0 ∙ is)), none_beat lists x os out.1)

all_beaten : (lists : List (List (List ℕ))) (x t : Tool) (xs : List Tool) → sum_of_preferences lists t ≤ sum_of_preferences lists x → AllByRecursion (λ o. is_named_first x o ≡ true) xs → AllByRecursion (λ o. in_all lists o ≡ true → Beats lists t o) xs → AllByRecursion (λ o. in_all lists o ≡ true → Beats lists x o) xs
all_beaten lists x t [] le first beats = tt
all_beaten lists x t (o ∷ os) le first beats = (λ is. before_third lists x t o le first.0 (beats.0 is), all_beaten lists x t os le first.1 beats.1)

one_more : (lists : List (List (List ℕ))) (x : Tool) (xs : List Tool) → AllByRecursion (λ o. is_named_first x o ≡ true) xs → (best : Option Tool) → BestOf lists xs best → BestOf lists (x ∷ xs) (or_better lists x best)
one_more lists x xs first best is = by_lists (in_all lists x) refl best is
  where
    by_sums : (t : Tool) → in_all lists x ≡ true → BestOf lists xs (Some t) → (b : Bool) → exceeds (length lists) t x ≡ b → BestOf lists (x ∷ xs) (if b then Some t else Some x)
    by_sums t here_is best true more = (best.0, (λ _. inl (rw (sum_is lists x, sum_is lists t) (grind (arith, nat_tests))), best.1))
    by_sums t here_is best false no_more =
        let le : length lists * preference t ≤ length lists * preference x = grind (arith, nat_tests) in
        (here_is, (λ _. inr (refl, self_first x), all_beaten lists x t xs (rw (sum_is lists x, sum_is lists t) le) first best.1))

    by_lists : (b : Bool) → in_all lists x ≡ b → (o : Option Tool) → BestOf lists xs o → BestOf lists (x ∷ xs) (or_better lists x o)
    by_lists false is_not None best = rw is_not (is_not, best)
    by_lists false is_not (Some t) best = rw is_not (best.0, (λ here_is. absurd (false≢true (sym is_not ∙ here_is)), best.1))
    by_lists true here_is None best = rw here_is (here_is, (λ _. inr (refl, self_first x), none_beat lists x xs best))
    by_lists true here_is (Some t) best = rw here_is (by_sums t here_is best (exceeds (length lists) t x) refl)

-- each tool comes before those after it by name
abbrev InOrder : List Tool → Type 0
InOrder [] = Unit {0}
InOrder (x ∷ xs) = AllByRecursion (λ o. is_named_first x o ≡ true) xs × InOrder xs

best_is : (lists : List (List (List ℕ))) (tools : List Tool) → InOrder tools → BestOf lists tools (best_of lists tools)
best_is lists [] up = tt
best_is lists (x ∷ xs) up = one_more lists x xs up.0 (best_of lists xs) (best_is lists xs up.1)

by_name : InOrder tools_by_name
by_name = ((refl, (refl, (refl, tt))), ((refl, (refl, tt)), ((refl, tt), (tt, tt))))

-- what holds of all of them holds of each
each_tool : (P : Tool → Type 0) → AllByRecursion P tools_by_name → (t : Tool) → P t
each_tool P all Simplestreamer = all.0
each_tool P all Sleep = all.1.0
each_tool P all Sleepbgm = all.1.1.0
each_tool P all Snooze = all.1.1.1.0

as_best : (lists : List (List (List ℕ))) (t : Tool) → BestOf lists tools_by_name (Some t) → IsBest lists t
as_best lists t best = record {
  everywhere = best.0;
  greatest = λ other is. ⊎_elim (λ lt. omega (arith, lt)) (λ eq. omega (arith, eq.0)) (each_tool (λ o. in_all lists o ≡ true → Beats lists t o) best.1 other is);
  first = λ other is same. ⊎_elim (λ lt. absurd (omega (arith, lt, same))) (λ eq. eq.1) (each_tool (λ o. in_all lists o ≡ true → Beats lists t o) best.1 other is);
}

-- ---- the choice

best_choice : (lists : List (List (List ℕ))) (o : Option Tool) → BestOf lists tools_by_name o → IfSome o (IsBest lists)
best_choice lists None best = tt
best_choice lists (Some t) best = as_best lists t best

wanted_choice : (lists : List (List (List ℕ))) (name : List ℕ) (names : List (List ℕ)) (o : Option Tool) → first_wanted lists (name ∷ names) ≡ o → IfSome o (IsFirstWanted lists (name ∷ names))
wanted_choice lists name names None is = tt
wanted_choice lists name names (Some t) is = wanted_some lists (name ∷ names) t is

-- the choice is what it means
pub is_choice : (lists : List (List (List ℕ))) (wanted : List (List ℕ)) → IfSome (chosen lists wanted) (IsChoice lists wanted)
is_choice lists [] = best_choice lists (best_of lists tools_by_name) (best_is lists tools_by_name by_name)
is_choice lists (name ∷ names) = wanted_choice lists name names (first_wanted lists (name ∷ names)) refl

none_best : (lists : List (List (List ℕ))) (o : Option Tool) → BestOf lists tools_by_name o → is_some o ≡ false ↔ ((t : Tool) → in_all lists t ≡ false)
none_best lists None best = (λ _. each_tool (λ o. in_all lists o ≡ false) best, λ _. refl)
none_best lists (Some t) best = (λ is. absurd (false≢true (sym is)), λ none. absurd (false≢true (sym (none t) ∙ best.0)))

and_false : (a b : Bool) → (b ≡ true → a ≡ false) → a && b ≡ false
and_false true true is_not = is_not refl
and_false true false is_not = refl
and_false false b is_not = refl

none_wanted : (lists : List (List (List ℕ))) (name : List ℕ) (names : List (List ℕ)) (o : Option Tool) → first_wanted lists (name ∷ names) ≡ o → is_some o ≡ false ↔ ((t : Tool) → (in_all lists t && is_named (tool_text t) (name ∷ names)) ≡ false)
none_wanted lists name names None is = (λ _ t. and_false (in_all lists t) (is_named (tool_text t) (name ∷ names)) (wanted_none lists (name ∷ names) is t), λ _. refl)
none_wanted lists name names (Some t) is =
    let first = wanted_some lists (name ∷ names) t is in
    let among : is_named (tool_text t) (name ∷ names) ≡ true = subst (λ (ns : List (List ℕ)). is_named (tool_text t) ns ≡ true) (sym first.place) (is_named_at first.before first.after t) in
    (λ is_not. absurd (false≢true (sym is_not)), λ none. absurd (false≢true (sym (none t) ∙ (rw (first.everywhere, among) refl))))

-- there is none exactly where none qualifies
pub none_qualifies : (lists : List (List (List ℕ))) (wanted : List (List ℕ)) → IsNone (chosen lists wanted) ↔ ((t : Tool) → qualifies lists wanted t ≡ false)
none_qualifies lists [] = none_best lists (best_of lists tools_by_name) (best_is lists tools_by_name by_name)
none_qualifies lists (name ∷ names) = none_wanted lists name names (first_wanted lists (name ∷ names)) refl

-- ---- the lengths of names

text_length : (t : Tool) → length (tool_text t) ≤ 14
text_length Sleep = omega arith
text_length Snooze = omega arith
text_length Sleepbgm = omega arith
text_length Simplestreamer = omega arith

pub tool_length : (name : List ℕ) → is_some (tool_of_text name) ≡ true → length name ≤ 14
tool_length name = by_tool (tool_of_text name) refl
  where
    by_tool : (o : Option Tool) → tool_of_text name ≡ o → is_some o ≡ true → length name ≤ 14
    by_tool None none is = absurd (false≢true is)
    by_tool (Some t) some is = rw (text_of_named name t some) (text_length t)

-- ---- the list of all

pub every_tool : (t : Tool) → Contains tools_by_name t
every_tool Simplestreamer = (0, omega arith, refl)
every_tool Sleep = (1, omega arith, refl)
every_tool Sleepbgm = (2, omega arith, refl)
every_tool Snooze = (3, omega arith, refl)

-- the same of what was answered
pub choice_of : (lists : List (List (List ℕ))) (wanted : List (List ℕ)) (o : Option Tool) → o ≡ chosen lists wanted → IfSome o (IsChoice lists wanted)
choice_of lists wanted o is = subst (λ (x : Option Tool). IfSome x (IsChoice lists wanted)) (sym is) (is_choice lists wanted)

pub none_of : (lists : List (List (List ℕ))) (wanted : List (List ℕ)) (o : Option Tool) → o ≡ chosen lists wanted → IsNone o ↔ ((t : Tool) → qualifies lists wanted t ≡ false)
none_of lists wanted o is = subst (λ (x : Option Tool). IsNone x ↔ ((t : Tool) → qualifies lists wanted t ≡ false)) (sym is) (none_qualifies lists wanted)

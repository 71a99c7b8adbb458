-- A script may declare the hosts of generated work.
use Rattle.std.specs.Fmt.{digits}
use Rattle.std.specs.List.{list_any}
use Rattle.std.specs.Prelude.{All, AllPairs, bytes_eq, codes}
use Rattle.std.proofs.Common.{◌≡◌, ◌≢◌, ◌≤◌, ◌++◌, ◌==◌, ℕ, true, false, not, List, [], ◌∷◌, decimal, length, map, refl, sym, arith}
use Rattle.std.proofs.lemmas.Bool.{and_parts, both_ways, not-true, or_parts}
use Rattle.std.proofs.lemmas.Bool.Decides.{Decides-eqb}
use Rattle.std.proofs.lemmas.List.Elements.{All-cons, All-from_recursion, All-nil}
use Rattle.std.proofs.lemmas.List.Kept.{AllPairs-cons}
use Rattle.std.proofs.lemmas.Slice.Eq.{bytes_eq-Decides}
use Rattle.ps_time.specs.Name.{is_name}
use Rattle.plugin_core.specs.Participants.{is_named}
use Rattle.plugin_core.specs.ReadTest.{all_differ}
use Rattle.host_model.specs.Conditions.{numbers_differ}
use Rattle.rehearsal_script.specs.Lawful.{AreLawfulHosts, IsLawfulHost}
use Rattle.rehearsal_script.specs.declared.script.ScriptHost.{ScriptHost}
use Rattle.rehearsal_generate.specs.Work.{host_of, work_hosts}

-- ---- lists that a test finds different
abbrev names_of : List ScriptHost → List (List ℕ)
names_of hosts = map (λ (h : ScriptHost). h.name) hosts

abbrev numbers_of : List ScriptHost → List ℕ
numbers_of hosts = map (λ (h : ScriptHost). h.number) hosts

other_names : (name : List ℕ) (hosts : List ScriptHost) → is_named name (names_of hosts) ≡ false → All (λ (h : ScriptHost). name ≢ h.name) hosts
other_names name [] none = All-nil (λ (h : ScriptHost). name ≢ h.name)
other_names name (h ∷ hs) none =
    let both = or_parts (bytes_eq h.name name) (is_named name (names_of hs)) none in
    All-cons (λ (g : ScriptHost). name ≢ g.name) h hs (λ same. both_ways (bytes_eq h.name name) both.0 ((bytes_eq-Decides h.name name).1 (sym same))) (other_names name hs both.1)

names_apart : (hosts : List ScriptHost) → all_differ (names_of hosts) ≡ true → AllPairs (λ (a b : ScriptHost). a.name ≢ b.name) hosts
names_apart [] differ = λ i j d less within. absurd (omega (arith, within))
names_apart (h ∷ hs) differ =
    let parts = and_parts (not (is_named h.name (names_of hs))) (all_differ (names_of hs)) differ in
    AllPairs-cons (λ (a b : ScriptHost). a.name ≢ b.name) h hs (other_names h.name hs (not-true (is_named h.name (names_of hs)) parts.0)) (names_apart hs parts.1)

other_numbers : (number : ℕ) (hosts : List ScriptHost) → list_any (λ other. other == number) (numbers_of hosts) ≡ false → All (λ (h : ScriptHost). number ≢ h.number) hosts
other_numbers number [] none = All-nil (λ (h : ScriptHost). number ≢ h.number)
other_numbers number (h ∷ hs) none =
    let both = or_parts (h.number == number) (list_any (λ other. other == number) (numbers_of hs)) none in
    All-cons (λ (g : ScriptHost). number ≢ g.number) h hs (λ same. both_ways (h.number == number) both.0 ((Decides-eqb h.number number).1 (sym same))) (other_numbers number hs both.1)

numbers_apart : (hosts : List ScriptHost) → numbers_differ (numbers_of hosts) ≡ true → AllPairs (λ (a b : ScriptHost). a.number ≢ b.number) hosts
numbers_apart [] differ = λ i j d less within. absurd (omega (arith, within))
numbers_apart (h ∷ hs) differ =
    let parts = and_parts (not (list_any (λ other. other == h.number) (numbers_of hs))) (numbers_differ (numbers_of hs)) differ in
    AllPairs-cons (λ (a b : ScriptHost). a.number ≢ b.number) h hs (other_numbers h.number hs (not-true (list_any (λ other. other == h.number) (numbers_of hs)) parts.0)) (numbers_apart hs parts.1)

-- ---- the eight
a_host : (number : ℕ) → is_name (codes "h" ++ decimal number) ≡ true → 1 ≤ number → number ≤ 65535 → IsLawfulHost (host_of number)
a_host number name least most = record { name = name; least = least; most = most }

pub lawful_work : AreLawfulHosts work_hosts
unfolding work_hosts digits
lawful_work = record {
  few = omega arith;
  hosts = All-from_recursion IsLawfulHost work_hosts (
    a_host 1 refl (omega arith) (omega arith),
    (
      a_host 2 refl (omega arith) (omega arith),
      (
        a_host 3 refl (omega arith) (omega arith),
        (
          a_host 4 refl (omega arith) (omega arith),
          (a_host 5 refl (omega arith) (omega arith), (a_host 6 refl (omega arith) (omega arith), (a_host 7 refl (omega arith) (omega arith), (a_host 8 refl (omega arith) (omega arith), tt)))),
        ),
      ),
    ),
  );
  names = names_apart work_hosts refl;
  numbers = numbers_apart work_hosts refl;
}

pub eight_work : length work_hosts ≡ 8
unfolding work_hosts
eight_work = refl

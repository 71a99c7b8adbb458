-- A script stays lawful by each line that is read.
use Rattle.std.proofs.Common.{◌≡◌, ◌≢◌, ℕ, suc, ◌+◌, ◌≤◌, Bool, true, false, ◌||◌, ◌==◌, refl, sym, subst, List, [], ◌∷◌, ◌++◌, length, IfOk, Result, Ok, arith}
use Rattle.std.specs.List.{All, AllPairs}
use Rattle.std.specs.Str.{bytes_eq}
use Rattle.std.proofs.lemmas.Bool.Decides.{Decides-eqb}
use Rattle.std.proofs.lemmas.List.Elements.{All-cons, All-head, All-tail, All-push, All-weaker, All-nil}
use Rattle.std.proofs.lemmas.List.Kept.{AllPairs-cons}
use Rattle.std.proofs.lemmas.List.{length-append}
use Rattle.std.proofs.lemmas.Slice.Eq.{bytes_eq-Decides}
use Rattle.rehearsal_script.specs.Lawful.{IsLawfulHost, AreLawfulHosts, IsLawfulLine, FollowsHosts, hosts_after, DeclareInOrder, HasKeptLimits, IsLawful}
use Rattle.rehearsal_script.specs.Line.{is_repeated}
use Rattle.rehearsal_script.specs.Script.{line_of, with_line, no_lines}
use Rattle.rehearsal_script.specs.declared.lines.Content.{Content}
use Rattle.rehearsal_script.specs.declared.lines.Content.TheVariants.{Nothing, NewHost, Event}
use Rattle.rehearsal_script.specs.declared.script.Numbered.{Numbered}
use Rattle.rehearsal_script.specs.declared.script.Reason.{Reason}
use Rattle.rehearsal_script.specs.declared.script.Script.{Script}
use Rattle.rehearsal_script.specs.declared.script.ScriptHost.{ScriptHost}
use Rattle.rehearsal_script.specs.declared.script.ScriptLine.{ScriptLine}
use Rattle.rehearsal_script.specs.declared.script.ScriptLine.TheVariants.{Host, Tools, Limits, Book, Post, Get, Delete, Turn, Archive, Crash, Fail, Deliver, Repeat, Lose}
use Rattle.rehearsal_script.proofs.FitLemmas.{Fits, FitsHosts, line_fits}

-- one more item that differs from each
pairs_push : {X : Type 0} (R : X → X → Type 0) (xs : List X) (y : X) → AllPairs R xs → All (λ x. R x y) xs → AllPairs R (xs ++ y ∷ [])
pairs_push R [] y pairs new = AllPairs-cons R y [] (All-nil _) (λ i j d lt within. absurd (omega arith))
pairs_push R (x ∷ xs) y pairs new =
    let here : All (R x) xs = λ k d within. pairs 0 (suc k) d (omega arith) (omega arith) in
    let later : AllPairs R xs = λ i j d lt within. pairs (suc i) (suc j) d (omega arith) (omega arith) in
    AllPairs-cons R x (xs ++ y ∷ []) (All-push (R x) xs y here (All-head (λ x. R x y) x xs new)) (pairs_push R xs y later (All-tail (λ x. R x y) x xs new))

falsehood : (b : Bool) → b ≡ false → b ≡ true → ⊥
falsehood b is other = cc

neither : (a b : Bool) → (a || b) ≡ false → (a ≡ false) × (b ≡ false)
neither true b is = cc
neither false b is = (refl, is)

-- where no host has this name or number, each has others
all_others : (hosts : List ScriptHost) (name : List ℕ) (number : ℕ) → is_repeated hosts name number ≡ false → All (λ h. (h.name ≢ name) × (h.number ≢ number)) hosts
all_others [] name number is = All-nil _
all_others (h ∷ hs) name number is =
    let both = neither (bytes_eq h.name name || h.number == number) (is_repeated hs name number) is in
    let here = neither (bytes_eq h.name name) (h.number == number) both.0 in
    let names : h.name ≢ name = λ same. falsehood _ here.0 ((bytes_eq-Decides h.name name).1 same) in
    let numbers : h.number ≢ number = λ same. falsehood _ here.1 ((Decides-eqb h.number number).1 same) in
    All-cons (λ h. (h.name ≢ name) × (h.number ≢ number)) h hs (names, numbers) (all_others hs name number both.1)

-- one more line that follows its hosts
order_push : (count : ℕ) (ls : List Numbered) (all : ℕ) (l : Numbered) → DeclareInOrder count ls all → FollowsHosts all l.line → DeclareInOrder count (ls ++ l ∷ []) (hosts_after all l.line)
order_push count [] all l order follows = rw order (follows, refl)
order_push count (k ∷ ks) all l order follows = (order.0, order_push (hosts_after count k.line) ks all l order.1 follows)

-- a lawful line stays one where more hosts are declared
line_more : (m n : ℕ) → m ≤ n → (line : ScriptLine) → IsLawfulLine m line → IsLawfulLine n line
line_more m n more (Host place) law = omega arith
line_more m n more (Tools host tools) law = (omega arith, law.1, law.2)
line_more m n more (Limits host limits) law = (omega arith, law.1)
line_more m n more (Book at host class priority start len) law = (law.0, omega arith, law.2, law.3, law.4, law.5, law.6)
line_more m n more (Post at host address body) law = (law.0, omega arith, law.2)
line_more m n more (Get at host path) law = (law.0, omega arith)
line_more m n more (Delete at host address path) law = (law.0, omega arith, law.2)
line_more m n more (Turn at host) law = (law.0, omega arith)
line_more m n more (Archive at host) law = (law.0, omega arith)
line_more m n more (Crash at host stop) law = (law.0, omega arith)
line_more m n more (Fail at host call) law = (law.0, omega arith)
line_more m n more (Deliver at message) law = law
line_more m n more (Repeat at message) law = law
line_more m n more (Lose message) law = tt

-- what lawful hosts become by a new one
one_more : (hosts : List ScriptHost) (host : ScriptHost) → AreLawfulHosts hosts → FitsHosts hosts (NewHost host) → AreLawfulHosts (hosts ++ host ∷ [])
one_more hosts host law fits =
    let others = all_others hosts host.name host.number fits.1 in
    let more : length (hosts ++ host ∷ []) ≡ length hosts + 1 = length-append hosts (host ∷ []) in
    record {
      few = rw more (omega arith);
      hosts = All-push IsLawfulHost hosts host law.hosts fits.0;
      names = pairs_push (λ a b. a.name ≢ b.name) hosts host law.names (λ k d within. (others k d within).0);
      numbers = pairs_push (λ a b. a.number ≢ b.number) hosts host law.numbers (λ k d within. (others k d within).1);
    }

-- what a lawful script becomes by such a line
with_fit : (script : Script) (n : ℕ) (content : Content) → IsLawful script → FitsHosts script.hosts content → IsLawful (with_line script n content)
with_fit script n Nothing law fits = law
with_fit script n (NewHost host) law fits =
    let count = length script.hosts in
    let more : length (script.hosts ++ host ∷ []) ≡ count + 1 = length-append script.hosts (host ∷ []) in
    let here : IsLawfulLine (count + 1) (Host count) = omega arith in
    let those = All-weaker (λ l. IsLawfulLine count l.line) (λ l. IsLawfulLine (count + 1) l.line) (λ l law. line_more count (count + 1) (omega arith) l.line law) script.lines law.lines in
    record {
      hosts = one_more script.hosts host law.hosts fits;
      lines = rw more (All-push (λ l. IsLawfulLine (count + 1) l.line) script.lines (record { number = n; line = Host count }) those here);
      order = rw more (order_push 0 script.lines count (record { number = n; line = Host count }) law.order refl);
    }
with_fit script n (Event line) law fits =
    let count = length script.hosts in
    let order : DeclareInOrder 0 (script.lines ++ record { number = n; line = line } ∷ []) (hosts_after count line) = order_push 0 script.lines count (record { number = n; line = line }) law.order fits.follows in
    record {
      hosts = law.hosts;
      lines = All-push (λ l. IsLawfulLine count l.line) script.lines (record { number = n; line = line }) law.lines fits.law;
      order = rw fits.stays at order;
    }

-- so a line that is read over a lawful script gives one, where its limits are kept ones
fits_read : (hosts : List ScriptHost) (content : Content) (said : Result Content Reason) → said ≡ Ok content → IfOk said (Fits hosts) → HasKeptLimits content → FitsHosts hosts content
fits_read hosts content said is all kept = (rw is at all) kept

pub lawful_more : (script more : Script) (n : ℕ) (bytes : List ℕ) (content : Content) → IsLawful script → line_of script.hosts bytes ≡ Ok content → HasKeptLimits content → more ≡ with_line script n content → IsLawful more
lawful_more script more n bytes content law reads kept goes =
    subst IsLawful (sym goes) (with_fit script n content law (fits_read script.hosts content (line_of script.hosts bytes) reads (line_fits script.hosts bytes) kept))

pub first_lawful : IsLawful no_lines
first_lawful = record {
  hosts = record {
    few = omega arith;
    hosts = All-nil IsLawfulHost;
    names = λ i j d lt within. absurd (omega arith);
    numbers = λ i j d lt within. absurd (omega arith);
  };
  lines = All-nil (λ l. IsLawfulLine 0 l.line);
  order = refl;
}

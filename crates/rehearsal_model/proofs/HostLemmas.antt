-- The hosts of a script by place, by number and by name; each has a right configuration.
use Rattle.std.specs.Cmp.Derive.{both_true}
use Rattle.std.specs.Int.Signed.{le_z_yes}
use Rattle.std.specs.List.{AllByRecursion, list_all, list_any}
use Rattle.std.specs.Prelude.{All, bytes_eq, filter, nat_le}
use Rattle.std.proofs.Common.{◌≡◌, ◌≢◌, ◌≤◌, ◌<◌, ◌+◌, ◌==◌, ◌&&◌, inl, inr, ℕ, zero, suc, Bool, true, false, cond, not, List, [], ◌∷◌, map, length, get_or, Option, Some, None, slice_get, refl, sym, ap, ◌∙◌, subst, arith}
use Rattle.std.proofs.lemmas.Bool.{and_parts, cases_order, false_from_ne_true, not-true, or_from}
use Rattle.std.proofs.lemmas.Bool.Decides.{nat_tests}
use Rattle.std.proofs.lemmas.List.Elements.{All-filter, All-map, All-nil, All-weaker, recursion_from_All}
use Rattle.std.proofs.lemmas.Option.{get_or_from_slice_get, slice_get-get_or, slice_get_within}
use Rattle.std.proofs.lemmas.Slice.Eq.{bytes_eq-Decides}
use Rattle.ps_time.specs.Name.{is_name, is_name_byte, is_name_start}
use Rattle.plugin_core.specs.ReadTest.{all_differ}
use Rattle.limit_apply.specs.Limits.{IsPriority}
use Rattle.limit_apply.specs.Open.{open_config}
use Rattle.limit_apply.specs.Read.{IsKept}
use Rattle.limit_apply.specs.declared.limits.Ceiling.{Ceiling}
use Rattle.limit_apply.proofs.OpenLemmas.{open_again}
use Rattle.task_spec.specs.ReadTask.{is_tool}
use Rattle.host_model.specs.Conditions.{IsConfig, IsPeer, numbers_differ}
use Rattle.host_model.specs.declared.config.Peer.{Peer}
use Rattle.world_law.specs.Events.{Right}
use Rattle.rehearsal_script.specs.Lawful.{AreLawfulHosts, IsLawfulHost}
use Rattle.rehearsal_script.specs.declared.script.ScriptHost.{ScriptHost}
use Rattle.rehearsal_model.specs.Hosts.{config_numbered, every_tool, first_config, found_config, host_numbered, name_numbered, opened_host, others_of, peer_of, stranger}
use Rattle.rehearsal_model.specs.Moves.{place_numbered}
use Rattle.rehearsal_model.specs.Reaching.{IsHost}
use Rattle.rehearsal_model.specs.Rehearsal.{number_at, retooled}
use Rattle.rehearsal_model.proofs.ListLemmas.{Pairs, each_at, each_weaker, pairs}

-- no two hosts have one number
abbrev pub Differ : List ScriptHost → Type 0
Differ hosts = Pairs (λ a b. a.number ≢ b.number) hosts

pub differ : (hosts : List ScriptHost) → AreLawfulHosts hosts → Differ hosts
differ hosts lawful = pairs (λ a b. a.number ≢ b.number) hosts lawful.numbers

-- ---- by place
abbrev pub StandsAt : List ScriptHost → ℕ → ScriptHost → Type 0
StandsAt hosts place h = slice_get hosts place ≡ Some h

pub host_at : (hosts : List ScriptHost) (place : ℕ) → place < length hosts → (h : ScriptHost) × StandsAt hosts place h
host_at hosts place lt = (get_or hosts place (stranger 0), slice_get-get_or hosts place (stranger 0) lt)

pub number_is : (hosts : List ScriptHost) (place : ℕ) (h : ScriptHost) → StandsAt hosts place h → number_at hosts place ≡ h.number
number_is [] place h e = cc
number_is (g ∷ hs) zero h e = let same : g ≡ h = cc in ap (λ x. x.number) same
number_is (g ∷ hs) (suc place) h e = number_is hs place h e

-- ---- by number
pub same_number : (a b : ℕ) → a ≡ b → (a == b) ≡ true
same_number a b e = grind (arith, nat_tests)

other_number : (a b : ℕ) → a ≢ b → (a == b) ≡ false
other_number a b apart = grind (arith, nat_tests)

pub is_number : (a b : ℕ) → (a == b) ≡ true → a ≡ b
is_number a b e = grind (arith, nat_tests)

pub found : (hosts : List ScriptHost) → Differ hosts → (place : ℕ) (h : ScriptHost) → StandsAt hosts place h → host_numbered hosts h.number ≡ Some h
found [] apart place h e = cc
found (g ∷ hs) apart zero h e =
    let same : g ≡ h = cc in
    ap (λ b. cond b (Some g) (host_numbered hs h.number)) (same_number g.number h.number (ap (λ x. x.number) same)) ∙ ap Some same
found (g ∷ hs) apart (suc place) h e =
    ap (λ b. cond b (Some g) (host_numbered hs h.number)) (other_number g.number h.number (each_at (λ x. g.number ≢ x.number) hs place h apart.0 e)) ∙ found hs apart.1 place h e

pub placed : (hosts : List ScriptHost) → Differ hosts → (place : ℕ) (h : ScriptHost) → StandsAt hosts place h → place_numbered hosts h.number ≡ place
placed [] apart place h e = cc
placed (g ∷ hs) apart zero h e =
    let same : g ≡ h = cc in ap (λ b. cond (not b) (1 + place_numbered hs h.number) 0) (same_number g.number h.number (ap (λ x. x.number) same))
placed (g ∷ hs) apart (suc place) h e =
    let next : 1 + place_numbered hs h.number ≡ suc place = omega (arith, placed hs apart.1 place h e) in
    ap (λ b. cond (not b) (1 + place_numbered hs h.number) 0) (other_number g.number h.number (each_at (λ x. g.number ≢ x.number) hs place h apart.0 e)) ∙ next

pub is_host : (hosts : List ScriptHost) → Differ hosts → (place : ℕ) (h : ScriptHost) → StandsAt hosts place h → IsHost hosts h.number
is_host hosts apart place h e = subst (λ p. p < length hosts) (sym (placed hosts apart place h e)) (slice_get_within hosts place h e)

-- the host that has the number
pub numbered : (hosts : List ScriptHost) (n : ℕ) (h : ScriptHost) → host_numbered hosts n ≡ Some h → (place : ℕ) × StandsAt hosts place h × (h.number ≡ n)
numbered [] n h e = cc
numbered (g ∷ hs) n h e = go (g.number == n) refl e (λ f. numbered hs n h f)
  where
    go : (b : Bool) → (g.number == n) ≡ b → cond b (Some g) (host_numbered hs n) ≡ Some h → (host_numbered hs n ≡ Some h → (place : ℕ) × StandsAt hs place h × (h.number ≡ n)) → (place : ℕ) × StandsAt (g ∷ hs) place h × (h.number ≡ n)
    go true test f later = let same : g ≡ h = cc in (zero, f, sym (ap (λ x. x.number) same) ∙ is_number g.number n test)
    go false test f later = let x = later f in (suc x.0, x.1, x.2)

-- a number of a host is that of the host at its place
pub stands : (hosts : List ScriptHost) (n : ℕ) → IsHost hosts n → (h : ScriptHost) × StandsAt hosts (place_numbered hosts n) h × (h.number ≡ n)
stands [] n lt = absurd (omega (arith, lt))
stands (g ∷ hs) n lt = go (g.number == n) refl lt (λ f. stands hs n f)
  where
    go : (b : Bool) → (g.number == n) ≡ b → cond (not b) (1 + place_numbered hs n) 0 < suc (length hs) → (IsHost hs n → (h : ScriptHost) × StandsAt hs (place_numbered hs n) h × (h.number ≡ n))
        → (h : ScriptHost) × StandsAt (g ∷ hs) (cond (not b) (1 + place_numbered hs n) 0) h × (h.number ≡ n)
    go true test less later = (g, refl, is_number g.number n test)
    go false test less later =
        let x = later (omega (arith, less)) in
        let next : suc (place_numbered hs n) ≡ 1 + place_numbered hs n = omega arith in
        (x.0, subst (λ p. StandsAt (g ∷ hs) p x.0) next x.1, x.2)

-- ---- configurations
pub config_known : (hosts : List ScriptHost) → Differ hosts → (place : ℕ) (h : ScriptHost) → StandsAt hosts place h → config_numbered hosts h.number ≡ first_config hosts h
config_known hosts apart place h e = ap (found_config hosts h.number) (found hosts apart place h e)

pub name_known : (hosts : List ScriptHost) → Differ hosts → (place : ℕ) (h : ScriptHost) → StandsAt hosts place h → name_numbered hosts h.number ≡ h.name
name_known hosts apart place h e = ap (λ c. c.name) (config_known hosts apart place h e)

-- what none of the hosts that pass has, none of their peers has
none_left : {Y : Type 0} (t : Y → Bool) (f : Peer → Y) (p : ScriptHost → Bool) (hs : List ScriptHost) → AllByRecursion (λ h. p h ≡ true → t (f (peer_of h)) ≡ false) hs → list_any t (map f (map peer_of (filter p hs))) ≡ false
none_left t f p [] all = refl
none_left t f p (h ∷ hs) all = go (p h) refl (none_left t f p hs all.1)
  where
    go : (b : Bool) → p h ≡ b → list_any t (map f (map peer_of (filter p hs))) ≡ false → list_any t (map f (map peer_of (cond b (h ∷ filter p hs) (filter p hs)))) ≡ false
    go true e rest = or_from (t (f (peer_of h))) (list_any t (map f (map peer_of (filter p hs)))) (all.0 e) rest
    go false e rest = rest

abbrev peer_numbers : List ScriptHost → List ℕ
peer_numbers hs = map (λ (p : Peer). p.number) (map peer_of hs)

abbrev peer_names : List ScriptHost → List (List ℕ)
peer_names hs = map (λ (p : Peer). p.name) (map peer_of hs)

numbers_left : (p : ScriptHost → Bool) (hs : List ScriptHost) → Differ hs → numbers_differ (peer_numbers (filter p hs)) ≡ true
numbers_left p [] apart = refl
numbers_left p (h ∷ hs) apart = go (p h) (numbers_left p hs apart.1)
  where
    go : (b : Bool) → numbers_differ (peer_numbers (filter p hs)) ≡ true → numbers_differ (peer_numbers (cond b (h ∷ filter p hs) (filter p hs))) ≡ true
    go true rest =
        both_true (ap not (none_left (λ other. other == h.number) (λ (x : Peer). x.number) p hs
        (each_weaker (λ x. h.number ≢ x.number) (λ x. p x ≡ true → (x.number == h.number) ≡ false) (λ x other passes. other_number x.number h.number (λ same. other (sym same))) hs apart.0))) rest
    go false rest = rest

other_name : (a b : List ℕ) → a ≢ b → bytes_eq a b ≡ false
other_name a b apart = false_from_ne_true (bytes_eq a b) (λ e. apart ((bytes_eq-Decides a b).0 e))

names_left : (p : ScriptHost → Bool) (hs : List ScriptHost) → Pairs (λ a b. a.name ≢ b.name) hs → all_differ (peer_names (filter p hs)) ≡ true
names_left p [] apart = refl
names_left p (h ∷ hs) apart = go (p h) (names_left p hs apart.1)
  where
    go : (b : Bool) → all_differ (peer_names (filter p hs)) ≡ true → all_differ (peer_names (cond b (h ∷ filter p hs) (filter p hs))) ≡ true
    go true rest =
        both_true (ap not (none_left (λ other. bytes_eq other h.name) (λ (x : Peer). x.name) p hs
        (each_weaker (λ x. h.name ≢ x.name) (λ x. p x ≡ true → bytes_eq x.name h.name ≡ false) (λ x other passes. other_name x.name h.name (λ same. other (sym same))) hs apart.0))) rest
    go false rest = rest

short : (name : List ℕ) → is_name name ≡ true → length name ≤ 255
short [] e = cc
short (c ∷ cs) e =
    let few : nat_le (length cs) 62 ≡ true = (and_parts (nat_le (length cs) 62) (list_all is_name_byte cs) (and_parts (is_name_start c) (nat_le (length cs) 62 && list_all is_name_byte cs) e).1).0 in
    let low : length cs ≤ 62 = grind (arith, nat_tests) in
    omega (arith, low)

pub open_kept : IsKept open_config
open_kept = record {
  identifiers = omega arith;
  classifiers = omega arith;
  limits = omega arith;
  applications = omega arith;
  priorities = record { default = (le_z_yes tt, le_z_yes tt); ceilings = All-nil (λ (c : Ceiling). IsPriority c.ceiling) };
  again = open_again;
}

module _ (hosts : List ScriptHost) (lawful : AreLawfulHosts hosts) (place : ℕ) (h : ScriptHost) (at : StandsAt hosts place h) where
  abbrev is_other : ScriptHost → Bool
  is_other g = not (g.number == h.number)

  apart_from : (k : ℕ) (d : ScriptHost) → k < length hosts → is_other (get_or hosts k d) ≡ true → (get_or hosts k d).name ≢ h.name
  apart_from k d lt passes same =
      let here : (e : ScriptHost) → get_or hosts place e ≡ h = λ e. get_or_from_slice_get hosts place h e at in
      elim (cases_order k place) [
        | inl is ↦ both (ap (λ j. (get_or hosts j d).number) is ∙ ap (λ x. x.number) (here d))
        | inr (inl less) ↦ lawful.names k place d less (slice_get_within hosts place h at) (same ∙ sym (ap (λ x. x.name) (here d)))
        | inr (inr more) ↦ lawful.names place k d more lt (ap (λ x. x.name) (here d) ∙ sym same)
      ]
    where
      both : (get_or hosts k d).number ≡ h.number → ⊥
      both e = let t : ((get_or hosts k d).number == h.number) ≡ true = same_number (get_or hosts k d).number h.number e in cc (t, not-true ((get_or hosts k d).number == h.number) passes)

  is_peer : All IsPeer (map peer_of (others_of hosts h.number))
  is_peer = All-map IsPeer peer_of (filter is_other hosts) (All-filter is_other (λ g. IsPeer (peer_of g)) hosts (All-weaker IsLawfulHost (λ g. IsPeer (peer_of g)) (λ g ok. record { name = ok.name; authority = short g.name ok.name }) hosts lawful.hosts))

  numbers_are : numbers_differ (h.number ∷ peer_numbers (others_of hosts h.number)) ≡ true
  numbers_are =
      both_true (ap not (none_left (λ other. other == h.number) (λ (x : Peer). x.number) is_other hosts (recursion_from_All (λ g. is_other g ≡ true → (g.number == h.number) ≡ false) hosts (λ k d lt passes. not-true _ passes))))
      (numbers_left is_other hosts (differ hosts lawful))

  names_are : all_differ (h.name ∷ peer_names (others_of hosts h.number)) ≡ true
  names_are =
      both_true (ap not (none_left (λ other. bytes_eq other h.name) (λ (x : Peer). x.name) is_other hosts (recursion_from_All (λ g. is_other g ≡ true → bytes_eq g.name h.name ≡ false) hosts (λ k d lt passes. other_name (get_or hosts k d).name h.name (apart_from k d lt passes)))))
      (names_left is_other hosts (pairs (λ a b. a.name ≢ b.name) hosts lawful.names))

  peers_named : All (λ (p : Peer). p.name ≡ name_numbered hosts p.number) (map peer_of (others_of hosts h.number))
  peers_named = All-map (λ (p : Peer). p.name ≡ name_numbered hosts p.number) peer_of (filter is_other hosts) (All-filter is_other (λ g. g.name ≡ name_numbered hosts g.number) hosts
      (λ k d lt. sym (name_known hosts (differ hosts lawful) k (get_or hosts k d) (slice_get-get_or hosts k d lt))))

  -- with any tools that a host may have
  pub right_with : (tools : List (List ℕ)) → list_all is_tool tools ≡ true → all_differ tools ≡ true → Right (name_numbered hosts) h.number (retooled tools (first_config hosts h))
  right_with tools known different =
      let ok : IsLawfulHost h = subst IsLawfulHost (get_or_from_slice_get hosts place h h at) (lawful.hosts place h (slice_get_within hosts place h at)) in
      record {
        config = record {
          name = ok.name;
          authority = short h.name ok.name;
          peers = is_peer;
          numbers = numbers_are;
          names = names_are;
          tools = known;
          different = different;
          limits = open_kept;
        };
        number = refl;
        name = sym (name_known hosts (differ hosts lawful) place h at);
        peers = peers_named;
      }

  pub right_first : Right (name_numbered hosts) h.number (first_config hosts h)
  right_first = right_with every_tool refl refl

-- so is that of a number which no host of the script has
stranger_right : (n : ℕ) → IsConfig (opened_host (stranger n) [])
stranger_right n = record {
  name = refl;
  authority = omega arith;
  peers = All-nil IsPeer;
  numbers = refl;
  names = refl;
  tools = refl;
  different = refl;
  limits = open_kept;
}

pub first_right : (hosts : List ScriptHost) → AreLawfulHosts hosts → (n : ℕ) → Right (name_numbered hosts) n (config_numbered hosts n)
first_right hosts lawful n = go (host_numbered hosts n) refl
  where
    go : (o : Option ScriptHost) → host_numbered hosts n ≡ o → Right (name_numbered hosts) n (found_config hosts n o)
    go None e = record { config = stranger_right n; number = refl; name = ap (λ o. (found_config hosts n o).name) (sym e); peers = All-nil (λ (p : Peer). p.name ≡ name_numbered hosts p.number) }
    go (Some h) e = let x = numbered hosts n h e in subst (λ k. Right (name_numbered hosts) k (first_config hosts h)) x.2 (right_first hosts lawful x.0 h x.1)

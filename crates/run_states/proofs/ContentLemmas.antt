-- The tests of content tell whether values are one.
use Rattle.std.proofs.Common.{◌≡◌, ℕ, Bool, true, false, ◌&&◌, ◌==◌, ◌↔◌, IsTrue, List, Option, Some, None, refl, ap, ap₂, subst, ℤ}
use Rattle.std.specs.Cmp.{Equal-is}
use Rattle.std.specs.Ordering.{int_eq, is_eq}
use Rattle.std.specs.Prelude.{bytes_eq}
use Rattle.std.proofs.lemmas.Bool.Decides.{Decides-eqb, Decides-int_eq}
use Rattle.std.proofs.lemmas.Slice.Eq.{bytes_eq-Decides, slice_eq-Decides}
use Rattle.ps_time.specs.Key.{key_cmp}
use Rattle.ps_time.specs.declared.asker.Asker.{Asker}
use Rattle.ps_time.specs.declared.key.RunKey.{RunKey}
use Rattle.ps_time.proofs.KeyLemmas.{same_key, key_cmp_same}
use Rattle.plugin_core.specs.declared.test_spec.Sleep.{Sleep}
use Rattle.plugin_core.specs.declared.test_spec.TestSpec.{TestSpec}
use Rattle.plugin_core.specs.declared.test_spec.TestSpec.TheVariants.{Idle, Idleex, Idlebgm, Idlemany, Simplestream}
use Rattle.run_states.specs.declared.proposal.Proposal.{Proposal}
use Rattle.run_states.specs.declared.row.RunRow.{RunRow}
use Rattle.run_states.specs.Content.{kept_proposal, same_asker, same_content, same_option, same_proposal, same_sleep, same_test, same_texts}

and_both : (a b : Bool) → (a && b) ≡ true → (a ≡ true) × (b ≡ true)
and_both true b e = (refl, e)
and_both false b e = cc

both_and : (a b : Bool) → a ≡ true → b ≡ true → (a && b) ≡ true
both_and true b e f = f
both_and false b e f = cc

key_is : (a b : RunKey) → is_eq (key_cmp a b) ≡ true → a ≡ b
key_is a b e = same_key a b ((Equal-is (key_cmp a b)).0 e)

-- ---- texts that may be there, lists of texts
option_is : (o p : Option (List ℕ)) → same_option bytes_eq o p ≡ true → o ≡ p
option_is None None e = refl
option_is (Some a) (Some b) e = ap Some ((bytes_eq-Decides a b).0 e)
option_is None (Some b) e = cc
option_is (Some a) None e = cc

option_same : (o : Option (List ℕ)) → same_option bytes_eq o o ≡ true
option_same None = refl
option_same (Some a) = (bytes_eq-Decides a a).1 refl

texts_is : (xs ys : List (List ℕ)) → same_texts xs ys ≡ true → xs ≡ ys
texts_is xs ys e = (slice_eq-Decides bytes_eq-Decides xs ys (same_texts xs ys) refl).0 e

texts_same : (xs : List (List ℕ)) → same_texts xs xs ≡ true
texts_same xs = (slice_eq-Decides bytes_eq-Decides xs xs (same_texts xs xs) refl).1 refl

-- ---- tests
sleep_is : (y z : Sleep) → same_sleep y z ≡ true → y ≡ z
sleep_is y z holds =
    let comments = same_option bytes_eq y.starting_comment z.starting_comment && same_option bytes_eq y.parting_comment z.parting_comment in
    let a = and_both (y.duration == z.duration) comments holds in
    let b = and_both (same_option bytes_eq y.starting_comment z.starting_comment) (same_option bytes_eq y.parting_comment z.parting_comment) a.1 in
    same_fields y.duration z.duration y.starting_comment z.starting_comment y.parting_comment z.parting_comment ((Decides-eqb y.duration z.duration).0 a.0) (option_is y.starting_comment z.starting_comment b.0) (option_is y.parting_comment z.parting_comment b.1)
  where
    sleep : ℕ → Option (List ℕ) → Option (List ℕ) → Sleep
    sleep d s p = record { duration = d; starting_comment = s; parting_comment = p }

    same_fields : (d e : ℕ) (s t p q : Option (List ℕ)) → d ≡ e → s ≡ t → p ≡ q → sleep d s p ≡ sleep e t q
    same_fields d e s t p q de st pq = rw (de, st, pq) refl

sleep_same : (z : Sleep) → same_sleep z z ≡ true
sleep_same z = both_and _ _ ((Decides-eqb z.duration z.duration).1 refl) (both_and _ _ (option_same z.starting_comment) (option_same z.parting_comment))

test_is : (a b : TestSpec) → same_test a b ≡ true → a ≡ b
test_is (Idle y) (Idle z) holds = ap Idle (sleep_is y z holds)
test_is (Idleex y) (Idleex z) holds = ap Idleex (sleep_is y z holds)
test_is (Idlebgm y i) (Idlebgm z j) holds =
    let both = and_both (same_sleep y z) (i == j) holds in ap₂ Idlebgm (sleep_is y z both.0) ((Decides-eqb i j).0 both.1)
test_is (Idlemany y hosts) (Idlemany z others) holds =
    let both = and_both (same_sleep y z) (same_texts hosts others) holds in ap₂ Idlemany (sleep_is y z both.0) (texts_is hosts others both.1)
test_is (Simplestream a m d o) (Simplestream b n e u) holds =
    let one = and_both (bytes_eq a b) (bytes_eq m n && ((d == e) && (o == u))) holds in
    let two = and_both (bytes_eq m n) ((d == e) && (o == u)) one.1 in
    let three = and_both (d == e) (o == u) two.1 in
    rw ((bytes_eq-Decides a b).0 one.0, (bytes_eq-Decides m n).0 two.0, (Decides-eqb d e).0 three.0, (Decides-eqb o u).0 three.1) refl
test_is _ _ fails = cc

test_same : (a : TestSpec) → same_test a a ≡ true
test_same (Idle z) = sleep_same z
test_same (Idleex z) = sleep_same z
test_same (Idlebgm z i) = both_and _ _ (sleep_same z) ((Decides-eqb i i).1 refl)
test_same (Idlemany z hosts) = both_and _ _ (sleep_same z) (texts_same hosts)
test_same (Simplestream a m d o) =
    both_and _ _ ((bytes_eq-Decides a a).1 refl) (both_and _ _ ((bytes_eq-Decides m m).1 refl) (both_and _ _ ((Decides-eqb d d).1 refl) ((Decides-eqb o o).1 refl)))

-- ---- proposals
asker_is : (a b : Asker) → same_asker a b ≡ true → a ≡ b
asker_is a b holds =
    let both = and_both (bytes_eq a.requester b.requester) (bytes_eq a.server b.server) holds in
    ap₂ (λ x y. record { requester = x; server = y }) ((bytes_eq-Decides a.requester b.requester).0 both.0) ((bytes_eq-Decides a.server b.server).0 both.1)

abbrev proposal_of : RunKey → TestSpec → List ℕ → ℕ → ℤ → Asker → Proposal
proposal_of key test tool start priority asker = record { key = key; test = test; tool = tool; start = start; priority = priority; asker = asker }

proposal_is : (p q : Proposal) → same_proposal p q ≡ true → p ≡ q
proposal_is p q holds =
    let key = and_both (is_eq (key_cmp p.key q.key)) _ holds in
    let test = and_both (same_test p.test q.test) _ key.1 in
    let tool = and_both (bytes_eq p.tool q.tool) _ test.1 in
    let start = and_both (p.start == q.start) _ tool.1 in
    let priority = and_both (int_eq p.priority q.priority) _ start.1 in
    let a : p.key ≡ q.key = key_is p.key q.key key.0 in
    let b : p.test ≡ q.test = test_is p.test q.test test.0 in
    let c : p.tool ≡ q.tool = (bytes_eq-Decides p.tool q.tool).0 tool.0 in
    let d : p.start ≡ q.start = (Decides-eqb p.start q.start).0 start.0 in
    let e : p.priority ≡ q.priority = (Decides-int_eq p.priority q.priority).0 priority.0 in
    let f : p.asker ≡ q.asker = asker_is p.asker q.asker priority.1 in
    let made : proposal_of p.key p.test p.tool p.start p.priority p.asker ≡ proposal_of q.key q.test q.tool q.start q.priority q.asker = rw (a, b, c, d, e, f) refl in
    made

proposal_same : (p : Proposal) → same_proposal p p ≡ true
proposal_same p =
    both_and _ _ (ap is_eq (key_cmp_same p.key)) (both_and _ _ (test_same p.test) (both_and _ _ ((bytes_eq-Decides p.tool p.tool).1 refl)
    (both_and _ _ ((Decides-eqb p.start p.start).1 refl) (both_and _ _ ((Decides-int_eq p.priority p.priority).1 refl)
    (both_and _ _ ((bytes_eq-Decides p.asker.requester p.asker.requester).1 refl) ((bytes_eq-Decides p.asker.server p.asker.server).1 refl))))))

-- ---- content
pub content_is : (r : RunRow) (p : Proposal) (names : List (List ℕ)) → same_content r p names ≡ true → (kept_proposal r ≡ p) × (r.participants ≡ names)
content_is r p names holds =
    let both = and_both (same_proposal (kept_proposal r) p) (same_texts r.participants names) holds in
    (proposal_is (kept_proposal r) p both.0, texts_is r.participants names both.1)

pub content_same : (r : RunRow) (p : Proposal) (names : List (List ℕ)) → kept_proposal r ≡ p → r.participants ≡ names → same_content r p names ≡ true
content_same r p names proposal participants =
    subst (λ q. same_content r q names ≡ true) proposal
    (subst (λ l. same_content r (kept_proposal r) l ≡ true) participants (both_and _ _ (proposal_same (kept_proposal r)) (texts_same r.participants)))

bool_same : (a b : Bool) → (IsTrue a → IsTrue b) → (IsTrue b → IsTrue a) → a ≡ b
bool_same true true f g = refl
bool_same false false f g = refl
bool_same true false f g = let fails = f refl in cc
bool_same false true f g = let fails = g refl in cc

-- a test that holds exactly where the content is the same is that of the definition
pub content_test : (b : Bool) (r : RunRow) (p : Proposal) (names : List (List ℕ)) → IsTrue b ↔ ((kept_proposal r ≡ p) × (r.participants ≡ names)) → b ≡ same_content r p names
content_test b r p names exact =
    bool_same b (same_content r p names) (λ holds. content_same r p names (exact.0 holds).0 (exact.0 holds).1) (λ holds. exact.1 (content_is r p names holds))

-- The trees of orders are read again.
use Rattle.std.proofs.Common.{◌≡◌, ◌+◌, ◌&&◌, ◌≤◌, Err, IfOk, List, Ok, Result, Some, arith, codes, length, min, nat_le, nat_lt, negsuc, pos, refl, sym, true, ◌^◌, ℕ, ℤ}
use Rattle.std.proofs.lemmas.Bool.Decides.{nat_tests}
use Rattle.std.proofs.lemmas.Int.{ints}
use Rattle.std.specs.Int.Signed.{◌≤ℤ◌}
use Rattle.serde_json.specs.Data.{Data, depth, member, no_members, number, object, string}
use Rattle.serde_json.specs.Find.{of_integer}
use Rattle.serde_json.specs.Written.{compact_text}
use Rattle.ps_json.specs.Answer.{then_with}
use Rattle.ps_json.specs.Tree.{tree_of}
use Rattle.ps_time.specs.Id.{id_of_text}
use Rattle.ps_time.specs.Numbers.{greatest_moment, horizon, most_request_bytes}
use Rattle.ps_time.specs.declared.id.Id.TheVariants.{Run}
use Rattle.ps_time.specs.declared.key.RunKey.{RunKey}
use Rattle.plugin_core.specs.ReadTest.{test_of}
use Rattle.plugin_core.specs.WriteTest.{test_data}
use Rattle.plugin_core.specs.declared.test_spec.TestSpec.{TestSpec}
use Rattle.run_states.specs.declared.proposal.Proposal.{Proposal}
use Rattle.run_states.specs.declared.proposal.Question.{Question}
use Rattle.task_spec.specs.declared.fault.TaskFault.{TaskFault}
use Rattle.api_body.specs.Bodies.{are_short, body_tree, key_at, last_in, material_of, moment_in, priority_at, proposal_of, question_of, test_at}
use Rattle.api_input.specs.Understood.{most_texts}
use Rattle.api_reply.specs.Denials.{proposal_data}
use Rattle.api_reply.specs.Shown.{run_text, second_data}
use Rattle.api_peer.specs.Meant.{IsAskable, IsPriority, IsProposable, IsReadKey}
use Rattle.api_peer.specs.Ordered.{material_data, question_data}

-- ---- contents
pub moment_back : (name : List ℕ) (m : ℕ) → m ≤ greatest_moment → moment_in name (second_data m) ≡ Ok m
unfolding second_data
moment_back name m small =
    let same : min m greatest_moment ≡ m = omega arith in
    let within : nat_le 0 m && nat_le m greatest_moment ≡ true = grind (arith, nat_tests) in
    rw (same, within) refl

last_back : (first : ℕ) (name : List ℕ) (m : ℕ) → first ≤ m → m ≤ first + horizon → m ≤ greatest_moment → last_in first name (second_data m) ≡ Ok m
unfolding second_data
last_back first name m low high small =
    let same : min m greatest_moment ≡ m = omega arith in
    let within : nat_le first m && nat_le m (min greatest_moment (first + horizon)) ≡ true = grind (arith, nat_tests) in
    rw (same, within) refl

pub key_back : (name : List ℕ) (k : RunKey) → id_of_text (run_text k) ≡ Some (Run k) → key_at name (string (run_text k)) ≡ Ok k
key_back name k names = rw names refl

pub priority_back : (z : ℤ) → negsuc 32_767 ≤ℤ z → z ≤ℤ pos 32_767 → IsPriority z
priority_back (pos n) low high =
    let bound : n ≤ 32_767 = omega (arith, ints, high) in
    let small : nat_lt n (2 ^ 63) ≡ true = grind (arith, nat_tests) in
    let within : nat_le n 32_767 ≡ true = grind (arith, nat_tests) in
    rw (small, within) refl
priority_back (negsuc n) low high =
    let bound : n ≤ 32_767 = omega (arith, ints, low) in let within : nat_le n 32_767 ≡ true = grind (arith, nat_tests) in rw within refl

test_again : (name : List ℕ) (test : TestSpec) → test_of (test_data test) ≡ Ok test → test_at name (test_data test) ≡ Ok test
test_again name test back = rw back refl

-- ---- bodies
question_put : (first last : ℕ) (key : RunKey) (priority : ℤ) (test : TestSpec) (f k l p t : Data)
    → moment_in (codes "first") f ≡ Ok first → key_at (codes "key") k ≡ Ok key → last_in first (codes "last") l ≡ Ok last
    → priority_at (codes "priority") p ≡ Ok priority → test_at (codes "test") t ≡ Ok test
    → question_of (object (member (codes "first") f (member (codes "key") k (member (codes "last") l (member (codes "priority") p (member (codes "test") t no_members))))))
    ≡ Ok (record { key = key; test = test; priority = priority; window = record { first = first; last = last } })
question_put first last key priority test f k l p t hf hk hl hp ht = rw (hf, hk, hl, hp, ht) refl

pub question_back : (q : Question) → id_of_text (run_text q.key) ≡ Some (Run q.key) → IsPriority q.priority → test_of (test_data q.test) ≡ Ok q.test → IsAskable q.window → question_of (question_data q) ≡ Ok q
question_back q names whole back is =
    question_put q.window.first q.window.last q.key q.priority q.test (second_data q.window.first) (string (run_text q.key)) (second_data q.window.last) (number (of_integer q.priority)) (test_data q.test)
    (moment_back (codes "first") q.window.first (omega (arith, is.window.ordered, is.window.last)))
    (key_back (codes "key") q.key names)
    (last_back q.window.first (codes "last") q.window.last is.window.ordered is.day is.window.last)
    whole
    (test_again (codes "test") q.test back)

proposal_put : (most start : ℕ) (lead requester tool : List ℕ) (key : RunKey) (priority : ℤ) (test : TestSpec) (k p s t : Data)
    → key_at (codes "key") k ≡ Ok key → priority_at (codes "priority") p ≡ Ok priority → moment_in (codes "start") s ≡ Ok start
    → test_at (codes "test") t ≡ Ok test → are_short most requester tool lead ≡ true
    → proposal_of most lead (object (member (codes "key") k (member (codes "priority") p (member (codes "requester") (string requester) (member (codes "start") s (member (codes "test") t (member (codes "tool") (string tool) no_members)))))))
    ≡ Ok (record { key = key; test = test; tool = tool; start = start; priority = priority; asker = record { requester = requester; server = lead } })
proposal_put most start lead requester tool key priority test k p s t hk hp hs ht short = rw (hk, hp, hs, ht, short) refl

pub proposal_back : (most : ℕ) (p : Proposal) → id_of_text (run_text p.key) ≡ Some (Run p.key) → IsPriority p.priority → test_of (test_data p.test) ≡ Ok p.test
    → p.start ≤ greatest_moment → length p.asker.requester + length p.tool + length p.asker.server ≤ most → proposal_of most p.asker.server (proposal_data p) ≡ Ok p
proposal_back most p names whole back start short =
    proposal_put most p.start p.asker.server p.asker.requester p.tool p.key p.priority p.test (string (run_text p.key)) (number (of_integer p.priority)) (second_data p.start) (test_data p.test)
    (key_back (codes "key") p.key names)
    whole
    (moment_back (codes "start") p.start start)
    (test_again (codes "test") p.test back)
    (grind (arith, nat_tests))

pub material_back : (text : List ℕ) → length text ≤ most_request_bytes → material_of (material_data text) ≡ Ok text
material_back text short =
    let fits : nat_le (length text) most_request_bytes ≡ true = grind (arith, nat_tests) in rw fits refl

-- ---- as bytes
pub read_back : {A : Type 0} (bytes : List ℕ) (d : Data) (read : Data → Result A TaskFault) (x : A) → tree_of bytes ≡ Ok d → read d ≡ Ok x → then_with (body_tree bytes) read ≡ Ok x
read_back bytes d read x is back = rw (is, back) refl

-- a proposal of the host with this name
pub proposable : (p : Proposal) (name : List ℕ) → IsProposable name p → IsReadKey p.key → IsPriority p.priority → test_of (test_data p.test) ≡ Ok p.test → proposal_of most_texts name (proposal_data p) ≡ Ok p
proposable p name is names whole back = rw (sym is.lead) (proposal_back most_texts p names whole back is.start is.short)

-- what was written for a tree is read as what the tree is
pub read_all : {A E N : Type 0} (P : N → Type 0) (read : N → Data → Result A TaskFault) (x : A) (seen d : Data) (made : Result (List ℕ) E) → seen ≡ d → depth d ≤ 64
    → IfOk made (λ bytes. bytes ≡ compact_text seen) → IfOk made (λ bytes. depth seen ≤ 64 → tree_of bytes ≡ Ok seen) → ((n : N) → P n → read n d ≡ Ok x)
    → IfOk made (λ bytes. (n : N) → P n → then_with (body_tree (compact_text d)) (read n) ≡ Ok x)
read_all P read x seen d (Err e) is flat text reads back = tt
read_all P read x seen d (Ok bytes) is flat text reads back =
    λ n p. read_back (compact_text d) d (read n) x (rw is at (rw text at (reads (rw is flat)))) (back n p)

-- the same with one premise
pub read_if : {A E : Type 0} (P : Type 0) (read : Data → Result A TaskFault) (x : A) (seen d : Data) (made : Result (List ℕ) E) → seen ≡ d → depth d ≤ 64
    → IfOk made (λ bytes. bytes ≡ compact_text seen) → IfOk made (λ bytes. depth seen ≤ 64 → tree_of bytes ≡ Ok seen) → (P → read d ≡ Ok x)
    → IfOk made (λ bytes. P → then_with (body_tree (compact_text d)) read ≡ Ok x)
read_if P read x seen d (Err e) is flat text reads back = tt
read_if P read x seen d (Ok bytes) is flat text reads back =
    λ p. read_back (compact_text d) d read x (rw is at (rw text at (reads (rw is flat)))) (back p)

-- Denials are read again.
use Rattle.std.proofs.Common.{◌&&◌, ◌++◌, ◌-◌, ◌^◌, ◌∷◌, ◌≡◌, ◌≤◌, Bool, List, Ok, Some, [], arith, codes, cond, false, length, length-append, nat_le, nat_lt, negsuc, pos, refl, sym, true, ℕ, ℤ}
use Rattle.std.proofs.lemmas.Bool.Decides.{nat_tests}
use Rattle.std.proofs.lemmas.Int.{ints}
use Rattle.std.proofs.lemmas.List.Concat.{flat_map-cons}
use Rattle.std.specs.Int.Signed.{◌≤ℤ◌}
use Rattle.std.specs.List.{flat_map}
use Rattle.json.specs.Print.{escape, escape_byte, escape_letter, quoted}
use Rattle.serde_json.specs.Data.{Data, member, no_members, number, object, string}
use Rattle.serde_json.specs.Find.{of_integer}
use Rattle.serde_json.specs.Written.{comma_if, compact_text}
use Rattle.ps_time.specs.Numbers.{most_request_bytes}
use Rattle.ps_time.specs.declared.asker.Verdict.{Verdict}
use Rattle.ps_time.specs.declared.asker.Verdict.TheVariants.{Permitted, Stopped, Exhausted, AboveCeiling}
use Rattle.ps_time.specs.declared.key.RunKey.{RunKey}
use Rattle.plugin_core.specs.Bounds.{IsTest}
use Rattle.plugin_core.specs.ReadTest.{test_of}
use Rattle.plugin_core.specs.WriteTest.{test_data}
use Rattle.plugin_core.specs.declared.test_spec.TestSpec.{TestSpec}
use Rattle.run_states.specs.State.{state_text}
use Rattle.run_states.specs.declared.proposal.Proposal.{Proposal}
use Rattle.run_states.specs.declared.state.State.{State}
use Rattle.run_states.specs.declared.why.Denial.{Denial}
use Rattle.run_states.specs.declared.why.Denial.TheVariants as denial
use Rattle.run_states.specs.declared.why.What.{What}
use Rattle.run_states.specs.declared.why.What.TheVariants.{Runs, Results, Numbers}
use Rattle.task_spec.specs.WriteTask.{count_data}
use Rattle.api_body.specs.Bodies.{key_at, moment_in, proposal_of}
use Rattle.api_reply.specs.Denials.{denial_data, limits_data, proposal_data, what_text}
use Rattle.api_reply.specs.Shown.{error_with, run_text, second_data}
use Rattle.api_answer.specs.Denied.{ceiling_in, count_in, denial_told, index_in, most_texts, proposal_at, what_named}
use Rattle.api_answer.specs.Told.{state_named}
use Rattle.api_peer.proofs.BodyLemmas.{key_back, moment_back, priority_back, proposal_back}
use Rattle.api_peer.proofs.KeyLemmas.{key_read}
use Rattle.api_peer.proofs.ToldLemmas.{state_named_back}
use Rattle.api_peer.specs.Replied.{IsDenialTold, IsProposalTold, IsVerdictTold}

-- ---- texts in a body
no_shorter : (a b : Bool) (p q r : List ℕ) → 1 ≤ length p → 1 ≤ length q → 1 ≤ length r → 1 ≤ length (cond a p (cond b q r))
no_shorter true b p q r hp hq hr = hp
no_shorter false true p q r hp hq hr = hq
no_shorter false false p q r hp hq hr = hr

-- a byte is written as at least one
byte_long : (x : ℕ) → 1 ≤ length (escape_byte x)
unfolding escape_byte
byte_long x = no_shorter (nat_lt 0 (escape_letter x)) (nat_lt x 32) _ _ _ (omega arith) (omega arith) (omega arith)

escape_long : (bs : List ℕ) → length bs ≤ length (escape bs)
escape_long [] = omega arith
escape_long (x ∷ xs) = rw (flat_map-cons escape_byte x xs, length-append (escape_byte x) (flat_map escape_byte xs)) (omega (arith, byte_long x, escape_long xs))

-- a text is no longer than an object with it as its last member
behind : (p q : List ℕ) → length q ≤ length (p ++ q)
behind p q = omega (arith, length-append p q)

last_long : (a b c d text : List ℕ) → length text ≤ length (123 ∷ (a ++ 58 ∷ (b ++ (c ++ (d ++ 58 ∷ (quoted text ++ 125 ∷ []))))))
last_long a b c d text =
    let own : length text ≤ length (quoted text ++ 125 ∷ []) = omega (arith, escape_long text, length-append (escape text) (34 ∷ []), length-append (quoted text) (125 ∷ [])) in
    omega (arith, own, behind d (58 ∷ (quoted text ++ 125 ∷ [])), behind c (d ++ 58 ∷ (quoted text ++ 125 ∷ [])), behind b (c ++ (d ++ 58 ∷ (quoted text ++ 125 ∷ []))), behind a (58 ∷ (b ++ (c ++ (d ++ 58 ∷ (quoted text ++ 125 ∷ []))))))

named_long : (tool : List ℕ) → length tool ≤ length (compact_text (error_with (codes "no tool") (codes "tool") tool))
named_long tool = last_long (quoted (codes "error")) (quoted (codes "no tool")) (comma_if true) (quoted (codes "tool")) tool

module _ (lead : List ℕ) where
  -- ---- limits
  stopped_put : (i : ℕ) (d : Data) → index_in (codes "index") d ≡ Ok i
      → denial_told lead (object (member (codes "error") (string (codes "limits")) (member (codes "index") d (member (codes "verdict") (string (codes "stopped")) no_members)))) ≡ Ok (denial.Limits (Stopped i))
  stopped_put i d is = rw is refl

  index_back : (i : ℕ) → i ≤ 4_294_967_295 → index_in (codes "index") (count_data i) ≡ Ok i
  index_back i small =
      let within : nat_le 0 i && nat_le i 4_294_967_295 ≡ true = grind (arith, nat_tests) in rw within refl

  above_put : (z : ℤ) (d : Data) → ceiling_in (codes "ceiling") d ≡ Ok z
      → denial_told lead (object (member (codes "ceiling") d (member (codes "error") (string (codes "limits")) (member (codes "verdict") (string (codes "above-ceiling")) no_members)))) ≡ Ok (denial.Limits (AboveCeiling z))
  above_put z d is = rw is refl

  ceiling_back : (z : ℤ) → negsuc 32_767 ≤ℤ z → z ≤ℤ pos 32_767 → ceiling_in (codes "ceiling") (number (of_integer z)) ≡ Ok z
  ceiling_back (pos n) low high =
      let bound : n ≤ 32_767 = omega (arith, ints, high) in
      let small : nat_lt n (2 ^ 63) ≡ true = grind (arith, nat_tests) in
      let within : nat_le n 32_767 ≡ true = grind (arith, nat_tests) in
      rw (small, within) refl
  ceiling_back (negsuc n) low high =
      let bound : n ≤ 32_767 = omega (arith, ints, low) in let within : nat_le n 32_767 ≡ true = grind (arith, nat_tests) in rw within refl

  limits_back : (v : Verdict) → IsVerdictTold v → denial_told lead (limits_data v) ≡ Ok (denial.Limits v)
  limits_back (Permitted i) is = absurd is
  limits_back (Stopped i) is = stopped_put i (count_data i) (index_back i is)
  limits_back Exhausted is = refl
  limits_back (AboveCeiling z) is = above_put z (number (of_integer z)) (ceiling_back z is.0 is.1)

  -- ---- moments, keys, counts
  past_put : (m start : ℕ) (d e : Data) → moment_in (codes "moment") d ≡ Ok m → moment_in (codes "start") e ≡ Ok start
      → denial_told lead (object (member (codes "error") (string (codes "past")) (member (codes "moment") d (member (codes "start") e no_members)))) ≡ Ok (denial.Past m start)
  past_put m start d e hm hs = rw (hm, hs) refl

  conflict_put : (k : RunKey) (text : List ℕ) → key_at (codes "run") (string text) ≡ Ok k → denial_told lead (error_with (codes "conflict") (codes "run") text) ≡ Ok (denial.Conflict k)
  conflict_put k text is = rw is refl

  full_put : (count : ℕ) (d : Data) (what : What) (text : List ℕ) → count_in (codes "count") d ≡ Ok count → what_named text ≡ Some what
      → denial_told lead (object (member (codes "count") d (member (codes "error") (string (codes "full")) (member (codes "what") (string text) no_members)))) ≡ Ok (denial.Full what count)
  full_put count d what text hc hw = rw (hc, hw) refl

  count_back : (n : ℕ) → n ≤ 2 ^ 64 - 1 → count_in (codes "count") (count_data n) ≡ Ok n
  count_back n small =
      let within : nat_le 0 n && nat_le n (2 ^ 64 - 1) ≡ true = grind (arith, nat_tests) in rw within refl

  what_back : (what : What) → what_named (what_text what) ≡ Some what
  what_back Runs = refl
  what_back Results = refl
  what_back Numbers = refl

  -- ---- proposals that differ
  differs_put : (kept sent : Proposal) (d e : Data) → proposal_at lead (codes "kept") d ≡ Ok kept → proposal_at lead (codes "sent") e ≡ Ok sent
      → denial_told lead (object (member (codes "error") (string (codes "differs")) (member (codes "kept") d (member (codes "sent") e no_members)))) ≡ Ok (denial.Differs kept sent)
  differs_put kept sent d e hk hs = rw (hk, hs) refl

  told_back : ((test : TestSpec) → IsTest test → test_of (test_data test) ≡ Ok test) → (p : Proposal) → IsProposalTold lead p → proposal_of most_texts lead (proposal_data p) ≡ Ok p
  told_back tests p is =
      rw (sym is.server) (proposal_back most_texts p (key_read p.key is.key) (priority_back p.priority is.low is.high) (tests p.test is.test) is.start is.short)

  -- ---- states, hosts, tools
  closed_put : (s : State) (text : List ℕ) → state_named text ≡ Some s → denial_told lead (error_with (codes "closed") (codes "why") text) ≡ Ok (denial.Closed s)
  closed_put s text is = rw is refl

  pub closed_back : (s : State) → denial_told lead (error_with (codes "closed") (codes "why") (state_text s)) ≡ Ok (denial.Closed s)
  closed_back s = closed_put s (state_text s) (state_named_back s)

  tool_back : (tool : List ℕ) → length (compact_text (error_with (codes "no tool") (codes "tool") tool)) ≤ most_request_bytes → denial_told lead (error_with (codes "no tool") (codes "tool") tool) ≡ Ok (denial.NoTool tool)
  tool_back tool short =
      let low : length tool ≤ most_request_bytes = omega (arith, named_long tool, short) in
      let within : nat_le (length tool) most_request_bytes ≡ true = grind (arith, nat_tests, low) in
      rw within refl

  -- where its body isn't too long
  pub denial_back : ((test : TestSpec) → IsTest test → test_of (test_data test) ≡ Ok test) → (name : List ℕ) (d : Denial) → length (compact_text (denial_data name d)) ≤ most_request_bytes → IsDenialTold lead d → denial_told lead (denial_data name d) ≡ Ok d
  denial_back tests name (denial.Limits v) short is = limits_back v is
  denial_back tests name (denial.Past m start) short is = past_put m start (second_data m) (second_data start) (moment_back (codes "moment") m is.0) (moment_back (codes "start") start is.1)
  denial_back tests name (denial.Conflict k) short is = conflict_put k (run_text k) (key_back (codes "run") k (key_read k is))
  denial_back tests name (denial.Full what count) short is = full_put count (count_data count) what (what_text what) (count_back count is) (what_back what)
  denial_back tests name (denial.Differs kept sent) short is = differs_put kept sent (proposal_data kept) (proposal_data sent) (told_back tests kept is.0) (told_back tests sent is.1)
  denial_back tests name (denial.Closed s) short is = closed_back s
  denial_back tests name denial.NotParticipant short is = refl
  denial_back tests name (denial.NoTool tool) short is = tool_back tool short

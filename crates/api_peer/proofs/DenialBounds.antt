-- The body of a denial is short, unless it tells texts for whose length there is no rule.
use Rattle.std.proofs.Common.{◌-◌, ◌^◌, ◌≡◌, ◌≤◌, List, arith, codes, false, length, true, ℕ}
use Rattle.serde_json.specs.Data.{member, no_members, number, string}
use Rattle.serde_json.specs.Find.{of_integer}
use Rattle.serde_json.specs.Written.{compact_text}
use Rattle.ps_time.specs.Numbers.{most_request_bytes}
use Rattle.ps_time.specs.declared.asker.Verdict.{Verdict}
use Rattle.ps_time.specs.declared.asker.Verdict.TheVariants.{AboveCeiling, Exhausted, Permitted, Stopped}
use Rattle.plugin_core.proofs.LengthLemmas.{member_short, text_short}
use Rattle.run_states.specs.State.{state_text}
use Rattle.run_states.specs.declared.why.Denial.{Denial}
use Rattle.run_states.specs.declared.why.Denial.TheVariants as denial
use Rattle.run_states.specs.declared.why.What.{What}
use Rattle.run_states.specs.declared.why.What.TheVariants.{Numbers, Results, Runs}
use Rattle.task_spec.specs.WriteTask.{count_data}
use Rattle.host_model.specs.declared.reply.Reply.TheVariants as reply
use Rattle.api_reply.specs.Denials.{at_application, denial_data, full_data, limits_data, past_data, what_text}
use Rattle.api_reply.specs.Shown.{run_text, second_data}
use Rattle.api_peer.specs.Replied.{IsDenialTold, IsVerdictTold}
use Rattle.api_peer.specs.Texts.{tells_texts}
use Rattle.api_peer.proofs.PartBounds.{count_short, error_with_short, priority_short, run_length, second_short, state_length}

-- ---- by limits
applied_short : (i : ℕ) (verdict : List ℕ) → i ≤ 4_294_967_295 → length verdict ≤ 9 → length (compact_text (at_application i verdict)) ≤ most_request_bytes
applied_short i verdict small few =
    let last = member (codes "verdict") (string verdict) no_members in
    let index = member (codes "index") (count_data i) last in
    omega (
      arith,
      few,
      member_short (codes "error") (string (codes "limits")) index false,
      member_short (codes "index") (count_data i) last true,
      member_short (codes "verdict") (string verdict) no_members true,
      text_short (codes "limits"),
      count_short i (omega (arith, small)),
      text_short verdict,
    )

verdict_short : (verdict : Verdict) → IsVerdictTold verdict → length (compact_text (limits_data verdict)) ≤ most_request_bytes
verdict_short (Permitted i) is = absurd is
verdict_short (Stopped i) is = applied_short i (codes "stopped") is (omega arith)
verdict_short Exhausted is = omega (arith, error_with_short (codes "limits") (codes "verdict") (codes "exhausted"))
verdict_short (AboveCeiling z) is =
    let last = member (codes "verdict") (string (codes "above-ceiling")) no_members in
    let error = member (codes "error") (string (codes "limits")) last in
    omega (
      arith,
      member_short (codes "ceiling") (number (of_integer z)) error false,
      member_short (codes "error") (string (codes "limits")) last true,
      member_short (codes "verdict") (string (codes "above-ceiling")) no_members true,
      priority_short z is.0 is.1,
      text_short (codes "limits"),
      text_short (codes "above-ceiling"),
    )

-- ---- by moments and counts
past_short : (m start : ℕ) → length (compact_text (past_data m start)) ≤ most_request_bytes
past_short m start =
    let last = member (codes "start") (second_data start) no_members in
    let moment = member (codes "moment") (second_data m) last in
    omega (
      arith,
      member_short (codes "error") (string (codes "past")) moment false,
      member_short (codes "moment") (second_data m) last true,
      member_short (codes "start") (second_data start) no_members true,
      text_short (codes "past"),
      second_short m,
      second_short start,
    )

what_length : (what : What) → length (what_text what) ≤ 7
what_length Runs = omega arith
what_length Results = omega arith
what_length Numbers = omega arith

full_short : (count : ℕ) (what : What) → count ≤ 2 ^ 64 - 1 → length (compact_text (full_data count (what_text what))) ≤ most_request_bytes
full_short count what small =
    let last = member (codes "what") (string (what_text what)) no_members in
    let error = member (codes "error") (string (codes "full")) last in
    omega (
      arith,
      member_short (codes "count") (count_data count) error false,
      member_short (codes "error") (string (codes "full")) last true,
      member_short (codes "what") (string (what_text what)) no_members true,
      count_short count small,
      text_short (codes "full"),
      text_short (what_text what),
      what_length what,
    )

-- ---- each denial, by the host of this name
pub denial_short : (lead name : List ℕ) (d : Denial) → IsDenialTold lead d → tells_texts (reply.Denied d) ≡ false → length (compact_text (denial_data name d)) ≤ most_request_bytes
denial_short lead name (denial.Limits verdict) is known = verdict_short verdict is
denial_short lead name (denial.Past m start) is known = past_short m start
denial_short lead name (denial.Conflict k) is known =
    omega (arith, run_length k, error_with_short (codes "conflict") (codes "run") (run_text k))
denial_short lead name (denial.Full what count) is known = full_short count what is
denial_short lead name (denial.Differs kept sent) is known = cc
denial_short lead name (denial.Closed s) is known =
    omega (arith, error_with_short (codes "closed") (codes "why") (state_text s), state_length s)
denial_short lead name denial.NotParticipant is known = cc
denial_short lead name (denial.NoTool tool) is known = cc

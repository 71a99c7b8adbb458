-- How many bytes the compact texts of results have at most.
use Rattle.std.proofs.Common.{ℕ, ◌+◌, ◌*◌, ◌/◌, ◌≤◌, List, [], ◌∷◌, All, Bool, true, false, length, codes, arith}
use Rattle.std.proofs.lemmas.Fmt.{length-decimal-le}
use Rattle.std.proofs.lemmas.List.Elements.{All-nil, All-cons}
use Rattle.std.proofs.lemmas.List.FromFn.{length-range_with_len}
use Rattle.std.specs.List.{range_with_len}
use Rattle.serde_json.specs.Data.{unsigned, boolean, number, string, array, no_members, member}
use Rattle.serde_json.specs.View.{items_of}
use Rattle.serde_json.specs.Written.{compact_text, members_text}
use Rattle.ps_time.specs.Moment.{moment_text_of}
use Rattle.ps_time.specs.Numbers.{greatest_length, most_result_bytes}
use Rattle.plugin_core.proofs.LengthLemmas.{quoted_short, items_short, member_short, length_short, moment_short}
use Rattle.plugin_core.specs.Bounds.{IsTest}
use Rattle.plugin_core.specs.WriteTest.{length_data}
use Rattle.plugin_core.specs.declared.test_spec.TestSpec.{TestSpec}
use Rattle.plugin_core.specs.declared.test_spec.TestSpec.TheVariants.{Idle, Idleex, Idlebgm, Idlemany, Simplestream}
use Rattle.plugin_tool.specs.ResultText.{ending, failed, slept, tick, ticks, ticked, streamed, good_result, result_data}
use Rattle.plugin_tool.specs.declared.run.Outcome.{Outcome}
use Rattle.plugin_tool.specs.declared.run.Outcome.TheVariants.{Good, TimedOut, NotTaken, Restarted}
use Rattle.plugin_tool.specs.declared.run.Role.{Role}
use Rattle.plugin_tool.specs.declared.run.Role.TheVariants.{Only, Source, Dest}
use Rattle.plugin_tool.specs.declared.run.ToolView.{ToolView}

one_short : length (compact_text (number (unsigned 1))) ≤ 1
one_short = length-decimal-le 1 1 (omega arith) (omega arith) (omega arith)

ending_short : (good : Bool) → length (members_text true (ending good)) ≤ 110
ending_short true = omega (arith, one_short, member_short (codes "schema") (number (unsigned 1)) (member (codes "succeeded") (boolean true) no_members) true, member_short (codes "succeeded") (boolean true) no_members true)
ending_short false = omega (arith, one_short, member_short (codes "schema") (number (unsigned 1)) (member (codes "succeeded") (boolean false) no_members) true, member_short (codes "succeeded") (boolean false) no_members true)

failed_short : (error : List ℕ) → length error ≤ 14 → length (compact_text (failed error)) ≤ most_result_bytes
failed_short error short = omega (arith, quoted_short error, ending_short false, member_short (codes "error") (string error) (ending false) false)

slept_short : (d : ℕ) → d ≤ greatest_length → length (compact_text (slept d)) ≤ most_result_bytes
slept_short d within = omega (arith, length_short d within, ending_short true, member_short (codes "duration") (length_data d) (ending true) false)

tick_short : (at : ℕ) → length (compact_text (tick at)) ≤ 150
tick_short at = omega (arith, moment_short at, member_short (codes "at") (string (moment_text_of at)) no_members false)

every : (xs : List ℕ) → All (λ x. Unit {0}) xs
every [] = All-nil (λ x. Unit {0})
every (x ∷ xs) = All-cons (λ x. Unit {0}) x xs tt (every xs)

ticks_short : (started interval count : ℕ) → count ≤ 64 → length (compact_text (array (items_of (ticks started interval count)))) ≤ 10_000
ticks_short started interval count few =
    omega (arith, few, length-range_with_len 1 count, items_short (λ i. Unit {0}) (λ i. tick (started + i * interval)) 150 (λ i is. tick_short (started + i * interval)) (range_with_len 1 count) false (every (range_with_len 1 count)))

ticked_short : (started d i : ℕ) → d ≤ greatest_length → d / i ≤ 64 → length (compact_text (ticked started d i)) ≤ most_result_bytes
ticked_short started d i within few =
    omega (
      arith,
      length_short d within,
      ending_short true,
      ticks_short started i (d / i) few,
      member_short (codes "duration") (length_data d) (member (codes "results") (array (items_of (ticks started i (d / i)))) (ending true)) false,
      member_short (codes "results") (array (items_of (ticks started i (d / i)))) (ending true) true,
    )

sent_short : (m : List ℕ) → length m ≤ 8_192 → length (compact_text (streamed m Source)) ≤ most_result_bytes
sent_short m short =
    omega (
      arith,
      one_short,
      quoted_short m,
      member_short (codes "schema") (number (unsigned 1)) (member (codes "sent") (string m) (member (codes "succeeded") (boolean true) no_members)) false,
      member_short (codes "sent") (string m) (member (codes "succeeded") (boolean true) no_members) true,
      member_short (codes "succeeded") (boolean true) no_members true,
    )

streamed_short : (m : List ℕ) (r : Role) → length m ≤ 8_192 → length (compact_text (streamed m r)) ≤ most_result_bytes
streamed_short m Only short = sent_short m short
streamed_short m Source short = sent_short m short
streamed_short m Dest short = omega (arith, quoted_short m, ending_short true, member_short (codes "received") (string m) (ending true) false)

good_short : (test : TestSpec) (tool : ToolView) → IsTest test → length (compact_text (good_result test tool)) ≤ most_result_bytes
good_short (Idle z) tool is = slept_short z.duration is.short
good_short (Idleex z) tool is = slept_short z.duration is.short
good_short (Idlebgm z i) tool is = ticked_short tool.started z.duration i is.0.short is.1.few
good_short (Idlemany z h) tool is = slept_short z.duration is.0.short
good_short (Simplestream to m w t) tool is = streamed_short m tool.role is.material

pub result_short : (test : TestSpec) (tool : ToolView) (outcome : Outcome) → IsTest test → length (compact_text (result_data test tool outcome)) ≤ most_result_bytes
result_short test tool Good is = good_short test tool is
result_short test tool TimedOut is = failed_short (codes "timed out") (omega arith)
result_short test tool NotTaken is = failed_short (codes "not taken") (omega arith)
result_short test tool Restarted is = failed_short (codes "host restarted") (omega arith)

-- How many bytes the parts of the bodies of orders and replies have at most.
use Rattle.std.specs.Int.Signed.{◌≤ℤ◌}
use Rattle.std.specs.List.{list_all}
use Rattle.std.proofs.Common.{◌*◌, ◌+◌, ◌-◌, ◌^◌, ◌∷◌, ◌≡◌, ◌≤◌, All, List, [], arith, codes, false, length, negsuc, pos, true, ℕ, ℤ}
use Rattle.std.proofs.Math.Nat.{min-le_right}
use Rattle.std.proofs.lemmas.Fmt.{length-decimal-le, length_signed_le}
use Rattle.std.proofs.lemmas.Int.{ints}
use Rattle.std.proofs.lemmas.List.Elements.{All-cons, All-nil}
use Rattle.serde_json.specs.Data.{member, no_members, number, string}
use Rattle.serde_json.specs.Find.{of_integer}
use Rattle.serde_json.specs.Written.{compact_text}
use Rattle.uuid.proofs.TextLemmas.{by_index_length}
use Rattle.ps_time.specs.Numbers.{greatest_moment}
use Rattle.ps_time.specs.Span.{Range}
use Rattle.ps_time.specs.declared.key.RunKey.{RunKey}
use Rattle.plugin_core.proofs.LengthLemmas.{items_short, member_short, put_short, text_short}
use Rattle.task_spec.proofs.LengthLemmas.{all_tools, tool_short}
use Rattle.plugin_core.specs.WriteTest.{names_data}
use Rattle.run_states.specs.State.{state_text}
use Rattle.run_states.specs.declared.state.State.{State}
use Rattle.run_states.specs.declared.state.State.TheVariants as state
use Rattle.task_spec.specs.ReadTask.{is_tool}
use Rattle.task_spec.specs.WriteTask.{count_data}
use Rattle.api_reply.specs.Replies.{window_data, windows_data}
use Rattle.api_reply.specs.Shown.{error, error_with, run_text, second_data, shown}

-- ---- numbers and identifiers
pub second_short : (m : ℕ) → length (compact_text (second_data m)) ≤ 10
unfolding second_data
second_short m =
    let within : shown m ≤ greatest_moment = min-le_right m greatest_moment in
    length-decimal-le 10 (shown m) (omega arith) (omega (arith, within)) (omega (arith, within))

pub count_short : (n : ℕ) → n ≤ 2 ^ 64 - 1 → length (compact_text (count_data n)) ≤ 20
count_short n few = length-decimal-le 20 n (omega arith) (omega (arith, few)) (omega (arith, few))

pub priority_short : (z : ℤ) → negsuc 32_767 ≤ℤ z → z ≤ℤ pos 32_767 → length (compact_text (number (of_integer z))) ≤ 6
priority_short (pos n) low high =
    let bound : n ≤ 32_767 = omega (arith, ints, high) in omega (arith, length-decimal-le 5 n (omega arith) (omega (arith, bound)) (omega (arith, bound)))
priority_short (negsuc n) low high =
    let bound : n ≤ 32_767 = omega (arith, ints, low) in length_signed_le 5 (negsuc n) (omega (arith, bound)) (omega (arith, bound))

pub run_length : (k : RunKey) → length (run_text k) ≡ 36
unfolding run_text
run_length k = by_index_length 36 _

pub run_short : (k : RunKey) → length (compact_text (string (run_text k))) ≤ 218
run_short k = omega (arith, text_short (run_text k), run_length k)

-- ---- names
pub state_length : (s : State) → length (state_text s) ≤ 9
state_length state.Missed = omega arith
state_length state.Preempted = omega arith
state_length state.Nonstart = omega arith
state_length state.Canceled = omega arith
state_length state.Finished = omega arith
state_length state.Failed = omega arith
state_length state.Running = omega arith
state_length state.Cleanup = omega arith
state_length state.Overdue = omega arith
state_length state.OnDeck = omega arith
state_length state.Pending = omega arith

pub tools_short : (names : List (List ℕ)) → list_all is_tool names ≡ true → length names ≤ 4 → length (compact_text (names_data names)) ≤ 350
tools_short names are few = omega (arith, few, items_short (λ name. is_tool name ≡ true) string 86 tool_short names false (all_tools names are))

-- ---- windows
every : {X : Type 0} (xs : List X) → All (λ x. Unit {0}) xs
every [] = All-nil (λ x. Unit {0})
every (x ∷ xs) = All-cons (λ x. Unit {0}) x xs tt (every xs)

window_short : (w : Range) → length (compact_text (window_data w)) ≤ 24
window_short w = omega (arith, items_short (λ m. Unit {0}) second_data 10 (λ m is. second_short m) (w.first ∷ w.last ∷ []) false (every (w.first ∷ w.last ∷ [])))

pub windows_short : (windows : List Range) → length windows ≤ 128 → length (compact_text (windows_data windows)) ≤ 3_202
windows_short windows few = omega (arith, few, items_short (λ w. Unit {0}) window_data 24 (λ w is. window_short w) windows false (every windows))

-- ---- errors
pub error_short : (e : List ℕ) → length (compact_text (error e)) ≤ 6 * length e + 40
error_short e = omega (arith, text_short e, member_short (codes "error") (string e) no_members false)

pub error_with_short : (e name text : List ℕ) → length (compact_text (error_with e name text)) ≤ 6 * (length e + (length name + length text)) + 50
error_with_short e name text =
    omega (arith, text_short e, text_short text, put_short name (string text) (member (codes "error") (string e) no_members) false, member_short (codes "error") (string e) no_members false)

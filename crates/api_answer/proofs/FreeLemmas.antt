-- A free answer that was heard is short.
use Rattle.std.specs.List.{list_all, sum_by}
use Rattle.std.specs.Prelude.{bytes_eq, nat_le}
use Rattle.std.proofs.Common.{◌*◌, ◌∷◌, ◌≡◌, ◌≤◌, Bool, List, None, Some, [], arith, codes, cond, false, is_some, length, refl, true, ℕ}
use Rattle.std.proofs.lemmas.Bool.Decides.{nat_tests}
use Rattle.std.proofs.lemmas.List.Sums.{sum-map, sum_by-cons}
use Rattle.std.proofs.lemmas.Slice.Eq.{bytes_eq-Decides}
use Rattle.ps_time.specs.Span.{Range}
use Rattle.ps_time.proofs.PictureLemmas.{and_true}
use Rattle.plugin_core.specs.ReadTest.{all_differ}
use Rattle.plugin_tool.specs.declared.tool.Tool.TheVariants.{Sleep, Snooze, Sleepbgm, Simplestreamer}
use Rattle.run_states.specs.declared.answer.FreeAnswer.{FreeAnswer}
use Rattle.task_spec.specs.ReadTask.{is_tool}
use Rattle.host_model.specs.InputLength.{most_input_texts}
use Rattle.host_model.specs.RecordLength.{answer_bytes, list_bytes, text_bytes, window_bytes}
use Rattle.api_answer.specs.Told.{IsTier, are_tools}

-- ---- names of tools
same_length : (bs name : List ℕ) → bytes_eq bs name ≡ true → length bs ≡ length name
same_length bs name e = let same : bs ≡ name = (bytes_eq-Decides bs name).0 e in rw same refl

tool_short : (bs : List ℕ) → is_tool bs ≡ true → length bs ≤ 14
tool_short bs is = go (bytes_eq bs (codes "sleep")) (bytes_eq bs (codes "snooze")) (bytes_eq bs (codes "sleepbgm")) (bytes_eq bs (codes "simplestreamer")) refl refl refl refl is
  where
    go : (a b c d : Bool) → bytes_eq bs (codes "sleep") ≡ a → bytes_eq bs (codes "snooze") ≡ b → bytes_eq bs (codes "sleepbgm") ≡ c → bytes_eq bs (codes "simplestreamer") ≡ d
        → is_some (cond a (Some Sleep) (cond b (Some Snooze) (cond c (Some Sleepbgm) (cond d (Some Simplestreamer) None)))) ≡ true → length bs ≤ 14
    go true b c d ea eb ec ed e = omega (arith, same_length bs (codes "sleep") ea)
    go false true c d ea eb ec ed e = omega (arith, same_length bs (codes "snooze") eb)
    go false false true d ea eb ec ed e = omega (arith, same_length bs (codes "sleepbgm") ec)
    go false false false true ea eb ec ed e = omega (arith, same_length bs (codes "simplestreamer") ed)
    go false false false false ea eb ec ed e = cc

each_short : (names : List (List ℕ)) → list_all is_tool names ≡ true → sum_by text_bytes names ≤ length names * 18
each_short [] are = omega arith
each_short (name ∷ names) are =
    let both = and_true (is_tool name) (list_all is_tool names) are in
    omega (arith, sum_by-cons text_bytes name names, tool_short name both.0, each_short names both.1)

abbrev AreTools : List (List ℕ) → Type 0
AreTools names = are_tools names ≡ true

few_tools : (names : List (List ℕ)) → AreTools names → length names ≤ 4
few_tools names are = let few = (and_true (nat_le (length names) 4) _ are).0 in grind (arith, nat_tests, few)

tools_short : (names : List (List ℕ)) → AreTools names → list_bytes text_bytes names ≤ 76
tools_short names are =
    let known = (and_true (list_all is_tool names) (all_differ names) (and_true (nat_le (length names) 4) _ are).1).0 in
    omega (arith, sum-map text_bytes names, each_short names known, few_tools names are)

-- ---- windows
windows_sum : (ws : List Range) → sum_by window_bytes ws ≤ length ws * 16
windows_sum [] = omega arith
windows_sum (w ∷ ws) = omega (arith, sum_by-cons window_bytes w ws, windows_sum ws)

windows_short : (ws : List Range) → IsTier ws → list_bytes window_bytes ws ≤ 2_052
windows_short ws tier = omega (arith, sum-map window_bytes ws, windows_sum ws, tier.few)

-- ---- answers
pub free_short : (answer : FreeAnswer) → are_tools answer.tools ≡ true → IsTier answer.tiers.first → IsTier answer.tiers.second → answer_bytes answer ≤ most_input_texts
free_short answer tools first second = omega (arith, tools_short answer.tools tools, windows_short answer.tiers.first first, windows_short answer.tiers.second second)

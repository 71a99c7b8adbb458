-- A result that is written is a result that may be kept, and so is what is merged of results.
use Rattle.std.specs.Cmp.Derive.{both_true}
use Rattle.std.specs.List.{list_all, range_with_len}
use Rattle.std.specs.Prelude.{◌%◌, ◌*◌, ◌/◌, codes, if◌then◌else◌, nat_le, nat_lt}
use Rattle.std.specs.Str.{is_utf8, IsUtf8}
use Rattle.std.proofs.Common.{◌++◌, ◌+◌, ◌<◌, ◌==◌, ◌^◌, ◌∷◌, ◌≡◌, ◌≤◌, [], All, ap, arith, Bool, cond, decimal, Err, false, length, List, map, None, Ok, Option, refl, Result, Some, suc, true, zero, ℕ}
use Rattle.std.proofs.Math.Nat.{div-mul-le_self, mul-le-mul_right}
use Rattle.std.proofs.lemmas.Bool.Decides.{nat_tests}
use Rattle.std.proofs.lemmas.Fmt.{IsAscii-decimal}
use Rattle.std.proofs.lemmas.List.Elements.{All-head, All-tail}
use Rattle.std.proofs.lemmas.Str.{is_utf8-from_IsUtf8, IsUtf8-append, IsUtf8-from_ascii, IsUtf8-nil}
use Rattle.json.proofs.Printed.Utf8.{are_ascii, IsUtf8-are_ascii}
use Rattle.serde_json.specs.Data.{Data, depth}
use Rattle.serde_json.specs.Read.{read}
use Rattle.serde_json.specs.View.{items_of}
use Rattle.serde_json.specs.Written.{compact_text, has_float}
use Rattle.ps_time.specs.Calendar.{date_of_day}
use Rattle.ps_time.specs.Length.{clock_part, count_text, length_text_of}
use Rattle.ps_time.specs.Moment.{clock_text, date_text, moment_text_of, two_digits}
use Rattle.ps_time.specs.Name.{is_name, is_name_byte, is_name_start}
use Rattle.ps_time.specs.Numbers.{greatest_length, greatest_moment, most_json_depth}
use Rattle.ps_time.proofs.CalendarLemmas.{date_of_day_digits, HasDigits}
use Rattle.ps_time.proofs.PictureLemmas.{and_true}
use Rattle.ps_json.specs.Answer.{then_with}
use Rattle.ps_json.specs.Tree.{parsed, tree_of}
use Rattle.ps_json.specs.TreeText.{IsTreeText as IsKept, kept_tree}
use Rattle.ps_json.specs.declared.fault.JsonFault.{JsonFault}
use Rattle.ps_json.specs.declared.fault.JsonFault.TheVariants.{TooDeep}
use Rattle.ps_json.proofs.TreeLemmas.{parsed_utf8, tree_text}
use Rattle.plugin_core.specs.Bounds.{IsTest}
use Rattle.plugin_tool.specs.ResultText.{ending, failed, good_result, result_data, slept, streamed, tick, ticked, TicksFit}
use Rattle.plugin_tool.specs.declared.run.Outcome.{Outcome}
use Rattle.plugin_tool.specs.declared.run.Outcome.TheVariants.{Good, NotTaken, Restarted, TimedOut}
use Rattle.plugin_tool.specs.declared.run.Role.{Role}
use Rattle.plugin_tool.specs.declared.run.Role.TheVariants.{Dest, Only, Source}
use Rattle.plugin_tool.specs.declared.run.ToolView.{ToolView}
use Rattle.plugin_core.specs.declared.test_spec.TestSpec.{TestSpec}
use Rattle.plugin_core.specs.declared.test_spec.TestSpec.TheVariants.{Idle, Idlebgm, Idleex, Idlemany, Simplestream}
use Rattle.plugin_tool.proofs.ShapeLemmas.{result_flat, result_whole}
use Rattle.archive_retry.specs.Merge.{IsResult, IsResultText, IsTreeText, merged, participants}
use Rattle.archive_retry.proofs.MergeLemmas.{all_flat, all_mergeable, merged_depth, merged_whole}
use Rattle.host_model.proofs.WrittenTrees.{IsRead, ItemsAreRead, MembersAreRead, read_again, text_utf8, tree_read}

-- ---- trees and texts
-- the compact text of a tree that a reader made may be kept
written_kept : (most : ℕ) (d : Data) → most ≤ 64 → IsRead d → has_float d ≡ false → depth d ≤ most → IsKept most (compact_text d)
written_kept most d low is whole flat = record {
  tree = d;
  reads = tree_text (compact_text d) d (text_utf8 d is whole) (read_again d is whole (omega (arith, low, flat))) (omega (arith, low, flat));
  flat = flat;
  whole = whole;
}

-- what a text is parsed as is read by the grammar
parsed_read : (text : List ℕ) (d : Data) → parsed text ≡ Ok d → read text ≡ Some d
parsed_read text d is =
    let yes : is_utf8 text ≡ true = is_utf8-from_IsUtf8 text (parsed_utf8 text d is) in
    let by = rw yes at is in
    let cases = elim (read text) as (λ o. read text ≡ o → o ≡ Some d) [
      | None ↦ λ no. (let wrong = rw no at by in cc)
      | Some x ↦ λ some. (let same = rw some at by in cc)
    ] in
    cases refl

not_deep : (t : Bool) (fault : JsonFault) (x d : Data) → cond t (Err fault) (Ok x) ≡ Ok d → x ≡ d
not_deep true fault x d e = cc
not_deep false fault x d e = cc

tree_parsed : (text : List ℕ) (d : Data) → tree_of text ≡ Ok d → parsed text ≡ Ok d
tree_parsed text d e = go (parsed text) e
  where
    go : (r : Result Data JsonFault) → then_with r (λ d. if nat_lt most_json_depth (depth d) then Err TooDeep else Ok d) ≡ Ok d → r ≡ Ok d
    go (Ok x) e = ap Ok (not_deep (nat_lt most_json_depth (depth x)) TooDeep x d e)
    go (Err fault) e = cc

-- and so a kept text's tree is one that a reader made
pub kept_read : (text : List ℕ) (d : Data) → tree_of text ≡ Ok d → IsRead d
kept_read text d e = let is = tree_parsed text d e in tree_read text d (parsed_utf8 text d is) (parsed_read text d is)

-- ---- texts of moments and lengths
abbrev IsLow : List ℕ → Type 0
IsLow bs = are_ascii bs ≡ true

low_append : (xs ys : List ℕ) → IsLow xs → IsLow ys → IsLow (xs ++ ys)
low_append [] ys first later = later
low_append (x ∷ xs) ys first later = let both = and_true (nat_lt x 128) (are_ascii xs) first in both_true both.0 (low_append xs ys both.1 later)

low_two : (n : ℕ) → n < 100 → IsLow (two_digits n)
low_two n small = both_true (low (n / 10) (omega arith)) (both_true (low (n % 10) (omega arith)) refl)
  where
    low : (k : ℕ) → k < 10 → nat_lt (48 + k) 128 ≡ true
    low k small = grind (arith, nat_tests)

low_date : (date : ℕ × ℕ × ℕ) → HasDigits date → IsLow (date_text date)
low_date date is =
    let year : List ℕ = two_digits (date.0 / 100) ++ two_digits (date.0 % 100) in
    let first : IsLow year = low_append (two_digits (date.0 / 100)) (two_digits (date.0 % 100)) (low_two (date.0 / 100) (omega (arith, is.year_to))) (low_two (date.0 % 100) (omega arith)) in
    let second : IsLow (year ++ codes "-" ++ two_digits date.1) = low_append (year ++ codes "-") (two_digits date.1) (low_append year (codes "-") first refl) (low_two date.1 is.month_to) in
    low_append (year ++ codes "-" ++ two_digits date.1 ++ codes "-") (two_digits date.2) (low_append (year ++ codes "-" ++ two_digits date.1) (codes "-") second refl) (low_two date.2 is.day_to)

low_clock : (second : ℕ) → second < 86_400 → IsLow (clock_text second)
low_clock second within =
    let hour : List ℕ = two_digits (second / 3_600) in
    let minute : List ℕ = two_digits (second % 3_600 / 60) in
    let first : IsLow (hour ++ codes ":") = low_append hour (codes ":") (low_two (second / 3_600) (omega (arith, within))) refl in
    let both : IsLow (hour ++ codes ":" ++ minute) = low_append (hour ++ codes ":") minute first (low_two (second % 3_600 / 60) (omega arith)) in
    low_append (hour ++ codes ":" ++ minute ++ codes ":") (two_digits (second % 60)) (low_append (hour ++ codes ":" ++ minute) (codes ":") both refl) (low_two (second % 60) (omega arith))

pub moment_utf8 : (m : ℕ) → m ≤ greatest_moment → IsUtf8 (moment_text_of m)
unfolding moment_text_of
moment_utf8 m within =
    let date : List ℕ = date_text (date_of_day (m / 86_400)) in
    let clock : List ℕ = clock_text (m % 86_400) in
    let first : IsLow (date ++ codes "T") = low_append date (codes "T") (low_date (date_of_day (m / 86_400)) (date_of_day_digits (m / 86_400) (omega (arith, within)))) refl in
    let both : IsLow (date ++ codes "T" ++ clock) = low_append (date ++ codes "T") clock first (low_clock (m % 86_400) (omega arith)) in
    IsUtf8-are_ascii (date ++ codes "T" ++ clock ++ codes "Z") (low_append (date ++ codes "T" ++ clock) (codes "Z") both refl)

count_utf8 : (n designator : ℕ) → n < 2 ^ 64 → IsUtf8 (designator ∷ []) → IsUtf8 (count_text n designator)
count_utf8 n designator within mark = go (n == 0)
  where
    go : (t : Bool) → IsUtf8 (cond t [] (decimal n ++ designator ∷ []))
    go true = IsUtf8-nil
    go false = IsUtf8-append (decimal n) (designator ∷ []) (IsUtf8-from_ascii (decimal n) (IsAscii-decimal n within)) mark

clock_utf8 : (second : ℕ) → second < 86_400 → IsUtf8 (clock_part second)
clock_utf8 second within = go (second == 0)
  where
    go : (t : Bool) → IsUtf8 (cond t [] (codes "T" ++ count_text (second / 3_600) 72 ++ count_text (second % 3_600 / 60) 77 ++ count_text (second % 60) 83))
    go true = IsUtf8-nil
    go false =
        IsUtf8-append _ (count_text (second % 60) 83)
        (IsUtf8-append _ (count_text (second % 3_600 / 60) 77) (IsUtf8-append (codes "T") (count_text (second / 3_600) 72) (IsUtf8-are_ascii _ refl) (count_utf8 (second / 3_600) 72 (omega (arith, within)) (IsUtf8-are_ascii _ refl))) (count_utf8 (second % 3_600 / 60) 77 (omega (arith, within)) (IsUtf8-are_ascii _ refl)))
        (count_utf8 (second % 60) 83 (omega arith) (IsUtf8-are_ascii _ refl))

pub length_utf8 : (n : ℕ) → n ≤ greatest_length → IsUtf8 (length_text_of n)
unfolding length_text_of
length_utf8 n within = go (n == 0)
  where
    go : (t : Bool) → IsUtf8 (cond t (codes "PT0S") (codes "P" ++ count_text (n / 86_400) 68 ++ clock_part (n % 86_400)))
    go true = IsUtf8-are_ascii _ refl
    go false =
        IsUtf8-append _ (clock_part (n % 86_400))
        (IsUtf8-append (codes "P") (count_text (n / 86_400) 68) (IsUtf8-are_ascii _ refl) (count_utf8 (n / 86_400) 68 (omega (arith, within)) (IsUtf8-are_ascii _ refl)))
        (clock_utf8 (n % 86_400) (omega arith))

-- ---- the result of a tool
-- the text that a stream sends is UTF-8
abbrev pub IsOfText : TestSpec → Type 0
IsOfText (Simplestream dest material dawdle timeout) = IsUtf8 material
IsOfText test = Unit {0}

ending_read : (good : Bool) → MembersAreRead (ending good)
ending_read good = (IsUtf8-are_ascii _ refl, omega arith, (IsUtf8-are_ascii _ refl, tt, tt))

failed_read : (error : List ℕ) → IsUtf8 error → IsRead (failed error)
failed_read error text = ((IsUtf8-are_ascii _ refl, text, ending_read false), ((refl, (refl, tt)), ((refl, tt), (tt, tt))))

slept_read : (duration : ℕ) → duration ≤ greatest_length → IsRead (slept duration)
slept_read duration short = ((IsUtf8-are_ascii _ refl, length_utf8 duration short, ending_read true), ((refl, (refl, tt)), ((refl, tt), (tt, tt))))

-- each tick is a moment
ticks_read : (at : ℕ → ℕ) (first count : ℕ) → ((i : ℕ) → i < first + count → at i ≤ greatest_moment) → ItemsAreRead (items_of (map (λ i. tick (at i)) (range_with_len first count)))
ticks_read at first zero low = tt
ticks_read at first (suc n) low = (((IsUtf8-are_ascii _ refl, moment_utf8 (at first) (low first (omega arith)), tt), (tt, tt)), ticks_read at (first + 1) n (λ i lt. low i (omega (arith, lt))))

ticked_read : (started duration interval : ℕ) → duration ≤ greatest_length → 1 ≤ interval → started + duration ≤ greatest_moment → IsRead (ticked started duration interval)
ticked_read started duration interval short some fits =
    let low : (i : ℕ) → i < 1 + duration / interval → started + i * interval ≤ greatest_moment = λ i lt.
    (let within : i * interval ≤ duration / interval * interval = mul-le-mul_right interval (omega (arith, lt)) in omega (arith, within, fits, some, div-mul-le_self duration interval)) in (
      (IsUtf8-are_ascii _ refl, length_utf8 duration short, (IsUtf8-are_ascii _ refl, ticks_read (λ i. started + i * interval) 1 (duration / interval) low, ending_read true)),
      ((refl, (refl, (refl, tt))), ((refl, (refl, tt)), ((refl, tt), (tt, tt)))),
    )

streamed_read : (material : List ℕ) (role : Role) → IsUtf8 material → IsRead (streamed material role)
streamed_read material Dest text = ((IsUtf8-are_ascii _ refl, text, ending_read true), ((refl, (refl, tt)), ((refl, tt), (tt, tt))))
streamed_read material Only text = ((IsUtf8-are_ascii _ refl, omega arith, (IsUtf8-are_ascii _ refl, text, (IsUtf8-are_ascii _ refl, tt, tt))), ((refl, (refl, tt)), ((refl, tt), (tt, tt))))
streamed_read material Source text = ((IsUtf8-are_ascii _ refl, omega arith, (IsUtf8-are_ascii _ refl, text, (IsUtf8-are_ascii _ refl, tt, tt))), ((refl, (refl, tt)), ((refl, tt), (tt, tt))))

good_read : (test : TestSpec) (view : ToolView) → IsTest test → IsOfText test → TicksFit test view Good → IsRead (good_result test view)
good_read (Idle sleep) view is text fits = slept_read sleep.duration is.short
good_read (Idleex sleep) view is text fits = slept_read sleep.duration is.short
good_read (Idlebgm sleep i) view is text fits = ticked_read view.started sleep.duration i is.0.short is.1.lasts fits
good_read (Idlemany sleep hosts) view is text fits = slept_read sleep.duration is.0.short
good_read (Simplestream dest material dawdle timeout) view is text fits = streamed_read material view.role text

-- a reader made the result that a tool gives
pub result_read : (test : TestSpec) (view : ToolView) (outcome : Outcome) → IsTest test → IsOfText test → TicksFit test view outcome → IsRead (result_data test view outcome)
result_read test view Good is text fits = good_read test view is text fits
result_read test view TimedOut is text fits = failed_read (codes "timed out") (IsUtf8-are_ascii _ refl)
result_read test view NotTaken is text fits = failed_read (codes "not taken") (IsUtf8-are_ascii _ refl)
result_read test view Restarted is text fits = failed_read (codes "host restarted") (IsUtf8-are_ascii _ refl)

-- the result that a tool gives is a result
pub result_kept : (test : TestSpec) (view : ToolView) (outcome : Outcome) → IsTest test → IsOfText test → TicksFit test view outcome → IsResultText (compact_text (result_data test view outcome))
result_kept test view outcome is text fits =
    written_kept 60 (result_data test view outcome) (omega arith) (result_read test view outcome is text fits) (result_whole test view outcome) (omega (arith, result_flat test view outcome))

-- ---- what is merged
start_low : (x : ℕ) → is_name_start x ≡ true → nat_lt x 128 ≡ true
start_low x e = grind (arith, nat_tests)

byte : (x : ℕ) → is_name_byte x ≡ true → nat_lt x 128 ≡ true
byte x e = grind (arith, nat_tests)

name_low : (bs : List ℕ) → list_all is_name_byte bs ≡ true → IsLow bs
name_low [] all = refl
name_low (x ∷ xs) all = let both = and_true (is_name_byte x) (list_all is_name_byte xs) all in both_true (byte x both.0) (name_low xs both.1)

pub name_utf8 : (bs : List ℕ) → is_name bs ≡ true → IsUtf8 bs
name_utf8 [] named = cc
name_utf8 (x ∷ xs) named =
    let start = and_true (is_name_start x) _ named in
    let rest = and_true (nat_le (length xs) 62) (list_all is_name_byte xs) start.1 in
    IsUtf8-are_ascii (x ∷ xs) (both_true (start_low x start.0) (name_low xs rest.1))

heard_read : (r : Option (List ℕ)) → IsResult r → IsRead (kept_tree r)
heard_read None is = tt
heard_read (Some text) is = rw is.reads (kept_read text is.tree is.reads)

participants_read : (hosts : List (List ℕ)) (results : List (Option (List ℕ))) → list_all is_name hosts ≡ true → All IsResult results → ItemsAreRead (items_of (participants hosts results))
participants_read [] results named are = tt
participants_read (h ∷ hs) [] named are = tt
participants_read (h ∷ hs) (r ∷ rs) named are =
    let both = and_true (is_name h) (list_all is_name hs) named in (
      ((IsUtf8-are_ascii _ refl, name_utf8 h both.0, (IsUtf8-are_ascii _ refl, heard_read r (All-head IsResult r rs are), tt)), ((refl, tt), (tt, tt))),
      participants_read hs rs both.1 (All-tail IsResult r rs are),
    )

-- the results of named hosts, as one, may be kept
pub merged_kept : (hosts : List (List ℕ)) (results : List (Option (List ℕ))) → list_all is_name hosts ≡ true → All IsResult results → IsTreeText (compact_text (merged hosts results))
merged_kept hosts results named are =
    let read : IsRead (merged hosts results) = (
      (IsUtf8-are_ascii _ refl, participants_read hosts results named are, (IsUtf8-are_ascii _ refl, omega arith, (IsUtf8-are_ascii _ refl, tt, tt))),
      ((refl, (refl, tt)), ((refl, tt), (tt, tt))),
    ) in
    written_kept 64 (merged hosts results) (omega arith) read (merged_whole hosts results (all_mergeable results are)) (omega (arith, merged_depth 60 hosts results (all_flat results are)))

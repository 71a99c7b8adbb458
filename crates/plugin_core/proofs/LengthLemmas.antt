-- How many bytes the compact texts of trees and tests have at most.
use Rattle.std.proofs.Common.{◌≡◌, ℕ, ◌+◌, ◌*◌, ◌/◌, ◌%◌, ◌^◌, ◌<◌, ◌≤◌, ◌==◌, if◌then◌else◌, nat_le, nat_lt, List, [], ◌∷◌, ◌++◌, length, map, All, Bool, true, false, cond, Option, Some, None, refl, codes, arith, length-append}
use Rattle.std.proofs.lemmas.Bool.Decides.{nat_tests}
use Rattle.std.proofs.lemmas.Fmt.{length-decimal-le}
use Rattle.std.proofs.lemmas.List.Concat.{flat_map-cons}
use Rattle.std.proofs.lemmas.List.Elements.{All-head, All-tail, All-nil, All-cons}
use Rattle.std.specs.Cmp.Lexicographic.{slice_cmp}
use Rattle.std.specs.Fmt.{decimal}
use Rattle.std.specs.List.{flat_map, list_all}
use Rattle.std.specs.Ordering.{nat_cmp, match_ordering}
use Rattle.std.specs.declared.cmp.Ordering.{Ordering}
use Rattle.std.specs.declared.cmp.Ordering.TheVariants.{Less, Equal, Greater}
use Rattle.json.specs.Print.{escape_letter, escape_byte, escape, quoted}
use Rattle.serde_json.specs.Data.{Data, string, object, Members, no_members, member, put}
use Rattle.serde_json.specs.View.{items_of}
use Rattle.serde_json.specs.Written.{compact_text, comma_if, items_text, members_text}
use Rattle.ps_time.proofs.PictureLemmas.{and_true}
use Rattle.ps_time.specs.Length.{count_text, clock_part, length_text_of}
use Rattle.ps_time.specs.Moment.{moment_text_of}
use Rattle.ps_time.specs.Name.{is_name, is_name_start, is_name_byte}
use Rattle.ps_time.specs.Numbers.{greatest_length}
use Rattle.plugin_core.proofs.BoundLemmas.{hosts_few}
use Rattle.plugin_core.specs.Bounds.{IsTest, IsSleep, IsComment}
use Rattle.plugin_core.specs.Kind.{kind_text, test_kind}
use Rattle.plugin_core.specs.WriteTest.{length_data, names_data, with_comment, sleep_members, spec_members, test_data, most_test_bytes}
use Rattle.plugin_core.specs.declared.test_spec.Sleep.{Sleep}
use Rattle.plugin_core.specs.declared.test_spec.TestSpec.{TestSpec}
use Rattle.plugin_core.specs.declared.test_spec.TestSpec.TheVariants.{Idle, Idleex, Idlebgm, Idlemany, Simplestream}

-- ---- texts

one_of : (a b : Bool) (p q r : List ℕ) → length p ≤ 6 → length q ≤ 6 → length r ≤ 6 → length (cond a p (cond b q r)) ≤ 6
one_of true b p q r hp hq hr = hp
one_of false true p q r hp hq hr = hq
one_of false false p q r hp hq hr = hr

-- a byte is written as at most six
byte_short : (x : ℕ) → length (escape_byte x) ≤ 6
unfolding escape_byte
byte_short x = one_of (nat_lt 0 (escape_letter x)) (nat_lt x 32) _ _ _ (omega arith) (omega arith) (omega arith)

escape_short : (bs : List ℕ) → length (escape bs) ≤ 6 * length bs
escape_short [] = omega arith
escape_short (x ∷ xs) = rw (flat_map-cons escape_byte x xs, length-append (escape_byte x) (flat_map escape_byte xs)) (omega (arith, byte_short x, escape_short xs))

pub quoted_short : (bs : List ℕ) → length (quoted bs) ≤ 6 * length bs + 2
quoted_short bs = omega (arith, length-append (escape bs) (34 ∷ []), escape_short bs)

pub text_short : (bs : List ℕ) → length (compact_text (string bs)) ≤ 6 * length bs + 2
text_short bs = quoted_short bs

comma_short : (later : Bool) → length (comma_if later) ≤ 1
comma_short true = omega arith
comma_short false = omega arith

-- ---- lists

-- each item has at most so many bytes
pub items_short : {X : Type 0} (P : X → Type 0) (write : X → Data) (most : ℕ) → ((x : X) → P x → length (compact_text (write x)) ≤ most) → (xs : List X) (later : Bool) → All P xs
    → length (items_text later (items_of (map write xs))) ≤ 1 + length xs * (most + 1)
items_short P write most each [] later are = omega arith
items_short P write most each (x ∷ xs) later are =
    let rest = items_short P write most each xs true (All-tail P x xs are) in
    let first = each x (All-head P x xs are) in
    omega (arith, first, rest, comma_short later, length-append (comma_if later) (compact_text (write x) ++ items_text true (items_of (map write xs))), length-append (compact_text (write x)) (items_text true (items_of (map write xs))))

-- ---- objects

-- a member that comes first
pub member_short : (k : List ℕ) (d : Data) (ms : Members) (later : Bool)
    → length (members_text later (member k d ms)) ≤ length (members_text true ms) + (6 * length k + (4 + length (compact_text d)))
member_short k d ms later =
    omega (arith, comma_short later, quoted_short k, length-append (comma_if later) (quoted k ++ 58 ∷ (compact_text d ++ members_text true ms)), length-append (quoted k) (58 ∷ (compact_text d ++ members_text true ms)), length-append (compact_text d) (members_text true ms))

member_size : (k : List ℕ) (d : Data) (ms : Members) (later : Bool)
    → length (members_text later (member k d ms)) ≡ length (comma_if later) + (length (quoted k) + (1 + (length (compact_text d) + length (members_text true ms))))
member_size k d ms later =
    omega (arith, length-append (comma_if later) (quoted k ++ 58 ∷ (compact_text d ++ members_text true ms)), length-append (quoted k) (58 ∷ (compact_text d ++ members_text true ms)), length-append (compact_text d) (members_text true ms))

-- where a member is put, by the order of its name and that of the first
placed : (k : List ℕ) (d : Data) (l : List ℕ) (e : Data) (ms : Members) (later : Bool) (o : Ordering)
    → length (members_text true (put k d ms)) ≤ length (members_text true ms) + (6 * length k + (4 + length (compact_text d)))
    → length (members_text later (match_ordering o (member k d (member l e ms)) (member l d ms) (member l e (put k d ms)))) ≤ length (members_text later (member l e ms)) + (6 * length k + (4 + length (compact_text d)))
placed k d l e ms later Less rest =
    omega (arith, quoted_short k, member_size k d (member l e ms) later, member_size l e ms later, member_size l e ms true)
placed k d l e ms later Equal rest = omega (arith, member_size l d ms later, member_size l e ms later)
placed k d l e ms later Greater rest = omega (arith, rest, member_size l e (put k d ms) later, member_size l e ms later)

-- a member that is put among others
pub put_short : (k : List ℕ) (d : Data) (ms : Members) (later : Bool)
    → length (members_text later (put k d ms)) ≤ length (members_text later ms) + (6 * length k + (4 + length (compact_text d)))
put_short k d no_members later = omega (arith, member_short k d no_members later)
put_short k d (member l e ms) later = placed k d l e ms later (slice_cmp nat_cmp k l) (put_short k d ms true)

-- ---- lengths and moments

count_short : (k n designator : ℕ) → 0 < k → n < 10 ^ k → n < 2 ^ 64 → length (count_text n designator) ≤ k + 1
count_short k n designator some few small = by_test (n == 0)
  where
    by_test : (b : Bool) → length (if b then [] else decimal n ++ designator ∷ []) ≤ k + 1
    by_test true = omega arith
    by_test false = omega (arith, length-append (decimal n) (designator ∷ []), length-decimal-le k n some few small)

clock_short : (second : ℕ) → second < 86_400 → length (clock_part second) ≤ 10
clock_short second small = by_test (second == 0)
  where
    hours : List ℕ
    hours = count_text (second / 3_600) 72

    minutes : List ℕ
    minutes = count_text (second % 3_600 / 60) 77

    seconds : List ℕ
    seconds = count_text (second % 60) 83

    by_test : (b : Bool) → length (if b then [] else codes "T" ++ hours ++ minutes ++ seconds) ≤ 10
    by_test true = omega arith
    by_test false =
        omega (
          arith,
          length-append (codes "T" ++ hours ++ minutes) seconds,
          length-append (codes "T" ++ hours) minutes,
          length-append (codes "T") hours,
          count_short 2 (second / 3_600) 72 (omega arith) (omega arith) (omega arith),
          count_short 2 (second % 3_600 / 60) 77 (omega arith) (omega arith) (omega arith),
          count_short 2 (second % 60) 83 (omega arith) (omega arith) (omega arith),
        )

length_text_short : (n : ℕ) → n ≤ greatest_length → length (length_text_of n) ≤ 16
unfolding length_text_of
length_text_short n within = by_test (n == 0)
  where
    days : List ℕ
    days = count_text (n / 86_400) 68

    by_test : (b : Bool) → length (if b then codes "PT0S" else codes "P" ++ days ++ clock_part (n % 86_400)) ≤ 16
    by_test true = omega arith
    by_test false =
        omega (
          arith,
          length-append (codes "P" ++ days) (clock_part (n % 86_400)),
          length-append (codes "P") days,
          count_short 4 (n / 86_400) 68 (omega arith) (omega arith) (omega arith),
          clock_short (n % 86_400) (omega arith),
        )

moment_text_short : (m : ℕ) → length (moment_text_of m) ≡ 20
unfolding moment_text_of
moment_text_short m = refl

pub length_short : (n : ℕ) → n ≤ greatest_length → length (compact_text (length_data n)) ≤ 98
length_short n within = omega (arith, quoted_short (length_text_of n), length_text_short n within)

pub moment_short : (m : ℕ) → length (compact_text (string (moment_text_of m))) ≤ 122
moment_short m = omega (arith, quoted_short (moment_text_of m), moment_text_short m)

-- ---- tests

name_length : (bs : List ℕ) → is_name bs ≡ true → length bs ≤ 63
name_length [] is = omega arith
name_length (c ∷ cs) is =
    let count = (and_true (nat_le (length cs) 62) (list_all is_name_byte cs) (and_true (is_name_start c) _ is).1).0 in grind (arith, nat_tests)

name_short : (bs : List ℕ) → is_name bs ≡ true → length (compact_text (string bs)) ≤ 380
name_short bs is = omega (arith, quoted_short bs, name_length bs is)

all_names : (names : List (List ℕ)) → list_all is_name names ≡ true → All (λ name. is_name name ≡ true) names
all_names [] are = All-nil (λ name. is_name name ≡ true)
all_names (x ∷ xs) are =
    let each = and_true (is_name x) (list_all is_name xs) are in All-cons (λ name. is_name name ≡ true) x xs each.0 (all_names xs each.1)

hosts_short : (names : List (List ℕ)) → list_all is_name names ≡ true → length names ≤ 8 → length (compact_text (names_data names)) ≤ 3_050
hosts_short names are few = omega (arith, few, items_short (λ name. is_name name ≡ true) string 380 name_short names false (all_names names are))

comment_short : (name : List ℕ) (comment : Option (List ℕ)) (ms : Members) → IsComment comment
    → length (members_text false (with_comment name comment ms)) ≤ length (members_text false ms) + (6 * length name + 6_150)
comment_short name None ms is = omega arith
comment_short name (Some bs) ms is = omega (arith, put_short name (string bs) ms false, quoted_short bs, is)

sleep_short : (z : Sleep) → IsSleep z → length (members_text false (sleep_members z)) ≤ 12_700
sleep_short z is =
    omega (
      arith,
      comment_short (codes "starting-comment") z.starting_comment (with_comment (codes "parting-comment") z.parting_comment (member (codes "duration") (length_data z.duration) no_members)) is.starting,
      comment_short (codes "parting-comment") z.parting_comment (member (codes "duration") (length_data z.duration) no_members) is.parting,
      member_short (codes "duration") (length_data z.duration) no_members false,
      length_short z.duration is.short,
    )

stream_short : (to m : List ℕ) (w t : ℕ) → is_name to ≡ true → length m ≤ 8_192 → w ≤ greatest_length → t ≤ greatest_length
    → length (members_text false (spec_members (Simplestream to m w t))) ≤ 50_000
stream_short to m w t name short hw ht =
    omega (
      arith,
      quoted_short m,
      name_short to name,
      length_short w hw,
      length_short t ht,
      member_short (codes "dawdle") (length_data w) (member (codes "dest") (string to) (member (codes "test-material") (string m) (member (codes "timeout") (length_data t) no_members))) false,
      member_short (codes "dest") (string to) (member (codes "test-material") (string m) (member (codes "timeout") (length_data t) no_members)) true,
      member_short (codes "test-material") (string m) (member (codes "timeout") (length_data t) no_members) true,
      member_short (codes "timeout") (length_data t) no_members true,
    )

spec_short : (test : TestSpec) → IsTest test → length (members_text false (spec_members test)) ≤ 50_000
spec_short (Idle z) is = omega (arith, sleep_short z is)
spec_short (Idleex z) is = omega (arith, sleep_short z is)
spec_short (Idlebgm z i) is =
    omega (arith, put_short (codes "interval") (length_data i) (sleep_members z) false, length_short i (omega (arith, is.0.short, is.1.within)), sleep_short z is.0)
spec_short (Idlemany z h) is =
    omega (arith, put_short (codes "hosts") (names_data h) (sleep_members z) false, hosts_short h is.1.names (hosts_few h is.1.differ).1, sleep_short z is.0)
spec_short (Simplestream to m w t) is =
    stream_short to m w t is.dest is.material (omega (arith, is.short)) (omega (arith, is.short))

kind_short : (test : TestSpec) → length (kind_text (test_kind test)) ≤ 12
kind_short (Idle z) = omega arith
kind_short (Idleex z) = omega arith
kind_short (Idlebgm z i) = omega arith
kind_short (Idlemany z h) = omega arith
kind_short (Simplestream to m w t) = omega arith

pub test_short : (test : TestSpec) → IsTest test → length (compact_text (test_data test)) ≤ most_test_bytes
test_short test is =
    omega (
      arith,
      spec_short test is,
      kind_short test,
      quoted_short (kind_text (test_kind test)),
      member_short (codes "spec") (object (spec_members test)) (member (codes "type") (string (kind_text (test_kind test))) no_members) false,
      member_short (codes "type") (string (kind_text (test_kind test))) no_members true,
    )

-- The test for bytes that end inside a target.
use Rattle.std.proofs.Common.{◌≡◌, ◌<◌, ◌==◌, ℕ, Bool, true, false, List, [], ◌∷◌, ◌++◌, length, take, drop, nat_lt, refl, sym, ap, ◌∙◌, arith, append_assoc}
use Rattle.std.specs.Prelude.{IsTrue}
use Rattle.std.specs.List.{list_all, prefix_len}
use Rattle.std.proofs.lemmas.Bool.{false≢true, and_parts, and_from, eqb-true, ltb-true, lt-ltb}
use Rattle.std.proofs.lemmas.Bool.Decides.{nat_tests}
use Rattle.std.proofs.lemmas.List.{take-append-drop, get_or-take, length-take, length-drop, drop_at}
use Rattle.std.proofs.lemmas.List.Elements.{All-head, All-tail}
use Rattle.std.proofs.lemmas.List.Sums.{prefix_len_passes, AllPass-from_list_all, list_all-from_AllPass}
use Rattle.httparse.specs.Grammar.{AllPass, LineEnd, crlf, lf, print_blank, is_token_byte, is_uri_byte, EndsInTarget}
use Rattle.httparse.proofs.PieceLemmas.{token_is_no_newline, space_ends_token}
use Rattle.httparse.specs.Pieces.{is_newline}
use Rattle.ps_http.specs.Target.{skip_empty, is_behind_method, is_line, in_target}

-- ---- what passes ends in a target

-- the empty lines that were skipped
skipped : (bytes : List ℕ) → (ends : List LineEnd) × (bytes ≡ print_blank ends ++ skip_empty bytes)
skipped [] = ([], refl)
skipped (a ∷ []) = by_feed (a == 10) refl
  where
    by_feed : (t : Bool) → (a == 10) ≡ t → (ends : List LineEnd) × (a ∷ [] ≡ print_blank ends ++ skip_empty (a ∷ []))
    by_feed true feed = (lf ∷ [], rw feed (ap (λ b. b ∷ []) (eqb-true a 10 feed)))
    by_feed false other = ([], rw other refl)
skipped (a ∷ b ∷ bytes) = by_bytes (skipped (b ∷ bytes)) (skipped bytes) (a == 10) (a == 13) (b == 10) refl refl refl
  where
    Goal : Type 0
    Goal = (ends : List LineEnd) × (a ∷ b ∷ bytes ≡ print_blank ends ++ skip_empty (a ∷ b ∷ bytes))

    by_bytes : (ends : List LineEnd) × (b ∷ bytes ≡ print_blank ends ++ skip_empty (b ∷ bytes)) → (ends : List LineEnd) × (bytes ≡ print_blank ends ++ skip_empty bytes)
        → (t u v : Bool) → (a == 10) ≡ t → (a == 13) ≡ u → (b == 10) ≡ v → Goal
    by_bytes one two true u v feed _ _ = (lf ∷ one.0, rw feed (ap (λ c. c ∷ b ∷ bytes) (eqb-true a 10 feed) ∙ ap (λ l. 10 ∷ l) one.1))
    by_bytes one two false true true other cr feed = (crlf ∷ two.0, rw (other, cr, feed) ((λ i. eqb-true a 13 cr i ∷ eqb-true b 10 feed i ∷ bytes) ∙ ap (λ l. 13 ∷ 10 ∷ l) two.1))
    by_bytes one two false true false other cr no_feed = ([], rw (other, cr, no_feed) refl)
    by_bytes one two false false v other no_cr _ = ([], rw (other, no_cr) refl)

method_passes : (line : List ℕ) → AllPass is_token_byte (take (prefix_len is_token_byte line) line)
method_passes line k d low =
    let n = prefix_len is_token_byte line in
    let inside : k < n = omega (arith, low, length-take n line) in
    ap is_token_byte (get_or-take n line k d inside) ∙ prefix_len_passes is_token_byte line k d inside

target_behind : (bytes : List ℕ) → is_behind_method bytes ≡ true → (target : List ℕ) × AllPass is_uri_byte target × (bytes ≡ 32 ∷ target)
target_behind [] passes = absurd (grind (arith, passes))
target_behind (b ∷ target) passes =
    let parts = and_parts (b == 32) (list_all is_uri_byte target) passes in
    (target, AllPass-from_list_all is_uri_byte target parts.1, ap (λ c. c ∷ target) (eqb-true b 32 parts.0))

pub in_target_ends : (bytes : List ℕ) → in_target bytes ≡ true → EndsInTarget bytes
in_target_ends bytes passes =
    let line = skip_empty bytes in
    let n = prefix_len is_token_byte line in
    let blank = skipped bytes in
    let parts = and_parts (nat_lt 0 n) (is_behind_method (drop n line)) passes in
    let target = target_behind (drop n line) parts.1 in
    let some : 0 < n = ltb-true 0 n parts.0 in
    let fits : 0 < length (take n line) = omega (arith, some, length-take n line, length-drop n line, ap length target.2) in
    let split = blank.1 ∙ ap (λ l. print_blank blank.0 ++ l) (sym (take-append-drop n line) ∙ ap (λ l. take n line ++ l) target.2)
    ∙ sym (append_assoc (print_blank blank.0) (take n line) (32 ∷ target.0)) in
    (blank.0, take n line, target.0, (fits, method_passes line), target.1, split)

-- ---- and what ends in a target passes

skip_feed : (bytes : List ℕ) → skip_empty (10 ∷ bytes) ≡ skip_empty bytes
skip_feed [] = refl
skip_feed (b ∷ bytes) = refl

skip_none : (b : ℕ) (bytes : List ℕ) → is_newline b ≡ false → skip_empty (b ∷ bytes) ≡ b ∷ bytes
skip_none b [] plain = let e : (b == 10) ≡ false = grind (arith, nat_tests, plain) in rw e refl
skip_none b (c ∷ bytes) plain =
    let e : (b == 10) ≡ false = grind (arith, nat_tests, plain) in
    let d : (b == 13) ≡ false = grind (arith, nat_tests, plain) in
    rw (e, d) refl

skip_blank : (ends : List LineEnd) (b : ℕ) (bytes : List ℕ) → is_newline b ≡ false → skip_empty (print_blank ends ++ b ∷ bytes) ≡ b ∷ bytes
skip_blank [] b bytes plain = skip_none b bytes plain
skip_blank (crlf ∷ ends) b bytes plain = skip_blank ends b bytes plain
skip_blank (lf ∷ ends) b bytes plain = skip_feed (print_blank ends ++ b ∷ bytes) ∙ skip_blank ends b bytes plain

token_run : (method rest : List ℕ) → AllPass is_token_byte method → prefix_len is_token_byte (method ++ 32 ∷ rest) ≡ length method
token_run [] rest pass = rw space_ends_token refl
token_run (b ∷ method) rest pass =
    let P : ℕ → Type 0 = λ x. IsTrue (is_token_byte x) in
    let here : is_token_byte b ≡ true = All-head P b method pass in
    rw (here, token_run method rest (All-tail P b method pass)) (grind arith)

line_passes : (method target : List ℕ) → 0 < length method → AllPass is_token_byte method → AllPass is_uri_byte target → is_line (method ++ 32 ∷ target) ≡ true
line_passes method target some token uri =
    let run = token_run method target token in
    let behind = drop_at method (32 ∷ target) (length method) refl in
    and_from _ _ (lt-ltb 0 (prefix_len is_token_byte (method ++ 32 ∷ target)) (omega (arith, run, some)))
    (ap (λ n. is_behind_method (drop n (method ++ 32 ∷ target))) run ∙ ap is_behind_method behind ∙ list_all-from_AllPass is_uri_byte target uri)

pub ends_in_target : (bytes : List ℕ) → EndsInTarget bytes → in_target bytes ≡ true
ends_in_target bytes (blank, [], target, token, uri, is) = absurd (omega (arith, token.0))
ends_in_target bytes (blank, b ∷ method, target, token, uri, is) =
    let P : ℕ → Type 0 = λ x. IsTrue (is_token_byte x) in
    let plain = token_is_no_newline b (All-head P b method token.1) in
    let line = ap skip_empty (is ∙ append_assoc (print_blank blank) (b ∷ method) (32 ∷ target)) ∙ skip_blank blank b (method ++ 32 ∷ target) plain in
    ap is_line line ∙ line_passes (b ∷ method) target token.0 token.1 uri

pub not_in_target : (bytes : List ℕ) → in_target bytes ≡ false → ¬ (EndsInTarget bytes)
not_in_target bytes fails target = false≢true (sym fails ∙ ends_in_target bytes target)

use Rattle.std.proofs.Common.{rules, ◌≡◌, [], map, codes, string_bytes, refl, sym, ap, ap₂, subst, ◌∙◌, true, inl, inr}
use Rattle.clap.specs.Walk.{first_of, rule_of}
use Rattle.clap.specs.Simple.{app_of, app_of_fields, on_top, with_rule, is_simple, matches_of}
use Rattle.clap.specs.Faults.{fault_of, is_simple_and_free}
use Rattle.clap.specs.Kinds.{HasKind}
use Rattle.clap.specs.Matches.{found_of}
use Rattle.clap.proofs.WalkLemmas.{first_value-rows}
use Rattle.clap.proofs.OnLiterals.{clap_on_literals}
use Rattle.psched_top.specs.Words.{count_rule, generate_app, plain_app}
use Rattle.psched_top.proofs.CommandLemmas.{word_right, word_wrong}
use Rattle.psched_top.proofs.words.count_word.Goals as goal

is_free : is_simple_and_free generate_app ≡ true
unfolding clap_on_literals
is_free = refl

simple : is_simple generate_app ≡ true
unfolding clap_on_literals
simple = refl

pub returns-in-Ok-try_get_matches_from : goal.returns-in-Ok-try_get_matches_from
returns-in-Ok-try_get_matches_from c =
    let count_is : rule_of c.required-count.result ≡ count_rule = search rules in
    let plain_is : app_of c.disable_help_flag-plain.result ≡ plain_app =
    ap app_of_fields c.disable_help_flag-plain.ensures ∙ ap (on_top (λ s. record s { disable_help_flag = true })) c.new-2.ensures.app in
    let app_is : app_of c.in-Ok.command ≡ generate_app = c.in-Ok.ensures.shape (search rules) ∙ ap₂ with_rule plain_is count_is in
    let parse = c.in-Ok-try_get_matches_from.ensures in
    let words = map string_bytes c.args.words.now in
    let kinds = parse.kinds (ap is_simple_and_free app_is ∙ is_free) in
    let rows = (parse.matches (ap is_simple app_is ∙ simple)).0 in
    c.get_str.ensures ∙ first_value-rows (found_of c.in-Ok-try_get_matches_from.matches) (codes "count") ∙ ap (first_of (codes "count")) (rows ∙ ap (λ a. matches_of a words) app_is)
    ∙ sym (word_right words (sym (ap (λ a. fault_of a words) app_is) ∙ kinds))

pub returns : goal.returns
returns c =
    let count_is : rule_of c.required-count.result ≡ count_rule = search rules in
    let plain_is : app_of c.disable_help_flag-plain.result ≡ plain_app =
    ap app_of_fields c.disable_help_flag-plain.ensures ∙ ap (on_top (λ s. record s { disable_help_flag = true })) c.new-2.ensures.app in
    let app_is : app_of c.in-Ok.command ≡ generate_app = c.in-Ok.ensures.shape (search rules) ∙ ap₂ with_rule plain_is count_is in
    let words = map string_bytes c.args.words.now in
    let kinds = c.in-Err.ensures.kinds (ap is_simple_and_free app_is ∙ is_free) in
    word_wrong words (λ none.
    let among : HasKind [] c.in-Err.error = subst (λ k. HasKind k c.in-Err.error) (ap (λ a. fault_of a words) app_is ∙ none) kinds in
    elim among [
      | inl memory ↦ c.in_default-kind.not-OutOfMemory (c.kind.ensures ∙ memory)
      | inr never ↦ never
    ])

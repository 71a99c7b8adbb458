use Rattle.std.proofs.Common.{◌≡◌, ◌||◌, ◌∙◌, Bool, Some, None, ap, inl, map, rules, string_bytes, subst, sym, ℕ}
use Rattle.psched_top.specs.declared.command.Command.TheVariants.{Generate, Help, Version}
use Rattle.psched_top.specs.Command.{asked, takes_input}
use Rattle.psched_top.specs.Outcome.{outcome_of}
use Rattle.std.proofs.lemmas.Result.{IfOk-weaker}
use Rattle.psched_top.specs.Psched.{IsGenerated}
use Rattle.psched_top.proofs.CommandLemmas.{few_posts, generate_word, same_count}
use Rattle.psched_top.proofs.OutcomeLemmas.{given_unread}
use Rattle.psched_top.proofs.psched.run.Goals as goal

pub returns-in-Some-Rehearse-clause-rehearsed : goal.returns-in-Some-Rehearse-clause-rehearsed
returns-in-Some-Rehearse-clause-rehearsed g c =
    IfOk-weaker c.rehearse_source.result _ _ (λ outcome done zero _. done zero) c.rehearse_source.ensures.rehearsed

pub returns-in-Some-ValidateLimits-clause-validated : goal.returns-in-Some-ValidateLimits-clause-validated
returns-in-Some-ValidateLimits-clause-validated g c =
    IfOk-weaker c.validate_source.result _ _ (λ outcome done zero _. done zero) c.validate_source.ensures.validated

pub returns-in-Some-Help-clause-comes : goal.returns-in-Some-Help-clause-comes
returns-in-Some-Help-clause-comes g c =
    let is : asked c.args.words.now ≡ Some Help = search rules in
    inl (given_unread _ _ _ _ (λ input. ap (λ command. outcome_of (g.A.Archivers.comes c.args.archivers.now) command input) (sym is)))

pub returns-in-Some-Version-clause-comes : goal.returns-in-Some-Version-clause-comes
returns-in-Some-Version-clause-comes g c =
    let is : asked c.args.words.now ≡ Some Version = search rules in
    inl (given_unread _ _ _ _ (λ input. ap (λ command. outcome_of (g.A.Archivers.comes c.args.archivers.now) command input) (sym is)))

pub returns-in-None-clause-comes : goal.returns-in-None-clause-comes
returns-in-None-clause-comes g c =
    let is : asked c.args.words.now ≡ None = search rules in
    inl (given_unread _ _ _ _ (λ input. ap (λ command. outcome_of (g.A.Archivers.comes c.args.archivers.now) command input) (sym is)))

pub generate_count-requires : goal.generate_count-requires
generate_count-requires g c =
    let is : asked c.args.words.now ≡ Some (Generate c.in-Some-Generate.count) = search rules in
    few_posts (map string_bytes c.args.words.now) c.in-Some-Generate.count is

pub returns-in-Some-Generate-clause-comes : goal.returns-in-Some-Generate-clause-comes
returns-in-Some-Generate-clause-comes g c =
    let is : asked c.args.words.now ≡ Some (Generate c.in-Some-Generate.count) = search rules in
    IfOk-weaker c.generate_count.result _ _ (λ outcome done. inl (given_unread _ _ _ _ (λ input. done.1 ∙ ap (λ command. outcome_of (g.A.Archivers.comes c.args.archivers.now) command input) (sym is)))) c.generate_count.ensures

pub returns-in-Some-Generate-clause-generated : goal.returns-in-Some-Generate-clause-generated
returns-in-Some-Generate-clause-generated g c =
    let is : asked c.args.words.now ≡ Some (Generate c.in-Some-Generate.count) = search rules in
    IfOk-weaker c.generate_count.result _ _ (λ outcome done count also. subst (λ (n : ℕ). IsGenerated n outcome) (same_count (asked c.args.words.now) c.in-Some-Generate.count count is also) done) c.generate_count.ensures

pub returns-in-Some-Generate-clause-memory : goal.returns-in-Some-Generate-clause-memory
returns-in-Some-Generate-clause-memory g c = λ failed.
    let is : asked c.args.words.now ≡ Some (Generate c.in-Some-Generate.count) = search rules in
    ap (λ (b : Bool). b || takes_input (asked c.args.words.now)) (generate_word (map string_bytes c.args.words.now) c.in-Some-Generate.count is)

use Rattle.std.specs.Option.{option_copied}
use Rattle.std.proofs.Common.{◌∙◌, sym}
use Rattle.host_queries.proofs.DueLemmas.{few_found, first_behind, first_of_key, none_left}
use Rattle.host_queries.proofs.archives.first_of_keys.Goals as goal

pub first_found-requires : goal.first_found-requires
first_found-requires c = few_found c.args.rows.now.list _ (option_copied c.find.result) (sym c.find.ensures) c.requires

pub returns-in-Some-first_found : goal.returns-in-Some-first_found
returns-in-Some-first_found c =
    sym (c.loop-key.invariant ∙ first_of_key c.args.moment c.args.rows.now.list c.loop-key.key-iterator c.next.new.self _ c.in-Some.ensures.steps (option_copied c.find.result) c.find.ensures c.in-Some-first_found.first (sym c.first_found.ensures ∙ c.in-Some-first_found.is))

pub loop-key-preserved : goal.loop-key-preserved
loop-key-preserved c =
    c.loop-key.invariant ∙ first_behind c.args.moment c.args.rows.now.list c.loop-key.key-iterator c.next.new.self _ c.in-Some.ensures.steps (option_copied c.find.result) c.find.ensures (sym c.first_found.ensures ∙ c.in_default.is)

pub returns : goal.returns
returns c = sym (c.loop-key.invariant ∙ none_left c.args.moment c.args.rows.now.list c.loop-key.key-iterator c.in-None.ensures.steps.0)

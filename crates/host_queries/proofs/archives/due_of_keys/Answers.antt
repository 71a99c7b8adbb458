use Rattle.std.specs.Option.{option_copied}
use Rattle.std.proofs.Common.{◌∙◌, sym}
use Rattle.host_queries.proofs.DueLemmas.{few_found, last_key, next_key}
use Rattle.host_queries.proofs.archives.due_of_keys.Goals as goal

pub add_found-requires : goal.add_found-requires
add_found-requires c = few_found c.args.rows.now.list _ (option_copied c.find.result) (sym c.find.ensures) c.requires

pub loop-key-preserved : goal.loop-key-preserved
loop-key-preserved c =
    c.loop-key.invariant ∙ next_key c.args.moment c.args.rows.now.list c.loop-key.key-iterator c.next.new.self _ c.in-Some.ensures.steps (option_copied c.find.result) c.find.ensures c.loop-key.due c.add_found.new.due c.in_ok-add_found.ensures

pub returns : goal.returns
returns c = sym (c.loop-key.invariant ∙ last_key c.args.moment c.args.rows.now.list c.loop-key.key-iterator c.loop-key.due c.in-None.ensures.steps.0)

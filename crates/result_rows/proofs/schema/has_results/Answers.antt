use Rattle.std.proofs.Common.{rules}
use Rattle.result_rows.proofs.OpenLemmas.{is_schema}
use Rattle.result_rows.proofs.schema.has_results.Goals as goal

pub returns-then-are_key_index : goal.returns-then-are_key_index
returns-then-are_key_index c none = is_schema c.args.schema.now (search rules) (search rules) (search rules)

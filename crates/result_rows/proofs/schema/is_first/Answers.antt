use Rattle.std.proofs.Common.{◌≡◌, ◌∷◌, [], rules}
use Rattle.result_rows.proofs.OpenLemmas.{one_key}
use Rattle.result_rows.proofs.schema.is_first.Goals as goal

pub returns-in-len1 : goal.returns-in-len1
returns-in-len1 c so =
    let same : c.as_slice.result.now ≡ 1 ∷ [] = search rules in
    one_key c.args.keys.now c.key-item.result c.in-len1.len_at_least c.in-len1.len_below c.key-item.is (search rules)

use Rattle.std.proofs.Common.{◌≡◌, ◌<◌, ◌≤◌, length, get_or, rules, subst}
use Rattle.std.proofs.lemmas.List.Elements.{All-push}
use Rattle.result_rows.specs.Rows.{IsRowOf}
use Rattle.result_table.specs.Record.{HasMoments}
use Rattle.result_keeper.proofs.RowLemmas.{rows_more, rows_end}
use Rattle.result_keeper.proofs.row.read_rows.Goals as goal

pub loop-row-preserved : goal.loop-row-preserved
loop-row-preserved c =
    let rows = c.args.rows.now in
    let row = c.row-item.result in
    let kept = c.in-Some.kept in
    let found = c.loop-row.records.items in
    let within : c.loop-row.row-index < length c.args.rows.now = search rules in
    let is : c.row-item.result ≡ get_or c.args.rows.now c.loop-row.row-index c.row-item.result = search rules in
    let of_row : IsRowOf c.row-item.result c.in-Some.kept = rw c.in-Some.is at c.in_ok-kept.ensures.row in
    let bound : HasMoments c.in-Some.kept = rw c.in-Some.is at c.in_ok-kept.ensures.moments in
    record {
      rows = rw c.in_ok-push.ensures.items (rows_more rows c.loop-row.row-index row found kept within (subst (λ x. IsRowOf x kept) is of_row) c.loop-row.invariant.rows);
      moments = rw c.in_ok-push.ensures.items (All-push HasMoments found kept c.loop-row.invariant.moments bound);
    }

pub returns-clause-rows : goal.returns-clause-rows
returns-clause-rows c =
    let over : length c.args.rows.now ≤ c.loop-row.row-index = search rules in
    rows_end c.args.rows.now c.loop-row.row-index c.loop-row.records.items over c.loop-row.invariant.rows

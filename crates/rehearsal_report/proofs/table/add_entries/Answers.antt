use Rattle.std.proofs.Common.{◌≡◌, ◌++◌, ◌+◌, [], ◌∷◌, flat_map, take, sym, ap, ◌∙◌}
use Rattle.std.proofs.lemmas.List.{flat_map_more, take_more}
use Rattle.rehearsal_report.specs.Table.{entry_line}
use Rattle.rehearsal_report.proofs.table.add_entries.Goals as goal

-- one more line is written
pub loop-entry-preserved : goal.loop-entry-preserved
loop-entry-preserved c =
    let line = entry_line c.args.name.now in
    let entries = c.args.entries.now in
    let i = c.loop-entry.entry-index in
    let item = c.entry-item.result in
    let more : take (i + 1) entries ≡ take i entries ++ item ∷ [] = take_more entries i item c.loop-entry-test.true ∙ ap (λ x. take i entries ++ x ∷ []) (sym c.entry-item.is) in
    c.in_ok-add_entry.ensures
    ∙ ap (λ l. l ++ line item) c.loop-entry.invariant
    ∙ flat_map_more line c.args.report.now (take i entries) item
    ∙ ap (λ l. c.args.report.now ++ flat_map line l) (sym more)

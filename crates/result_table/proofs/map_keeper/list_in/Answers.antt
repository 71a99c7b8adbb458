use Rattle.std.proofs.Common.{◌≡◌, IfOk, take, ap, sym, subst, ◌∙◌}
use Rattle.result_table.specs.MapKeeper.{records_of}
use Rattle.result_table.specs.Record.{above}
use Rattle.result_table.proofs.MapKeeperLemmas.{above_key, all_between}
use Rattle.result_table.proofs.map_keeper.list_in.Goals as goal

pub returns-in-Some : goal.returns-in-Some
returns-in-Some c =
    let entries = c.args.records.now.entries in
    let same : records_of c.range.result ≡ above c.args.after (records_of entries) =
    ap records_of (c.range.ensures.between tt) ∙ (above_key entries c.in-Some.key ∙ sym (ap (λ a. above a (records_of entries)) c.in-Some.is)) in
    subst (λ xs. IfOk c.take_records.result (λ found. found.items ≡ take c.args.count xs)) same c.take_records.ensures

pub returns-in-None : goal.returns-in-None
returns-in-None c =
    let entries = c.args.records.now.entries in
    let same : records_of c.range-in-None.result ≡ above c.args.after (records_of entries) =
    ap records_of (c.range-in-None.ensures.between tt ∙ all_between entries) ∙ sym (ap (λ a. above a (records_of entries)) c.in-None.is) in
    subst (λ xs. IfOk c.take_records-in-None.result (λ found. found.items ≡ take c.args.count xs)) same c.take_records-in-None.ensures

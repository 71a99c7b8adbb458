use Rattle.result_table.proofs.MapKeeperLemmas.{records_put}
use Rattle.result_table.proofs.map_keeper.put_in.Goals as goal

pub returns-clause-ok : goal.returns-clause-ok
returns-clause-ok c =
    rw (c.in_ok-insert.ensures.entries, c.in_ok-good.ensures, c.in_ok-body.ensures)
    (records_put c.args.records.now.entries c.args.key c.args.moment c.since_of-since.result c.args.body.now c.insert.ensures.was_ordered c.since_of-since.ensures)

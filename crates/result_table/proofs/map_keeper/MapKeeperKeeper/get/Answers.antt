use Rattle.result_table.specs.MapKeeper.{records_of}
use Rattle.result_table.proofs.MapKeeperLemmas.{found_bound}
use Rattle.result_table.proofs.map_keeper.MapKeeperKeeper.get.Goals as goal

pub returns-clause-bound : goal.returns-clause-bound
returns-clause-bound c =
    found_bound (records_of c.self.inside.records.entries) c.args.key c.in_ok-get_in.field-0 c.self.invariant.1 c.in_ok-get_in.ensures

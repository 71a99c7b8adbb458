use Rattle.result_table.specs.MapKeeper.{records_of}
use Rattle.result_table.proofs.RecordLemmas.{kept_after}
use Rattle.result_table.proofs.map_keeper.MapKeeperKeeper.put.Goals as goal

pub invariant_of-self-2 : goal.invariant_of-self-2
invariant_of-self-2 c =
    kept_after c.put_in.result (records_of c.self.inside.records.entries) (records_of c.put_in.new.records.entries) c.args.key c.args.moment c.args.body.now c.put_in.ensures.ok c.put_in.ensures.err c.requires c.self.invariant

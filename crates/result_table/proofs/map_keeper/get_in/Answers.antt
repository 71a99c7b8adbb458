use Rattle.std.proofs.Common.{◌∙◌, ap, sym}
use Rattle.result_table.proofs.MapKeeperLemmas.{record_found, shown_at}
use Rattle.result_table.proofs.map_keeper.get_in.Goals as goal

pub returns-in-None : goal.returns-in-None
returns-in-None c = sym (record_found c.args.records.now.entries c.args.key ∙ ap (shown_at c.args.key) (sym c.in-None.ensures.value))

pub returns-in_ok-record-in-Some : goal.returns-in_ok-record-in-Some
returns-in_ok-record-in-Some c =
    rw c.in_ok-record-in-Some.ensures (ap (shown_at c.args.key) c.in-Some.ensures.value ∙ sym (record_found c.args.records.now.entries c.args.key))

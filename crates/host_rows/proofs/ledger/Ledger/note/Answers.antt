use Rattle.std.proofs.Common.{◌≡◌, None, subst, sym}
use Rattle.run_states.specs.Rows.{find_row}
use Rattle.host_rows.specs.Ledger.{Ledger}
use Rattle.host_rows.proofs.LiveLemmas.{none_others}
use Rattle.host_rows.proofs.RowLemmas.{change_none}
use Rattle.run_states.specs.Effect.{noted_row}
use Rattle.host_rows.proofs.ledger.Ledger.note.Goals as goal

-- no row has the key
pub returns-in-None-clause-rows : goal.returns-in-None-clause-rows
returns-in-None-clause-rows c =
    let rows = c.args.self.now.list in
    let none = subst (λ (t : Ledger). find_row t.list c.args.key ≡ None) c.self.view_is (c.place.ensures.absent c.in-None.is) in
    sym (change_none (noted_row c.args.fact c.args.moment) c.args.key rows (none_others rows c.args.key none))

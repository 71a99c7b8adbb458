use Rattle.std.proofs.Math.Facts.{to_z-of_z}
use Rattle.std.specs.Prelude.{Vec}
use Rattle.std.specs.declared.alloc.Global.{Global}
use Rattle.sqlite.specs.Order.{Row}
use Rattle.result_rows.proofs.SelectLemmas.{lists_on}
use Rattle.result_rows.proofs.StateLemmas.{read_keeps, read_open}
use Rattle.result_rows.proofs.Texts.{list_plain}
use Rattle.result_rows.proofs.statement.list_rows.Goals as goal

pub returns-clause-sound : goal.returns-clause-sound
returns-clause-sound g c sound = (c.run_list.ensures.clean sound.0, read_open (λ (v : Vec Row Global). v.items) _ _ _ _ c.run_list.result (c.run_list.ensures.ok sound.0) (c.run_list.ensures.err sound.0) sound.1)

pub returns-clause-rows : goal.returns-clause-rows
returns-clause-rows g c table key n range text count keeps clean = lists_on (λ (v : Vec Row Global). v.items) _ _ table c.run_list.result key _ n _ range text count keeps (rw (to_z-of_z c.ranges.count) at (c.run_list.ensures.ok clean))

pub returns-clause-stays : goal.returns-clause-stays
returns-clause-stays g c table keeps sound = read_keeps (λ (v : Vec Row Global). v.items) _ _ _ _ list_plain c.run_list.result (c.run_list.ensures.ok sound.0) (c.run_list.ensures.err sound.0) table keeps sound.1

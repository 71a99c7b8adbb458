use Rattle.std.specs.Prelude.{Vec}
use Rattle.std.specs.declared.alloc.Global.{Global}
use Rattle.sqlite.specs.Order.{Row}
use Rattle.result_rows.proofs.SelectLemmas.{gets_on}
use Rattle.result_rows.proofs.StateLemmas.{read_keeps, read_open}
use Rattle.result_rows.proofs.Texts.{get_plain}
use Rattle.result_rows.proofs.statement.get_rows.Goals as goal

pub returns-clause-sound : goal.returns-clause-sound
returns-clause-sound g c sound = (c.run_get.ensures.clean sound.0, read_open (λ (v : Vec Row Global). v.items) _ _ _ _ c.run_get.result (c.run_get.ensures.ok sound.0) (c.run_get.ensures.err sound.0) sound.1)

pub returns-clause-rows : goal.returns-clause-rows
returns-clause-rows g c table key range id keeps clean = gets_on (λ (v : Vec Row Global). v.items) _ _ table c.run_get.result key _ range id keeps (c.run_get.ensures.ok clean)

pub returns-clause-stays : goal.returns-clause-stays
returns-clause-stays g c table keeps sound = read_keeps (λ (v : Vec Row Global). v.items) _ _ _ _ get_plain c.run_get.result (c.run_get.ensures.ok sound.0) (c.run_get.ensures.err sound.0) table keeps sound.1

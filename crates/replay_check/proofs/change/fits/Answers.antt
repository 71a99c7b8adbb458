use Rattle.std.specs.Prelude.{◌↔◌, IfOk, IsTrue}
use Rattle.std.proofs.Common.{subst, sym}
use Rattle.host_model.specs.declared.change.Change.{Change}
use Rattle.replay_check.specs.Suits.{FitsBook}
use Rattle.replay_check.proofs.change.fits.Goals as goal

pub returns-in-Ended : goal.returns-in-Ended
returns-in-Ended c = subst (λ (x : Change). IfOk c.fits_ended.result (λ may. IsTrue may ↔ FitsBook c.args.number c.args.book.now.book x)) (sym c.in-Ended.is) c.fits_ended.ensures

pub returns-in-ResultHeard : goal.returns-in-ResultHeard
returns-in-ResultHeard c = subst (λ (x : Change). IfOk c.fits_result.result (λ may. IsTrue may ↔ FitsBook c.args.number c.args.book.now.book x)) (sym c.in-ResultHeard.is) c.fits_result.ensures

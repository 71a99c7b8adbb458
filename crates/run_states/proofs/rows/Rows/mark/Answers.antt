use Rattle.std.proofs.Common.{All, sym, subst}
use Rattle.run_states.specs.LawfulRow.{IsLawfulRow}
use Rattle.run_states.specs.Life.{marked_row}
use Rattle.run_states.proofs.LawfulLemmas.{marked_all}
use Rattle.run_states.proofs.Place.{change_gap}
use Rattle.run_states.proofs.rows.Rows.mark.Goals as goal

pub returns-in-Ok-clause-rows : goal.returns-in-Ok-clause-rows
returns-in-Ok-clause-rows c = c.mark_at.ensures.rows c.args.key c.in-Ok.ensures.found

pub returns-in-Err-clause-rows : goal.returns-in-Err-clause-rows
returns-in-Err-clause-rows c = sym (change_gap (marked_row c.args.step c.args.moment) _ _ _ c.in-Err.ensures.absent)

-- and so each row keeps its rules
pub returns-in-Ok-clause-lawful : goal.returns-in-Ok-clause-lawful
returns-in-Ok-clause-lawful c = λ m earlier can lawful.
    subst (All (IsLawfulRow c.args.moment)) (sym (returns-in-Ok-clause-rows c)) (marked_all m c.args.moment earlier c.args.self.now.list lawful c.args.key c.search.ensures.ascending c.args.step can)

pub returns-in-Err-clause-lawful : goal.returns-in-Err-clause-lawful
returns-in-Err-clause-lawful c = λ m earlier can lawful.
    subst (All (IsLawfulRow c.args.moment)) (sym (returns-in-Err-clause-rows c)) (marked_all m c.args.moment earlier c.args.self.now.list lawful c.args.key c.search.ensures.ascending c.args.step can)

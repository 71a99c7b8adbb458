use Rattle.std.proofs.Common.{◌≡◌, ap}
use Rattle.run_states.specs.Rows.{Rows}
use Rattle.run_states.proofs.LifeLemmas.{settled_rows_earlier, settled_rows_moments}
use Rattle.run_states.proofs.LawfulLemmas.{settled_all}
use Rattle.run_states.proofs.Place.{ascending_settled}
use Rattle.run_states.proofs.rows.Rows.settle.Goals as goal

-- each row keeps its key
pub invariant_of-self : goal.invariant_of-self
invariant_of-self c =
    rw c.settle_all.ensures.rows (ascending_settled _ _ c.self.invariant)

pub returns-clause-whenever : goal.returns-clause-whenever
returns-clause-whenever c = λ m earlier.
    let seen : c.self.inside.rows.list ≡ c.args.self.now.list = ap (λ (t : Rows). t.list) c.self.view_is in
    rw (c.settle_all.ensures.rows, seen) (settled_rows_earlier m c.args.moment earlier c.args.self.now.list)

pub returns-clause-moments : goal.returns-clause-moments
returns-clause-moments c =
    let seen : c.self.inside.rows.list ≡ c.args.self.now.list = ap (λ (t : Rows). t.list) c.self.view_is in
    rw (c.settle_all.ensures.rows, seen) (settled_rows_moments c.args.moment c.args.self.now.list c.requires)

pub returns-clause-lawful : goal.returns-clause-lawful
returns-clause-lawful c = λ m earlier lawful.
    let seen : c.self.inside.rows.list ≡ c.args.self.now.list = ap (λ (t : Rows). t.list) c.self.view_is in
    rw (c.settle_all.ensures.rows, seen) (settled_all m c.args.moment earlier c.args.self.now.list lawful)

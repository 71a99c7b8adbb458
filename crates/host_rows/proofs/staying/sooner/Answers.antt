use Rattle.std.proofs.Common.{IfSome, sym, subst, arith}
use Rattle.host_rows.specs.Ledger.{StaysUntil}
use Rattle.host_rows.proofs.StayLemmas.{stays_less}
use Rattle.host_rows.proofs.staying.sooner.Goals as goal

pub stays_until-requires-clause-found : goal.stays_until-requires-clause-found
stays_until-requires-clause-found c = c.at-row.ensures.found c.at-row.result.now.key c.at-row.ensures.own

-- the row of the key is the one at the place
pub returns-clause-stays : goal.returns-clause-stays
returns-clause-stays c = λ k place.
    let rows = c.args.rows.now.list in
    let r = c.at-row.result.now in
    let at = c.min.ensures in
    subst (λ o. IfSome o (StaysUntil c.args.number rows c.min.result)) (sym (c.at-row.ensures.found k place))
    (stays_less c.args.number rows c.min.result c.stays_until.result r (omega (arith, at)) c.stays_until.ensures)

use Rattle.std.proofs.Common.{◌≡◌, ◌≤◌, ◌∙◌, ◌∷◌, None, Some, length, drop, ap, sym, subst, option_and_then, option_map, arith}
use Rattle.run_states.specs.Life.{lapse_of, settled_rows, HasMoments}
use Rattle.run_states.specs.Rows.{find_row, IsAscendingRows}
use Rattle.host_rows.specs.Deadlines.{due_keys}
use Rattle.host_rows.specs.Ledger.{Ledger}
use Rattle.host_rows.proofs.ClosingLemmas.{closed_all}
use Rattle.host_rows.proofs.DeadlineLemmas.{passed_length}
use Rattle.host_rows.proofs.FiledLemmas.{closed_fewer, passed_filed}
use Rattle.host_rows.proofs.LapseLemmas.{moments_closed, settled_at}
use Rattle.host_rows.proofs.ledger.Ledger.settle_first.Goals as goal

-- closing leaves the moments of rows in bounds
pub mark_at-requires-clause-moments : goal.mark_at-requires-clause-moments
mark_at-requires-clause-moments c = closed_all HasMoments c.in-Some.closing (λ r within. moments_closed c.in-Some.closing r within) c.args.key c.args.self.now.list c.rows-known.ensures.moments

-- no row of the key lapses
pub invariant_of-self : goal.invariant_of-self
invariant_of-self c =
    let ds = c.self.inside.deadlines in
    let rows = c.self.inside.rows.list in
    let due : due_keys c.args.moment ds.list ≡ c.args.key ∷ due_keys c.args.moment (drop 1 ds.list) = subst (λ (t : Ledger). due_keys c.args.moment t.deadlines ≡ c.args.key ∷ due_keys c.args.moment (drop 1 t.deadlines)) (sym c.self.view_is) c.requires in
    let none : option_and_then (lapse_of c.args.moment) (find_row rows c.args.key) ≡ None = ap (λ (t : Ledger). option_and_then (lapse_of c.args.moment) (find_row t.list c.args.key)) c.self.view_is ∙ (sym c.lapse_of.ensures.lapse ∙ ap (option_map (λ found. found.1)) c.in-None.is) in
    let enough : length rows ≤ c.pass.new.self.places = let places = c.self.invariant.filed.places in let same = c.pass.ensures.places in omega (arith, places, same) in
    record {
      counted = c.self.invariant.counted;
      filed = passed_filed c.args.moment c.args.key (due_keys c.args.moment (drop 1 ds.list)) rows ds c.self.invariant.filed (subst (λ (t : Ledger). IsAscendingRows t.list) (sym c.self.view_is) c.rows-known.ensures.ascending) due c.pass.new.self none c.pass.ensures.list enough;
      live = c.self.invariant.live;
      places = c.self.invariant.places;
      stay = c.self.invariant.stay;
    }

-- the row of the key closes
pub returns-in-Some-clause-rows : goal.returns-in-Some-clause-rows
returns-in-Some-clause-rows c =
    let rows = c.args.self.now.list in
    let lapses : option_and_then (lapse_of c.args.moment) (find_row rows c.args.key) ≡ Some c.in-Some.closing = sym c.lapse_of.ensures.lapse ∙ ap (option_map (λ found. found.1)) c.in-Some.is in
    ap (settled_rows c.args.moment) c.mark_at.ensures.rows ∙ settled_at c.args.moment c.in-Some.closing c.args.key rows c.rows-known.ensures.ascending lapses

pub returns-in-Some-clause-fewer : goal.returns-in-Some-clause-fewer
returns-in-Some-clause-fewer c =
    let rows = c.args.self.now.list in
    let lapses : option_and_then (lapse_of c.args.moment) (find_row rows c.args.key) ≡ Some c.in-Some.closing = sym c.lapse_of.ensures.lapse ∙ ap (option_map (λ found. found.1)) c.in-Some.is in
    let same = ap length c.mark_at.ensures.deadlines in
    let less = closed_fewer c.args.moment (omega (arith, c.ranges.moment)) rows c.mark_at.new.self.list c.args.key c.args.self.now.deadlines c.deadlines-known.ensures.waits c.in-Some.closing lapses c.mark_at.ensures.rows in
    omega (arith, same, less)

pub returns-in-None-clause-fewer : goal.returns-in-None-clause-fewer
returns-in-None-clause-fewer c =
    let due = c.requires in
    let first = passed_length c.args.moment c.args.key (due_keys c.args.moment (drop 1 c.args.self.now.deadlines)) c.args.self.now.deadlines due in
    let seen = ap (λ (t : Ledger). length (drop 1 t.deadlines)) c.self.view_is in
    let long = ap length c.pass.ensures.list in
    omega (arith, first, seen, long)

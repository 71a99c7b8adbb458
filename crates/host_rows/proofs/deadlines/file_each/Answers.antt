use Rattle.std.proofs.Common.{◌≡◌, ◌≤◌, ◌∙◌, All, None, length, ap, subst, arith}
use Rattle.std.proofs.lemmas.List.{take_all}
use Rattle.host_rows.specs.Deadlines.{deadline_of, refiled, Waits}
use Rattle.host_rows.proofs.DeadlineLemmas.{length_refiled}
use Rattle.host_rows.proofs.FiledLemmas.{next_room, one_more, waiting_step}
use Rattle.host_rows.proofs.deadlines.file_each.Goals as goal

-- there is a place for each row
pub refile-requires : goal.refile-requires
refile-requires c =
    let places = c.loop-row.invariant.places in
    let enough : length c.args.rows.now ≤ c.loop-row.deadlines.places = omega (arith, places, c.requires.places) in
    next_room c.args.rows.now c.loop-row.row-index c.row-item.result (length c.loop-row.deadlines.list) c.loop-row.deadlines.places (omega arith) c.row-item.is c.loop-row.invariant.few enough c.deadline_of.result c.deadline_of.ensures

pub loop-row-preserved : goal.loop-row-preserved
loop-row-preserved c =
    let row = c.row-item.result in
    let same : c.refile.new.self.list ≡ refiled row.key None (deadline_of row) c.loop-row.deadlines.list = c.refile.ensures.list ∙ ap (λ o. refiled row.key None o c.loop-row.deadlines.list) c.deadline_of.ensures in
    let step = waiting_step c.args.rows.now c.loop-row.row-index row (omega arith) c.row-item.is in
    let long = ap length same in
    let more = length_refiled row.key None (deadline_of row) c.loop-row.deadlines.list tt in
    let few = c.loop-row.invariant.few in
    let here = c.refile.ensures.places in
    let before = c.loop-row.invariant.places in
    record {
      waits = one_more c.args.rows.now c.loop-row.row-index row c.loop-row.deadlines.list c.refile.new.self.list (omega arith) c.row-item.is same c.loop-row.invariant.waits;
      few = omega (arith, step, long, more, few);
      places = omega (arith, here, before);
    }

pub returns-clause-waits : goal.returns-clause-waits
returns-clause-waits c = subst (All (Waits c.loop-row.deadlines.list)) (take_all c.loop-row.row-index c.args.rows.now (omega arith)) c.loop-row.invariant.waits

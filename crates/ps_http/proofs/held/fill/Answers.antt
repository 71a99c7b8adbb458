use Rattle.std.proofs.Common.{◌≡◌, ◌∙◌, arith, rules, take, length, length-take}
use Rattle.ps_http.proofs.BodyLemmas.{added_at, short_at_end, short_at_fault}
use Rattle.ps_http.proofs.held.fill.Goals as goal

pub returns-in-Ok-eq0-clause-err : goal.returns-in-Ok-eq0-clause-err
returns-in-Ok-eq0-clause-err g c =
    let front : length (take c.args.ready c.args.body.now) ≡ c.args.ready = omega (arith, c.requires.within, length-take c.args.ready c.args.body.now) in
    let i = c.loop-count.invariant in
    let came = c.in-Ok-eq0.ensures.ok in
    let s = short_at_end _ c.loop-count.body c.read_between.new.bytes _ _ _ c.args.ready c.loop-count.count _ _ i.came came c.in-Ok-eq0.field-0-test front (omega (arith, i.within, i.same)) c.loop-count-test.true in
    (s.0, omega (arith, s.1), came.ended c.in-Ok-eq0.field-0-test)

pub loop-count-preserved : goal.loop-count-preserved
loop-count-preserved g c =
    let i = c.loop-count.invariant in
    let came = c.in-Ok.ensures.ok in
    record {
      came = added_at _ c.loop-count.body c.read_between.new.bytes _ _ _ c.loop-count.count _ c.in-Ok.more i.came came c.in-Ok.ensures.front;
      later = omega (arith, i.later, c.in-Ok.ensures.cause.later);
      kept = search (rules, i.kept, c.in-Ok.ensures.kept);
      within = came.within;
      same = c.in-Ok.ensures.len ∙ i.same;
      order = omega (arith, i.order);
    }

pub returns-in-Err-clause-err : goal.returns-in-Err-clause-err
returns-in-Err-clause-err g c =
    let front : length (take c.args.ready c.args.body.now) ≡ c.args.ready = omega (arith, c.requires.within, length-take c.args.ready c.args.body.now) in
    let i = c.loop-count.invariant in
    short_at_fault _ c.loop-count.body _ _ _ c.args.ready c.loop-count.count _ i.came c.in-Err.ensures.err front (omega (arith, i.within, i.same)) c.loop-count-test.true

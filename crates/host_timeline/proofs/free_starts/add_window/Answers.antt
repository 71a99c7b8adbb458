use Rattle.std.proofs.Common.{◌∙◌, sym, ap, arith}
use Rattle.std.proofs.lemmas.Result.{on_ok_weaker}
use Rattle.host_timeline.specs.Sweep.{with_window}
use Rattle.host_timeline.proofs.SweepLemmas.{window_put, window_left, no_window}
use Rattle.host_timeline.proofs.free_starts.add_window.Goals as goal

-- there is place for it
pub returns-in-Some-clause-list : goal.returns-in-Some-clause-list
returns-in-Some-clause-list c =
    let put = window_put c.args.windows.now c.in-Some.window (omega (arith, c.len.ensures, c.if-len-lt-MAX_WINDOWS.true)) ∙ ap (with_window c.args.windows.now) (sym c.in-Some.is) in
    on_ok_weaker c.push.result (λ made. made ∙ put) c.push.ensures.ok

-- there is none
pub returns-in_default-clause-list : goal.returns-in_default-clause-list
returns-in_default-clause-list c = window_left c.args.windows.now c.args.more (omega (arith, c.len.ensures, c.if-len-lt-MAX_WINDOWS.false, c.requires))

pub returns-in_default-2-clause-list : goal.returns-in_default-2-clause-list
returns-in_default-2-clause-list c = no_window c.args.windows.now c.requires ∙ ap (with_window c.args.windows.now) (sym c.in_default.is)

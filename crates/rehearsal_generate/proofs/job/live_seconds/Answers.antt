use Rattle.std.proofs.Common.{◌≡◌, ◌≤◌, ◌+◌, ◌∙◌, ap, arith, subst, suc, sym, ℕ}
use Rattle.ps_time.specs.Numbers.{greatest_moment}
use Rattle.rehearsal_model.specs.Simulations.{Simulation}
use Rattle.rehearsal_generate.specs.Shown.{IsShown}
use Rattle.rehearsal_generate.specs.Work.{second, seconds, shows}
use Rattle.rehearsal_generate.specs.declared.tally.Tally.{Tally}
use Rattle.rehearsal_generate.proofs.ShownLemmas.{shown_second}
use Rattle.rehearsal_generate.proofs.job.live_seconds.Goals as goal

-- one second more
pub loop-second-preserved : goal.loop-second-preserved
loop-second-preserved c =
    let hosts = c.args.hosts.now in
    let place = c.args.place in
    let start : ℕ = c.args.start in
    let n : ℕ = c.loop-second.second in
    let b : Simulation = c.loop-second.now in
    let t : Tally = c.loop-second.tally in
    let clock : ℕ = start + n + 1 in
    let low : clock ≤ greatest_moment = omega (arith, c.requires.clock) in
    let is : (c.live_second.new.now, c.live_second.new.tally) ≡ second (shows hosts) place clock (b, t) = c.in_ok-live_second.ensures in
    let next : suc n ≡ n + 1 = omega arith in
    record {
      went =
          is
          ∙ (ap (second (shows hosts) place clock) c.loop-second.invariant.went
          ∙ ap (λ (k : ℕ). seconds (shows hosts) place start k (c.args.now.now, c.args.tally.now)) next);
      shown = subst (λ (x : Simulation × Tally). IsShown hosts x.0) (sym is) (shown_second hosts b c.loop-second.invariant.shown place clock c.requires.place low t);
    }

pub returns : goal.returns
returns c =
    let six : c.loop-second.second ≡ 6 = omega arith in
    c.loop-second.invariant.went ∙ ap (λ (k : ℕ). seconds (shows c.args.hosts.now) c.args.place c.args.start k (c.args.now.now, c.args.tally.now)) six

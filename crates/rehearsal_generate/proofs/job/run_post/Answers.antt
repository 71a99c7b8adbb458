use Rattle.std.proofs.Common.{◌≤◌, arith, subst, sym, ℕ}
use Rattle.ps_time.specs.Numbers.{greatest_moment}
use Rattle.rehearsal_model.specs.Plays.{MayMake}
use Rattle.rehearsal_model.specs.Simulations.{Simulation}
use Rattle.rehearsal_generate.specs.Posts.{post_of}
use Rattle.rehearsal_generate.specs.Shown.{IsShown}
use Rattle.rehearsal_generate.specs.Work.{moment_of_post, posting}
use Rattle.rehearsal_generate.specs.declared.post.Post.{Post}
use Rattle.rehearsal_generate.proofs.ShownLemmas.{ready, shown_posted}
use Rattle.rehearsal_generate.proofs.WorkLemmas.{ok_always}
use Rattle.rehearsal_generate.proofs.job.run_post.Goals as goal

pub post-requires-clause-ready : goal.post-requires-clause-ready
post-requires-clause-ready c =
    let low : moment_of_post c.args.number ≤ greatest_moment = omega (arith, c.requires.number) in
    ready c.args.hosts.now c.args.now.now c.requires.shown c.draw_post-drawn.result.place (moment_of_post c.args.number) c.draw_post-drawn.ensures.place low

pub live_seconds-requires-clause-shown : goal.live_seconds-requires-clause-shown
live_seconds-requires-clause-shown c =
    let hosts = c.args.hosts.now in
    let clock : ℕ = moment_of_post c.args.number in
    let low : clock ≤ greatest_moment = omega (arith, c.requires.number) in
    subst (IsShown hosts) (sym (c.in_ok-post.ensures.simulation hosts))
    (shown_posted hosts c.args.now.now c.requires.shown clock c.draw_post-drawn.result low c.draw_post-drawn.ensures.place c.in_ok-post.ensures.may)

pub returns-clause-may : goal.returns-clause-may
returns-clause-may c =
    let b : Simulation = c.args.now.now in
    let clock : ℕ = moment_of_post c.args.number in
    ok_always (MayMake b (posting b clock (post_of c.args.tally.now.seed))) c.live_seconds.result
    (subst (λ (q : Post). MayMake b (posting b clock q)) c.draw_post-drawn.ensures.post c.in_ok-post.ensures.may)

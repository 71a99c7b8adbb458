use Rattle.std.proofs.Common.{◌≡◌, ◌<◌, ◌+◌, List, arith, length, refl, subst, sym, ℕ}
use Rattle.rehearsal_script.specs.Lawful.{AreLawfulHosts}
use Rattle.rehearsal_script.specs.declared.script.ScriptHost.{ScriptHost}
use Rattle.rehearsal_model.specs.Simulations.{first_play}
use Rattle.rehearsal_generate.specs.Shown.{Alike}
use Rattle.rehearsal_generate.specs.Work.{plays, worked}
use Rattle.rehearsal_generate.proofs.HostLemmas.{eight_work, lawful_work}
use Rattle.rehearsal_generate.proofs.ShownLemmas.{shown_worked}
use Rattle.rehearsal_generate.proofs.WorkLemmas.{begun, one_more}
use Rattle.rehearsal_generate.proofs.job.run_posts.Goals as goal

pub loop-number-init : goal.loop-number-init
loop-number-init c =
    let hosts = c.args.hosts.now in
    let lawful : AreLawfulHosts hosts = subst AreLawfulHosts (sym c.requires.hosts) lawful_work in
    let eight : length hosts ≡ 8 = subst (λ (hs : List ScriptHost). length hs ≡ 8) (sym c.requires.hosts) eight_work in
    begun hosts lawful eight c.args.now.now c.args.tally.now c.requires.now c.requires.tally

pub run_post-requires-clause-shown : goal.run_post-requires-clause-shown
run_post-requires-clause-shown c = shown_worked c.args.hosts.now c.requires.hosts c.loop-number.number c.loop-number.now c.loop-number.tally c.loop-number.invariant

pub loop-number-preserved : goal.loop-number-preserved
loop-number-preserved c =
    let hosts = c.args.hosts.now in
    let lawful : AreLawfulHosts hosts = subst AreLawfulHosts (sym c.requires.hosts) lawful_work in
    let eight : length hosts ≡ 8 = subst (λ (hs : List ScriptHost). length hs ≡ 8) (sym c.requires.hosts) eight_work in
    let few : c.loop-number.number < 2000 = omega (arith, c.requires.count) in
    one_more hosts lawful eight c.loop-number.number (c.loop-number.number + 1) refl few c.loop-number.now c.loop-number.tally c.run_post.new.now c.run_post.new.tally c.loop-number.invariant
    c.in_ok-run_post.ensures.may c.in_ok-run_post.ensures.work

pub returns : goal.returns
returns c =
    let hosts = c.args.hosts.now in
    let all : c.loop-number.number ≡ c.args.count = omega arith in
    subst (λ (k : ℕ). Alike hosts (worked (plays hosts) k (first_play hosts)) (c.loop-number.now, c.loop-number.tally)) all c.loop-number.invariant

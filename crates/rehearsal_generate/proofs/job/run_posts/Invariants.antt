use Rattle.rehearsal_model.specs.Simulations.{first_play}
use Rattle.rehearsal_generate.specs.Shown.{Alike}
use Rattle.rehearsal_generate.specs.Work.{plays, worked}
use Rattle.rehearsal_generate.proofs.job.run_posts.Given as goal

-- so many posts were made
abbrev pub invariant-loop-number : goal.invariant-loop-number
invariant-loop-number l = Alike l.hosts (worked (plays l.hosts) l.number (first_play l.hosts)) (l.now, l.tally)

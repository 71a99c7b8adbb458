use Rattle.std.proofs.Common.{◌≡◌}
use Rattle.rehearsal_generate.specs.Shown.{IsShown}
use Rattle.rehearsal_generate.specs.Work.{seconds, shows}
use Rattle.rehearsal_generate.proofs.job.live_seconds.Given as goal

-- so many seconds went by
abbrev pub invariant-loop-second : goal.invariant-loop-second
invariant-loop-second l = record {
  went : (l.now, l.tally) ≡ seconds (shows l.hosts) l.place l.start l.second (l.fn.now, l.fn.tally);
  shown : IsShown l.hosts l.now;
}

use Rattle.std.proofs.Common.{◌≡◌, drop}
use Rattle.rehearsal_generate.specs.Shown.{IsShown}
use Rattle.rehearsal_generate.specs.Work.{shows, walked}
use Rattle.rehearsal_generate.proofs.message.walk.Given as goal

-- what is left decides
abbrev pub invariant-loop-number : goal.invariant-loop-number
invariant-loop-number l = record {
  left : walked (shows l.hosts) l.place l.clock (drop l.number-index l.numbers) (l.now, l.tally) ≡ walked (shows l.hosts) l.place l.clock l.numbers (l.fn.now, l.fn.tally);
  shown : IsShown l.hosts l.now;
}

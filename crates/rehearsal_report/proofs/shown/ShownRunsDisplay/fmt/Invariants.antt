use Rattle.std.proofs.Common.{take}
use Rattle.std.specs.Fmt.{HasWritten, IsPlainFormatter}
use Rattle.rehearsal_report.specs.Line.{runs_text}
use Rattle.rehearsal_report.proofs.shown.ShownRunsDisplay.fmt.Given as goal

-- the runs so far are written
abbrev pub invariant-loop-key : goal.invariant-loop-key
invariant-loop-key g l =
    IsPlainFormatter l.initial.f → HasWritten g.W.Write.write_str_gives l.initial.f (runs_text (take l.key-index l.key-items)) l.f

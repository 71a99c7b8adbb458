use Rattle.std.proofs.Common.{◌≡◌, ◌+◌, length, drop}
use Rattle.std.proofs.lemmas.Iterator.{YieldsList}
use Rattle.rehearsal_script.specs.Lawful.{IsLawful}
use Rattle.rehearsal_script.specs.Script.{lines_from, lines_of, no_lines}
use Rattle.rehearsal_script.proofs.read.read_script.Given as goal

-- the loop goes over the lines, and those that are left are read after what is done, which is lawful
abbrev pub invariant-loop-line : goal.invariant-loop-line
invariant-loop-line l = record {
  road : YieldsList (goal.iterator-loop-line).next_gives (λ x. x.now) l.initial.line-iterator (lines_of l.bytes);
  count : l.number ≡ length l.yielded;
  left : lines_from no_lines 1 (lines_of l.bytes) ≡ lines_from l.script (l.number + 1) (drop l.number (lines_of l.bytes));
  lawful : IsLawful l.script;
}

use Rattle.std.proofs.Common.{All}
use Rattle.archive_retry.specs.Merge.{IsMergeable}
use Rattle.task_reader_tests.proofs.policies.results.Given as goal

abbrev pub invariant-loop-part : goal.invariant-loop-part
invariant-loop-part l = All IsMergeable l.results.items

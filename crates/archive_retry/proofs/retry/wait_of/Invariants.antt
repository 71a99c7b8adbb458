use Rattle.std.proofs.Common.{◌≡◌, drop}
use Rattle.std.specs.List.{slice_get}
use Rattle.archive_retry.specs.Retry.{written_out}
use Rattle.archive_retry.proofs.retry.wait_of.Given as goal

-- what is left decides
abbrev pub invariant-loop-entry : goal.invariant-loop-entry
invariant-loop-entry l = slice_get (written_out l.entries) l.fn.tried ≡ slice_get (written_out (drop l.entry-index l.entries)) l.left

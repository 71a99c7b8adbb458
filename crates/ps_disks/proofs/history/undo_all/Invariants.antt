use Rattle.std.proofs.Common.{◌≡◌, take}
use Rattle.ps_disks.specs.History.{undone}
use Rattle.ps_disks.proofs.history.undo_all.Given as goal

abbrev pub invariant-loop-place : goal.invariant-loop-place
invariant-loop-place l = undone (take l.place l.recent) l.bytes.items ≡ undone l.recent l.fn.bytes.items

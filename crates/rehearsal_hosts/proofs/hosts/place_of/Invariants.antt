use Rattle.std.proofs.Common.{◌≡◌, ◌+◌, drop}
use Rattle.rehearsal_model.specs.Moves.{place_numbered}
use Rattle.rehearsal_hosts.proofs.hosts.place_of.Given as goal

-- it is the first such place behind those before
abbrev pub invariant-loop-place : goal.invariant-loop-place
invariant-loop-place l = l.place + place_numbered (drop l.place l.hosts) l.number ≡ place_numbered l.hosts l.number

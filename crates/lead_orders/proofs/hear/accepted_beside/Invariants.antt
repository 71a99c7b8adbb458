use Rattle.std.proofs.Common.{◌≡◌, ◌+◌, drop}
use Rattle.lead_orders.specs.Others.{accepted_beside}
use Rattle.lead_orders.proofs.hear.accepted_beside.Given as goal

-- what is left decides
abbrev pub invariant-loop-before : goal.invariant-loop-before
invariant-loop-before l = accepted_beside l.place 1 l.others ≡ accepted_beside l.place (l.before + 1) (drop l.before l.others)

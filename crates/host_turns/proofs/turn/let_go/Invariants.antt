use Rattle.std.proofs.Common.{◌≡◌, drop}
use Rattle.live_law.specs.Groups.{let_go}
use Rattle.host_turns.proofs.turn.let_go.Given as goal

-- those that are left decide
abbrev pub invariant-loop-change : goal.invariant-loop-change
invariant-loop-change l = let_go l.moment l.rows.list l.changes ≡ let_go l.moment l.rows.list (drop l.change-index l.changes)

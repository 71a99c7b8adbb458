use Rattle.std.proofs.Common.{◌≡◌, ◌≤◌, length}
use Rattle.run_states.specs.Life.{settled_rows}
use Rattle.host_rows.proofs.ledger.Ledger.settle.Given as goal

-- the rows settle to what they settled to at first, and there are fewer deadlines
abbrev pub invariant-loop-key : goal.invariant-loop-key
invariant-loop-key l = record {
  settled : settled_rows l.moment l.self.list ≡ settled_rows l.moment l.initial.self.list;
  number : l.self.number ≡ l.initial.self.number;
  room : l.initial.self.room ≤ l.self.room;
}

abbrev pub decreases-loop-key : goal.decreases-loop-key
decreases-loop-key l = length l.self.deadlines

use Rattle.std.proofs.Common.{◌≡◌, ◌≤◌, take}
use Rattle.std.specs.Prelude.{count_by, nat_lt}
use Rattle.rehearsal_state.proofs.rehearsal.count_below.Given as goal

-- those so far are counted
abbrev pub invariant-loop-other : goal.invariant-loop-other
invariant-loop-other l = record {
  few : l.count ≤ l.other-index;
  counted : l.count ≡ count_by (λ n. nat_lt n l.number) (take l.other-index l.numbers);
}

use Rattle.std.proofs.Common.{◌≡◌, drop}
use Rattle.std.specs.List.{list_any}
use Rattle.run_states.specs.Rows.{find_row}
use Rattle.host_turns.specs.Wishes.{is_hindering}
use Rattle.host_turns.proofs.starting.any_hinders.Given as goal

-- what is left decides
abbrev pub invariant-loop-key : goal.invariant-loop-key
invariant-loop-key g l =
    list_any (λ k. is_hindering l.class (find_row (g.R.Reading.seen l.book) k)) l.keys ≡ list_any (λ k. is_hindering l.class (find_row (g.R.Reading.seen l.book) k)) (drop l.key-index l.keys)

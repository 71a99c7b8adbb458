use Rattle.std.proofs.Common.{◌≡◌, List, []}
use Rattle.std.specs.List.{AllByRecursion}
use Rattle.sqlite.specs.Given.{HasGiven}
use Rattle.sqlite.specs.Held.{state}
use Rattle.sqlite.specs.Order.{Row}
use Rattle.sqlite.specs.State.{HasCleanDisk, IsUnchanged, Survives}
use Rattle.result_rows.specs.Rows.{IsRecord}
use Rattle.result_rows.specs.Statement.{all_text}
use Rattle.result_keeper.proofs.opening.are_records.Given as goal

-- each row that was given is a record
abbrev pub invariant-rows : goal.invariant-rows
invariant-rows g l =
    let old = state g.S.Store l.fn.conn in
    let now = state g.S.Store l.rows.conn.now in
    (l.rows.conn.ghost_name ≡ l.initial.rows.conn.ghost_name) × Survives old now (λ _. ⊥)
    × (HasCleanDisk now → (given : List Row) × HasGiven g.S.Store all_text [] l.rows.conn.now given × IsUnchanged old now × AllByRecursion IsRecord given)

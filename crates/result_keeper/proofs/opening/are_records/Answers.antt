use Rattle.std.proofs.Common.{◌++◌, [], ◌∷◌, refl, arith, rules}
use Rattle.sqlite.proofs.Callers.{begun_plain, unchanged_then}
use Rattle.sqlite.specs.Held.{state}
use Rattle.sqlite.specs.State.{HasCleanDisk, Survives}
use Rattle.result_keeper.proofs.OpenLemmas.{commits_nothing, plain_in, all_given, one_more}
use Rattle.result_rows.specs.Statement.{all_text}
use Rattle.result_keeper.proofs.opening.are_records.Goals as goal

pub rows-init : goal.rows-init
rows-init g c =
    let made = c.in_ok-rows.ensures in
    let plain = plain_in c.args.conn.now.schema c.requires in (
      refl,
      commits_nothing all_text [] _ _ plain (rw c.all_select.ensures at made.survives),
      λ clean.
          let begun = begun_plain g.S.Store all_text [] c.args.conn.now _ plain (rw c.all_select.ensures at (made.begun clean)) in
          ([], begun.0, begun.1, tt),
    )

pub returns-in_default-clause-records : goal.returns-in_default-clause-records
returns-in_default-clause-records g c clean so =
    let moved = c.next.follows.holds-at-none in
    let now = c.next.follows.lender-at-none.conn.now in
    let late : HasCleanDisk (state g.S.Store now) = search rules in
    let was = c.rows.invariant.2 (omega (arith, moved.survives.clean)) in
    let shown = (rw (c.in_ok-row.was, c.in_default.is) at (moved.ok late)) all_text [] was.0 was.1 in
    all_given (state g.S.Store c.args.conn.now) (state g.S.Store c.rows.rows.conn.now) (state g.S.Store now) was.0 c.requires was.2 shown was.3

pub rows-preserved : goal.rows-preserved
rows-preserved g c =
    let moved = c.next.follows.holds-at-none in
    let old = state g.S.Store c.args.conn.now in
    let now = state g.S.Store c.next.follows.lender-at-none.conn.now in
    let kept : Survives old now (λ _. ⊥) = search rules in (
      search rules,
      kept,
      λ clean.
          let was = c.rows.invariant.2 (omega (arith, moved.survives.clean)) in
          let given = (rw (c.in_ok-row.was, c.in-Some.is) at (moved.ok clean)) all_text [] was.0 was.1 in
          let same = (rw c.in_ok-row.was at (moved.same clean)) in
          (was.0 ++ c.in-Some.row.now ∷ [], given, unchanged_then old (state g.S.Store c.rows.rows.conn.now) now was.2 same, one_more was.0 c.in-Some.row.now was.3 (c.in_ok-is_record.ensures (search rules))),
    )

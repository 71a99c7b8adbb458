use Rattle.std.proofs.Common.{◌≡◌, ◌≤◌, ◌-◌, ◌∙◌, All, IfSome, None, Some, length, min, ap, sym, subst, arith}
use Rattle.run_states.specs.Life.{HasMoments}
use Rattle.run_states.specs.Rows.{find_row, lift_row}
use Rattle.run_states.proofs.Place.{find_lifted}
use Rattle.host_rows.specs.LiveKeys.{drop_key}
use Rattle.host_rows.specs.Still.{live_keys}
use Rattle.host_rows.specs.Deadlines.{deadline_at}
use Rattle.host_rows.specs.Ledger.{bytes_at, is_live_at, most_counted, IsCounted, Ledger, StaysUntil}
use Rattle.host_rows.proofs.DeadlineLemmas.{refiled_none}
use Rattle.host_rows.proofs.FiledLemmas.{moves_lifted, refiled_filed, Moves}
use Rattle.host_rows.proofs.LiveLemmas.{length_lifted, lift_none, live_lifted, marked_before, none_others}
use Rattle.host_rows.proofs.LedgerLemmas.{found_if, lifted_counted}
use Rattle.host_rows.proofs.StayLemmas.{stays_lifted}
use Rattle.host_rows.proofs.ledger.Ledger.purge.Goals as goal

-- no row has the key
pub returns-in_default-clause-rows : goal.returns-in_default-clause-rows
returns-in_default-clause-rows c =
    let rows = c.args.self.now.list in
    let k = c.args.key in
    let none = subst (λ (t : Ledger). find_row t.list k ≡ None) c.self.view_is (c.place.ensures.absent c.in_default.is) in
    sym (lift_none rows k (none_others rows k none))

pub overflow_sub-self : goal.overflow_sub-self
overflow_sub-self c =
    let rows = c.self.inside.rows.list in
    let k = c.args.key in
    let found : find_row rows k ≡ Some c.at-row.result.now = c.at-row.ensures.found k c.in-Some.ensures.found in
    let own : c.result_bytes.result ≡ min (bytes_at (find_row rows k)) most_counted = c.result_bytes.ensures ∙ ap (λ o. min (bytes_at o) most_counted) (sym found) in
    let low : c.self.inside.bytes ≤ most_counted = omega (arith, c.self.ranges) in
    (lifted_counted rows c.self.inside.bytes c.self.invariant.counted k c.result_bytes.result c.at-row.ensures.ascending low own).0

pub deadline_of-waited-requires : goal.deadline_of-waited-requires
deadline_of-waited-requires c =
    let rows = c.self.inside.rows.list in
    let k = c.args.key in
    let found : find_row rows k ≡ Some c.at-row.result.now = c.at-row.ensures.found k c.in-Some.ensures.found in
    subst (λ o. IfSome o HasMoments) found (found_if HasMoments k rows c.self.invariant.counted.moments)

pub review-requires-clause-before : goal.review-requires-clause-before
review-requires-clause-before c =
    let rows = c.self.inside.rows.list in
    let k = c.args.key in
    let found : find_row rows k ≡ Some c.at-row.result.now = c.at-row.ensures.found k c.in-Some.ensures.found in
    marked_before c.self.inside.number rows k c.at-row.ensures.ascending c.self.inside.live.list c.self.invariant.live c.is_live-was_live.result (c.is_live-was_live.ensures ∙ ap (is_live_at c.self.inside.number) (sym found))

pub invariant_of-self : goal.invariant_of-self
invariant_of-self c =
    let rows = c.self.inside.rows.list in
    let k = c.args.key in
    let found : find_row rows k ≡ Some c.at-row.result.now = c.at-row.ensures.found k c.in-Some.ensures.found in
    let own : c.result_bytes.result ≡ min (bytes_at (find_row rows k)) most_counted = c.result_bytes.ensures ∙ ap (λ o. min (bytes_at o) most_counted) (sym found) in
    let low : c.self.inside.bytes ≤ most_counted = omega (arith, c.self.ranges) in
    let fewer = length_lifted rows k in
    let many : length c.purge.new.self.list ≡ length (lift_row rows k) = ap length c.purge.ensures.rows in
    let enough = c.self.invariant.places in
    let places = c.review.ensures.places in
    let filed_places = c.self.invariant.filed.places in
    let moves : Moves c.self.inside.deadlines.list rows c.purge.new.self.list k = subst (λ l. Moves c.self.inside.deadlines.list rows l k) (sym c.purge.ensures.rows) (moves_lifted c.self.inside.deadlines.list rows k c.at-row.ensures.ascending c.self.invariant.filed.waits) in
    let waited : c.deadline_of-waited.result ≡ deadline_at (find_row rows k) = c.deadline_of-waited.ensures ∙ ap deadline_at (sym found) in
    let gone : None ≡ deadline_at (find_row c.purge.new.self.list k) = sym (ap (λ l. deadline_at (find_row l k)) c.purge.ensures.rows ∙ ap deadline_at (find_lifted rows k)) in
    record {
      counted =
          subst (λ l. IsCounted l (c.self.inside.bytes - c.result_bytes.result)) (sym c.purge.ensures.rows)
          (lifted_counted rows c.self.inside.bytes c.self.invariant.counted k c.result_bytes.result c.at-row.ensures.ascending low own).1;
      filed =
          refiled_filed rows c.purge.new.self.list k c.self.inside.deadlines c.self.invariant.filed moves c.deadline_of-waited.result None waited gone c.lift.new.self (c.lift.ensures.list ∙ refiled_none k c.deadline_of-waited.result c.self.inside.deadlines.list)
          (omega (arith, fewer, many, filed_places, c.lift.ensures.places));
      live = c.review.ensures.list ∙ (ap (λ ks. drop_key ks k) c.self.invariant.live ∙ (sym (live_lifted c.self.inside.number rows k) ∙ ap (live_keys c.self.inside.number) (sym c.purge.ensures.rows)));
      places = omega (arith, fewer, many, enough, places);
      stay = subst (λ l. All (StaysUntil c.self.inside.number l c.self.inside.next_purge) l) (sym c.purge.ensures.rows) (stays_lifted c.self.inside.number rows k c.self.inside.next_purge c.self.invariant.stay);
    }

pub returns-clause-room : goal.returns-clause-room
returns-clause-room c =
    let fewer = length_lifted c.self.inside.rows.list c.args.key in
    let many : length c.purge.new.self.list ≡ length (lift_row c.self.inside.rows.list c.args.key) = ap length c.purge.ensures.rows in
    let room = ap (λ (t : Ledger). t.room) c.self.view_is in
    let places = c.review.ensures.places in
    let left = c.purge.ensures.room in
    let more = c.lift.ensures.places in
    omega (arith, fewer, many, room, places, left, more)

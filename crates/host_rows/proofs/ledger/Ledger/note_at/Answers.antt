use Rattle.std.proofs.Common.{◌≡◌, ◌≤◌, ◌-◌, ◌+◌, ◌∙◌, All, IfSome, Some, length, min, ap, sym, subst, arith}
use Rattle.run_states.specs.Effect.{noted_row}
use Rattle.run_states.specs.Life.{HasMoments}
use Rattle.run_states.specs.ResultBytes.{result_bytes}
use Rattle.run_states.specs.Rows.{change_row, find_row, IsPlaceOf}
use Rattle.run_states.proofs.Place.{noted_key}
use Rattle.host_rows.specs.LiveKeys.{marked}
use Rattle.host_rows.specs.Still.{live_keys}
use Rattle.host_rows.specs.Deadlines.{deadline_at}
use Rattle.host_rows.specs.Ledger.{IsCounted, Ledger, StaysUntil, bytes_at, fact_bytes, is_live_at, most_counted}
use Rattle.host_rows.proofs.FiledLemmas.{moves_changed, refile_room, refiled_filed, Moves}
use Rattle.host_rows.proofs.LiveLemmas.{length_changed, marked_after, marked_before, room_left}
use Rattle.host_rows.proofs.LedgerLemmas.{changed_counted, changed_less, changed_more, found_if}
use Rattle.host_rows.proofs.StayLemmas.{stays_changed}
use Rattle.host_rows.proofs.RowLemmas.{fact_brings}
use Rattle.host_rows.proofs.ledger.Ledger.note_at.Goals as goal

-- the row has its moments in bounds, before and after
pub deadline_of-waited-requires : goal.deadline_of-waited-requires
deadline_of-waited-requires c =
    let rows = c.self.inside.rows.list in
    let k = c.args.key in
    let place : IsPlaceOf rows k c.args.place = subst (λ (t : Ledger). IsPlaceOf t.list k c.args.place) (sym c.self.view_is) c.requires.place in
    let found : find_row rows k ≡ Some c.at-row.result.now = c.at-row.ensures.found k place in
    subst (λ o. IfSome o HasMoments) found (found_if HasMoments k rows c.self.invariant.counted.moments)

pub at-noted-requires : goal.at-noted-requires
at-noted-requires c =
    let place : IsPlaceOf c.self.inside.rows.list c.args.key c.args.place = subst (λ (t : Ledger). IsPlaceOf t.list c.args.key c.args.place) (sym c.self.view_is) c.requires.place in
    let there = c.note_at.ensures.place c.args.key place in
    there.within

pub deadline_of-waits-requires : goal.deadline_of-waits-requires
deadline_of-waits-requires c =
    let rows = c.self.inside.rows.list in
    let k = c.args.key in
    let place : IsPlaceOf rows k c.args.place = subst (λ (t : Ledger). IsPlaceOf t.list k c.args.place) (sym c.self.view_is) c.requires.place in
    let found : find_row rows k ≡ Some c.at-row.result.now = c.at-row.ensures.found k place in
    let change : c.note_at.new.self.list ≡ change_row (noted_row c.args.fact c.args.moment) rows k = c.note_at.ensures.rows k place in
    let there : IsPlaceOf c.note_at.new.self.list k c.args.place = c.note_at.ensures.place k place in
    let found_now : find_row c.note_at.new.self.list k ≡ Some c.at-noted.result.now = c.at-noted.ensures.found k there in
    let moments : All HasMoments (change_row (noted_row c.args.fact c.args.moment) rows k) = subst (λ (t : Ledger). All HasMoments (change_row (noted_row c.args.fact c.args.moment) t.list k)) (sym c.self.view_is) c.requires.moments in
    subst (λ o. IfSome o HasMoments) found_now (subst (λ l. IfSome (find_row l k) HasMoments) (sym change) (found_if HasMoments k (change_row (noted_row c.args.fact c.args.moment) rows k) moments))

-- the bytes are within bounds
pub overflow_sub-self : goal.overflow_sub-self
overflow_sub-self c =
    let rows = c.self.inside.rows.list in
    let k = c.args.key in
    let place : IsPlaceOf rows k c.args.place = subst (λ (t : Ledger). IsPlaceOf t.list k c.args.place) (sym c.self.view_is) c.requires.place in
    let found : find_row rows k ≡ Some c.at-row.result.now = c.at-row.ensures.found k place in
    let low : c.self.inside.bytes ≤ most_counted = omega (arith, c.self.ranges) in
    let room : fact_bytes c.args.fact ≤ most_counted - result_bytes rows = subst (λ (t : Ledger). fact_bytes c.args.fact ≤ most_counted - result_bytes t.list) (sym c.self.view_is) c.requires.bytes in
    let was : c.result_bytes-before.result ≡ min (bytes_at (find_row rows k)) most_counted = c.result_bytes-before.ensures ∙ ap (λ o. min (bytes_at o) most_counted) (sym found) in
    changed_less (noted_row c.args.fact c.args.moment) (λ r. noted_key c.args.fact c.args.moment r) rows c.self.inside.bytes k (fact_bytes c.args.fact) c.self.invariant.counted c.at-row.ensures.ascending (λ r. fact_brings c.args.fact c.args.moment r) room low c.result_bytes-before.result was

pub overflow_add-self : goal.overflow_add-self
overflow_add-self c =
    let rows = c.self.inside.rows.list in
    let k = c.args.key in
    let place : IsPlaceOf rows k c.args.place = subst (λ (t : Ledger). IsPlaceOf t.list k c.args.place) (sym c.self.view_is) c.requires.place in
    let found : find_row rows k ≡ Some c.at-row.result.now = c.at-row.ensures.found k place in
    let change : c.note_at.new.self.list ≡ change_row (noted_row c.args.fact c.args.moment) rows k = c.note_at.ensures.rows k place in
    let there : IsPlaceOf c.note_at.new.self.list k c.args.place = c.note_at.ensures.place k place in
    let found_now : find_row c.note_at.new.self.list k ≡ Some c.at-noted.result.now = c.at-noted.ensures.found k there in
    let low : c.self.inside.bytes ≤ most_counted = omega (arith, c.self.ranges) in
    let room : fact_bytes c.args.fact ≤ most_counted - result_bytes rows = subst (λ (t : Ledger). fact_bytes c.args.fact ≤ most_counted - result_bytes t.list) (sym c.self.view_is) c.requires.bytes in
    let was : c.result_bytes-before.result ≡ min (bytes_at (find_row rows k)) most_counted = c.result_bytes-before.ensures ∙ ap (λ o. min (bytes_at o) most_counted) (sym found) in
    let is : c.result_bytes-after.result ≡ min (bytes_at (find_row (change_row (noted_row c.args.fact c.args.moment) rows k) k)) most_counted = c.result_bytes-after.ensures ∙ (ap (λ o. min (bytes_at o) most_counted) (sym found_now) ∙ ap (λ l. min (bytes_at (find_row l k)) most_counted) change) in
    let most = changed_more (noted_row c.args.fact c.args.moment) (λ r. noted_key c.args.fact c.args.moment r) rows c.self.inside.bytes k (fact_bytes c.args.fact) c.self.invariant.counted c.at-row.ensures.ascending (λ r. fact_brings c.args.fact c.args.moment r) room low c.result_bytes-before.result was c.result_bytes-after.result is in
    omega (arith, most)

-- there is a place for each deadline, and for each key
pub refile-requires : goal.refile-requires
refile-requires c =
    let rows = c.self.inside.rows.list in
    let k = c.args.key in
    let place : IsPlaceOf rows k c.args.place = subst (λ (t : Ledger). IsPlaceOf t.list k c.args.place) (sym c.self.view_is) c.requires.place in
    let found : find_row rows k ≡ Some c.at-row.result.now = c.at-row.ensures.found k place in
    let change : c.note_at.new.self.list ≡ change_row (noted_row c.args.fact c.args.moment) rows k = c.note_at.ensures.rows k place in
    let there : IsPlaceOf c.note_at.new.self.list k c.args.place = c.note_at.ensures.place k place in
    let found_now : find_row c.note_at.new.self.list k ≡ Some c.at-noted.result.now = c.at-noted.ensures.found k there in
    let waited : c.deadline_of-waited.result ≡ deadline_at (find_row rows k) = c.deadline_of-waited.ensures ∙ ap deadline_at (sym found) in
    let waits : c.deadline_of-waits.result ≡ deadline_at (find_row c.note_at.new.self.list k) = c.deadline_of-waits.ensures ∙ ap deadline_at (sym found_now) in
    let moves : Moves c.self.inside.deadlines.list rows c.note_at.new.self.list k = subst (λ l. Moves c.self.inside.deadlines.list rows l k) (sym change) (moves_changed (noted_row c.args.fact c.args.moment) (λ r. noted_key c.args.fact c.args.moment r) c.self.inside.deadlines.list rows k c.at-row.ensures.ascending c.self.invariant.filed.waits) in
    let many : length c.note_at.new.self.list ≡ length rows = ap length change ∙ length_changed (noted_row c.args.fact c.args.moment) rows k in
    let enough = c.self.invariant.filed.places in
    refile_room rows c.note_at.new.self.list k c.self.inside.deadlines c.self.invariant.filed moves c.deadline_of-waited.result c.deadline_of-waits.result waited waits (omega (arith, many, enough))

pub review-requires-clause-before : goal.review-requires-clause-before
review-requires-clause-before c =
    let rows = c.self.inside.rows.list in
    let k = c.args.key in
    let place : IsPlaceOf rows k c.args.place = subst (λ (t : Ledger). IsPlaceOf t.list k c.args.place) (sym c.self.view_is) c.requires.place in
    let found : find_row rows k ≡ Some c.at-row.result.now = c.at-row.ensures.found k place in
    marked_before c.self.inside.number rows k c.at-row.ensures.ascending c.self.inside.live.list c.self.invariant.live c.is_live-was_live.result (c.is_live-was_live.ensures ∙ ap (is_live_at c.self.inside.number) (sym found))

pub review-requires-clause-place : goal.review-requires-clause-place
review-requires-clause-place c = λ on none.
    let rows = c.self.inside.rows.list in
    let k = c.args.key in
    let place : IsPlaceOf rows k c.args.place = subst (λ (t : Ledger). IsPlaceOf t.list k c.args.place) (sym c.self.view_is) c.requires.place in
    let found : find_row rows k ≡ Some c.at-row.result.now = c.at-row.ensures.found k place in
    let change : c.note_at.new.self.list ≡ change_row (noted_row c.args.fact c.args.moment) rows k = c.note_at.ensures.rows k place in
    let there : IsPlaceOf c.note_at.new.self.list k c.args.place = c.note_at.ensures.place k place in
    let found_now : find_row c.note_at.new.self.list k ≡ Some c.at-noted.result.now = c.at-noted.ensures.found k there in
    let live : marked c.is_live-lives.result c.self.inside.live.list k ≡ live_keys c.self.inside.number c.note_at.new.self.list =
    marked_after c.self.inside.number (noted_row c.args.fact c.args.moment) (λ r. noted_key c.args.fact c.args.moment r) rows c.note_at.new.self.list k c.at-row.ensures.ascending change c.self.inside.live.list c.self.invariant.live c.is_live-lives.result (c.is_live-lives.ensures ∙ ap (is_live_at c.self.inside.number) (sym found_now)) in
    let many : length c.note_at.new.self.list ≡ length rows = ap length change ∙ length_changed (noted_row c.args.fact c.args.moment) rows k in
    let enough = c.self.invariant.places in
    room_left c.self.inside.number c.is_live-lives.result c.self.inside.live.list k c.note_at.new.self.list c.self.inside.live.places live (omega (arith, many, enough)) on none

-- and all is counted
pub invariant_of-self : goal.invariant_of-self
invariant_of-self c =
    let rows = c.self.inside.rows.list in
    let k = c.args.key in
    let place : IsPlaceOf rows k c.args.place = subst (λ (t : Ledger). IsPlaceOf t.list k c.args.place) (sym c.self.view_is) c.requires.place in
    let found : find_row rows k ≡ Some c.at-row.result.now = c.at-row.ensures.found k place in
    let change : c.note_at.new.self.list ≡ change_row (noted_row c.args.fact c.args.moment) rows k = c.note_at.ensures.rows k place in
    let there : IsPlaceOf c.note_at.new.self.list k c.args.place = c.note_at.ensures.place k place in
    let found_now : find_row c.note_at.new.self.list k ≡ Some c.at-noted.result.now = c.at-noted.ensures.found k there in
    let low : c.self.inside.bytes ≤ most_counted = omega (arith, c.self.ranges) in
    let room : fact_bytes c.args.fact ≤ most_counted - result_bytes rows = subst (λ (t : Ledger). fact_bytes c.args.fact ≤ most_counted - result_bytes t.list) (sym c.self.view_is) c.requires.bytes in
    let was : c.result_bytes-before.result ≡ min (bytes_at (find_row rows k)) most_counted = c.result_bytes-before.ensures ∙ ap (λ o. min (bytes_at o) most_counted) (sym found) in
    let is : c.result_bytes-after.result ≡ min (bytes_at (find_row (change_row (noted_row c.args.fact c.args.moment) rows k) k)) most_counted = c.result_bytes-after.ensures ∙ (ap (λ o. min (bytes_at o) most_counted) (sym found_now) ∙ ap (λ l. min (bytes_at (find_row l k)) most_counted) change) in
    let moments : All HasMoments (change_row (noted_row c.args.fact c.args.moment) rows k) = subst (λ (t : Ledger). All HasMoments (change_row (noted_row c.args.fact c.args.moment) t.list k)) (sym c.self.view_is) c.requires.moments in
    let waited : c.deadline_of-waited.result ≡ deadline_at (find_row rows k) = c.deadline_of-waited.ensures ∙ ap deadline_at (sym found) in
    let waits : c.deadline_of-waits.result ≡ deadline_at (find_row c.note_at.new.self.list k) = c.deadline_of-waits.ensures ∙ ap deadline_at (sym found_now) in
    let moves : Moves c.self.inside.deadlines.list rows c.note_at.new.self.list k = subst (λ l. Moves c.self.inside.deadlines.list rows l k) (sym change) (moves_changed (noted_row c.args.fact c.args.moment) (λ r. noted_key c.args.fact c.args.moment r) c.self.inside.deadlines.list rows k c.at-row.ensures.ascending c.self.invariant.filed.waits) in
    let many : length c.note_at.new.self.list ≡ length rows = ap length change ∙ length_changed (noted_row c.args.fact c.args.moment) rows k in
    let live : marked c.is_live-lives.result c.self.inside.live.list k ≡ live_keys c.self.inside.number c.note_at.new.self.list =
    marked_after c.self.inside.number (noted_row c.args.fact c.args.moment) (λ r. noted_key c.args.fact c.args.moment r) rows c.note_at.new.self.list k c.at-row.ensures.ascending change c.self.inside.live.list c.self.invariant.live c.is_live-lives.result (c.is_live-lives.ensures ∙ ap (is_live_at c.self.inside.number) (sym found_now)) in
    let next = c.sooner-self-inside.result in
    let enough = c.self.invariant.places in
    let places = c.review.ensures.places in
    let filed_places = c.self.invariant.filed.places in
    record {
      counted =
          subst (λ l. IsCounted l (c.self.inside.bytes - c.result_bytes-before.result + c.result_bytes-after.result)) (sym change)
          (changed_counted (noted_row c.args.fact c.args.moment) (λ r. noted_key c.args.fact c.args.moment r) rows c.self.inside.bytes k (fact_bytes c.args.fact) c.self.invariant.counted c.at-row.ensures.ascending (λ r. fact_brings c.args.fact c.args.moment r) room low c.result_bytes-before.result was c.result_bytes-after.result is moments);
      filed =
          refiled_filed rows c.note_at.new.self.list k c.self.inside.deadlines c.self.invariant.filed moves c.deadline_of-waited.result c.deadline_of-waits.result waited waits c.refile.new.self c.refile.ensures.list
          (omega (arith, many, filed_places, c.refile.ensures.places));
      live = c.review.ensures.list ∙ live;
      places = omega (arith, many, enough, places);
      stay =
          subst (λ l. All (StaysUntil c.self.inside.number l next) l) (sym change)
          (stays_changed (noted_row c.args.fact c.args.moment) (λ r. noted_key c.args.fact c.args.moment r) c.self.inside.number rows k c.self.inside.next_purge next c.at-row.ensures.ascending c.sooner-self-inside.ensures.earlier c.self.invariant.stay
          (subst (λ l. IfSome (find_row l k) (StaysUntil c.self.inside.number l next)) change (c.sooner-self-inside.ensures.stays k there)));
    }

pub returns-clause-rows : goal.returns-clause-rows
returns-clause-rows c =
    let rows = c.self.inside.rows.list in
    let k = c.args.key in
    let place : IsPlaceOf rows k c.args.place = subst (λ (t : Ledger). IsPlaceOf t.list k c.args.place) (sym c.self.view_is) c.requires.place in
    let found : find_row rows k ≡ Some c.at-row.result.now = c.at-row.ensures.found k place in
    let change : c.note_at.new.self.list ≡ change_row (noted_row c.args.fact c.args.moment) rows k = c.note_at.ensures.rows k place in
    change ∙ ap (λ (t : Ledger). change_row (noted_row c.args.fact c.args.moment) t.list k) c.self.view_is

pub returns-clause-room : goal.returns-clause-room
returns-clause-room c =
    let rows = c.self.inside.rows.list in
    let k = c.args.key in
    let place : IsPlaceOf rows k c.args.place = subst (λ (t : Ledger). IsPlaceOf t.list k c.args.place) (sym c.self.view_is) c.requires.place in
    let found : find_row rows k ≡ Some c.at-row.result.now = c.at-row.ensures.found k place in
    let change : c.note_at.new.self.list ≡ change_row (noted_row c.args.fact c.args.moment) rows k = c.note_at.ensures.rows k place in
    let many : length c.note_at.new.self.list ≡ length rows = ap length change ∙ length_changed (noted_row c.args.fact c.args.moment) rows k in
    let room = ap (λ (t : Ledger). t.room) c.self.view_is in
    let places = c.review.ensures.places in
    let left = c.note_at.ensures.room in
    let more = c.refile.ensures.places in
    omega (arith, many, room, places, left, more)

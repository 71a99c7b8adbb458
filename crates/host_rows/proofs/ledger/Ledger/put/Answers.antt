use Rattle.std.proofs.Common.{◌≡◌, ◌∙◌, All, IfSome, false, None, Some, length, suc, ap, ap₂, sym, subst, arith}
use Rattle.run_states.specs.Rows.{find_row, IsPlaceOf}
use Rattle.host_rows.specs.LiveKeys.{marked}
use Rattle.host_rows.specs.Still.{live_keys}
use Rattle.host_rows.specs.Deadlines.{deadline_at}
use Rattle.host_rows.specs.Ledger.{is_live_at, IsCounted, Ledger, StaysUntil}
use Rattle.host_rows.proofs.FiledLemmas.{moves_put, refile_room, refiled_filed, Moves}
use Rattle.host_rows.proofs.LiveLemmas.{found_put, length_put, live_new, marked_before, room_left}
use Rattle.host_rows.proofs.LedgerLemmas.{put_counted}
use Rattle.host_rows.proofs.StayLemmas.{stays_less_if, stays_put}
use Rattle.host_rows.proofs.ledger.Ledger.put.Goals as goal

pub invariant_of-self : goal.invariant_of-self
invariant_of-self c =
    let rows = c.self.inside.rows.list in
    let none : find_row rows c.args.row.key ≡ None = subst (λ (t : Ledger). find_row t.list c.args.row.key ≡ None) (sym c.self.view_is) c.requires.new_key in
    let many : length c.put-place.new.self.list ≡ suc (length rows) = ap length c.put-place.ensures.rows ∙ length_put rows c.args.row in
    let found : find_row c.put-place.new.self.list c.args.row.key ≡ Some c.args.row = ap (λ l. find_row l c.args.row.key) c.put-place.ensures.rows ∙ found_put 0 rows c.args.row none in
    let waits : c.deadline_of-waits.result ≡ deadline_at (find_row c.put-place.new.self.list c.args.row.key) = c.deadline_of-waits.ensures ∙ ap deadline_at (sym found) in
    let moves : Moves c.self.inside.deadlines.list rows c.put-place.new.self.list c.args.row.key = subst (λ l. Moves c.self.inside.deadlines.list rows l c.args.row.key) (sym c.put-place.ensures.rows) (moves_put c.self.inside.deadlines.list rows c.args.row c.in_order-known.ensures.ascending none c.self.invariant.filed.waits) in
    let room = ap (λ (t : Ledger). t.room) c.self.view_is in
    let some = c.requires.room in
    let n = c.self.inside.number in
    let live : marked c.is_live-lives.result c.self.inside.live.list c.args.row.key ≡ live_keys n c.put-place.new.self.list =
    ap₂ (λ b ks. marked b ks c.args.row.key) (c.is_live-lives.ensures ∙ ap (is_live_at n) (sym (found_put 0 rows c.args.row none))) c.self.invariant.live
    ∙ (live_new n rows c.args.row c.in_order-known.ensures.ascending none ∙ ap (live_keys n) (sym c.put-place.ensures.rows)) in
    let places = c.review.ensures.places in
    let next = c.sooner_before-self-inside.result in
    let first = c.sooner-own.ensures.earlier in
    let second = c.sooner_before-self-inside.ensures.earlier in
    record {
      counted =
          subst (λ l. IsCounted l c.self.inside.bytes) (sym c.put-place.ensures.rows)
          (put_counted rows c.self.inside.bytes c.self.invariant.counted c.args.row c.requires.moments c.requires.bytes);
      filed =
          refiled_filed rows c.put-place.new.self.list c.args.row.key c.self.inside.deadlines c.self.invariant.filed moves None c.deadline_of-waits.result (sym (ap deadline_at none)) waits c.refile.new.self c.refile.ensures.list
          (omega (arith, many, room, some, c.refile.ensures.places));
      live = c.review.ensures.list ∙ live;
      places = omega (arith, many, places, room, some);
      stay =
          subst (λ l. All (StaysUntil n l next) l) (sym c.put-place.ensures.rows)
          (stays_put n rows c.args.row c.put-place.result c.self.inside.next_purge next c.in_order-known.ensures.ascending none c.put-place.ensures.gap (omega (arith, first, second))
          (λ i k is at.
          subst (λ l. IfSome (find_row l k) (StaysUntil n l next)) c.put-place.ensures.rows (c.sooner_before-self-inside.ensures.stays i k is (subst (λ l. IsPlaceOf l k i) (sym c.put-place.ensures.rows) at)))
          c.self.invariant.stay
          (subst (λ l. IfSome (find_row l c.args.row.key) (StaysUntil n l next)) c.put-place.ensures.rows (stays_less_if n c.put-place.new.self.list next c.sooner-own.result (find_row c.put-place.new.self.list c.args.row.key) second (c.sooner-own.ensures.stays c.args.row.key c.put-place.ensures.place))));
    }

-- there is a place for its deadline
pub refile-requires : goal.refile-requires
refile-requires c =
    let rows = c.self.inside.rows.list in
    let none : find_row rows c.args.row.key ≡ None = subst (λ (t : Ledger). find_row t.list c.args.row.key ≡ None) (sym c.self.view_is) c.requires.new_key in
    let many : length c.put-place.new.self.list ≡ suc (length rows) = ap length c.put-place.ensures.rows ∙ length_put rows c.args.row in
    let found : find_row c.put-place.new.self.list c.args.row.key ≡ Some c.args.row = ap (λ l. find_row l c.args.row.key) c.put-place.ensures.rows ∙ found_put 0 rows c.args.row none in
    let waits : c.deadline_of-waits.result ≡ deadline_at (find_row c.put-place.new.self.list c.args.row.key) = c.deadline_of-waits.ensures ∙ ap deadline_at (sym found) in
    let moves : Moves c.self.inside.deadlines.list rows c.put-place.new.self.list c.args.row.key = subst (λ l. Moves c.self.inside.deadlines.list rows l c.args.row.key) (sym c.put-place.ensures.rows) (moves_put c.self.inside.deadlines.list rows c.args.row c.in_order-known.ensures.ascending none c.self.invariant.filed.waits) in
    let room = ap (λ (t : Ledger). t.room) c.self.view_is in
    let some = c.requires.room in
    refile_room rows c.put-place.new.self.list c.args.row.key c.self.inside.deadlines c.self.invariant.filed moves None c.deadline_of-waits.result (sym (ap deadline_at none)) waits (omega (arith, many, room, some))

-- and for its key, where it is live
pub review-requires-clause-before : goal.review-requires-clause-before
review-requires-clause-before c =
    let rows = c.self.inside.rows.list in
    let none : find_row rows c.args.row.key ≡ None = subst (λ (t : Ledger). find_row t.list c.args.row.key ≡ None) (sym c.self.view_is) c.requires.new_key in
    let n = c.self.inside.number in
    marked_before n rows c.args.row.key c.in_order-known.ensures.ascending c.self.inside.live.list c.self.invariant.live false (sym (ap (is_live_at n) none))

pub review-requires-clause-place : goal.review-requires-clause-place
review-requires-clause-place c = λ on absent.
    let rows = c.self.inside.rows.list in
    let none : find_row rows c.args.row.key ≡ None = subst (λ (t : Ledger). find_row t.list c.args.row.key ≡ None) (sym c.self.view_is) c.requires.new_key in
    let many : length c.put-place.new.self.list ≡ suc (length rows) = ap length c.put-place.ensures.rows ∙ length_put rows c.args.row in
    let room = ap (λ (t : Ledger). t.room) c.self.view_is in
    let some = c.requires.room in
    let n = c.self.inside.number in
    let live : marked c.is_live-lives.result c.self.inside.live.list c.args.row.key ≡ live_keys n c.put-place.new.self.list =
    ap₂ (λ b ks. marked b ks c.args.row.key) (c.is_live-lives.ensures ∙ ap (is_live_at n) (sym (found_put 0 rows c.args.row none))) c.self.invariant.live
    ∙ (live_new n rows c.args.row c.in_order-known.ensures.ascending none ∙ ap (live_keys n) (sym c.put-place.ensures.rows)) in
    room_left n c.is_live-lives.result c.self.inside.live.list c.args.row.key c.put-place.new.self.list c.self.inside.live.places live (omega (arith, many, room, some)) on absent

pub returns-clause-room : goal.returns-clause-room
returns-clause-room c =
    let rows = c.self.inside.rows.list in
    let many : length c.put-place.new.self.list ≡ suc (length rows) = ap length c.put-place.ensures.rows ∙ length_put rows c.args.row in
    let room = ap (λ (t : Ledger). t.room) c.self.view_is in
    let places = c.review.ensures.places in
    let left = c.put-place.ensures.room in
    let more = c.refile.ensures.places in
    omega (arith, many, room, places, left, more)

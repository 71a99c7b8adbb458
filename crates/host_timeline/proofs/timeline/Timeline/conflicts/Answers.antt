use Rattle.std.proofs.Common.{◌≡◌, ◌∙◌, ◌++◌, Some, ap, subst, sym}
use Rattle.std.specs.List.Sorted.{IsPermutation}
use Rattle.ps_time.specs.Key.{key_cmp}
use Rattle.ps_time.specs.Sorted.{IsAscending}
use Rattle.ps_time.specs.Span.{Span}
use Rattle.host_timeline.specs.Booking.{conflicting, conflicts_with, keys_of}
use Rattle.host_timeline.specs.Lane.{Have}
use Rattle.host_timeline.specs.Timeline.{Timeline, IsAscendingBookings}
use Rattle.host_timeline.proofs.KeysLemmas.{sorted_conflicts}
use Rattle.host_timeline.proofs.Least.{ascending_passing}
use Rattle.host_timeline.proofs.timeline.Timeline.conflicts.Goals as goal

-- those of both lists, sorted
pub returns-clause-keys : goal.returns-clause-keys
returns-clause-keys c =
    let class = c.args.class in
    let s = c.args.interval.now in
    let bs = c.args.self.now.list in
    let xs = c.beside-exclusive.result.0 in
    let ys = c.beside-exclusive.result.1 in
    let seen : c.self.inside.bookings.list ≡ bs = ap (λ (t : Timeline). t.list) c.self.view_is in
    let have : Have class s.start (Some s.end) bs xs ys = subst (λ (i : Span). Have class i.start (Some i.end) bs xs ys) c.interval.view_is c.beside-exclusive.ensures.have in
    let gathered : c.add_conflicts-2.new.keys.items ≡ keys_of (conflicting class s xs) ++ keys_of (conflicting class s ys) =
    c.in_ok-add_conflicts-2.ensures ∙ ap (λ l. l ++ keys_of (conflicting class s ys)) (c.in_ok-add_conflicts.ensures ∙ ap (λ l. l ++ keys_of (conflicting class s xs)) c.new-keys.ensures.items) in
    let moved : IsPermutation (keys_of (conflicting class s xs) ++ keys_of (conflicting class s ys)) c.sort.new.self.items = subst (λ l. IsPermutation l c.sort.new.self.items) gathered c.in_ok-sort.ensures.permutation in
    c.from_vec.ensures ∙ sorted_conflicts class s bs xs ys c.sort.new.self.items have (subst IsAscendingBookings seen c.self.invariant.in_order.ascending) moved c.in_ok-sort.ensures.sorted

-- the bookings are ascending, so the keys of some of them are
pub returns-clause-ascending : goal.returns-clause-ascending
returns-clause-ascending c =
    let seen : c.self.inside.bookings.list ≡ c.args.self.now.list = ap (λ (t : Timeline). t.list) c.self.view_is in
    subst (IsAscending key_cmp (λ k. k)) (sym (returns-clause-keys c)) (ascending_passing (conflicts_with c.args.class c.args.interval.now) c.args.self.now.list (subst IsAscendingBookings seen c.self.invariant.in_order.ascending))

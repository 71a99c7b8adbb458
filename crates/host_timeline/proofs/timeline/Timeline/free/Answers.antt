use Rattle.std.proofs.Common.{◌≡◌, ◌∙◌, Bool, not, ap, subst, refl}
use Rattle.std.proofs.Math.Facts.{to_z-of_z}
use Rattle.std.specs.List.{filter}
use Rattle.ps_time.specs.Starts.{tier_of}
use Rattle.host_timeline.specs.declared.booking.Booking.{Booking}
use Rattle.host_timeline.specs.Booking.{can_preempt}
use Rattle.host_timeline.specs.Free.{is_free, is_freeable}
use Rattle.ps_time.specs.Span.{Range}
use Rattle.host_timeline.specs.Lane.{Decide}
use Rattle.host_timeline.specs.Sweep.{is_near, is_clear}
use Rattle.host_timeline.proofs.NearLemmas.{first_tier, near_alike, second_tier, swept_filter, AllAlike}
use Rattle.host_timeline.proofs.timeline.Timeline.free.Goals as goal

pub windows_beside-requires : goal.windows_beside-requires
windows_beside-requires c = rw c.as_slice.ensures.value c.in_ok-near.ensures.swept

-- what may be preempted goes, and the rest keeps its order
pub windows_beside-requires-2 : goal.windows_beside-requires-2
windows_beside-requires-2 c =
    let firm : c.keep_firm.new.near.items ≡ filter (λ b. not (can_preempt c.args.priority c.args.moment b)) c.in_ok-near.near.items = subst (λ p. c.keep_firm.new.near.items ≡ filter (λ b. not (can_preempt p c.args.moment b)) c.in_ok-near.near.items) (to_z-of_z c.ranges.priority) c.keep_firm.ensures in
    rw (c.as_slice-2.ensures.value, firm) (swept_filter c.args.length (λ b. not (can_preempt c.args.priority c.args.moment b)) c.in_ok-near.near.items c.in_ok-near.ensures.swept)

pub returns : goal.returns
returns c =
    let bookings = c.args.self.now.list in
    let near = c.in_ok-near.near.items in
    let stays : Booking → Bool = λ b. not (can_preempt c.args.priority c.args.moment b) in
    let first_is : c.window.inside.first ≡ c.args.window.first = ap (λ (w : Range). w.first) c.window.view_is in
    let decide : Decide c.args.class c.args.window.first c.reach-until.result bookings c.beside-exclusive.result.0 c.beside-exclusive.result.1 = subst (λ f. Decide c.args.class f c.reach-until.result bookings c.beside-exclusive.result.0 c.beside-exclusive.result.1) first_is c.beside-exclusive.ensures.decide in
    let alike : AllAlike (filter (is_near c.args.class c.args.length c.args.window) bookings) near = near_alike c.args.class c.args.length c.args.window c.reach-until.result c.reach-until.ensures bookings c.beside-exclusive.result.0 c.beside-exclusive.result.1 near decide c.in_ok-near.ensures.all in
    let firm : c.keep_firm.new.near.items ≡ filter stays near = subst (λ p. c.keep_firm.new.near.items ≡ filter (λ b. not (can_preempt p c.args.moment b)) near) (to_z-of_z c.ranges.priority) c.keep_firm.ensures in
    let first : c.in_ok-first.first ≡ tier_of (is_free c.args.class c.args.length bookings) c.args.window =
    c.in_ok-first.ensures ∙ ap (λ l. tier_of (is_clear c.args.length l) c.args.window) c.as_slice.ensures.value ∙ first_tier c.args.class c.args.length c.args.window bookings near alike in
    let second : c.in_ok-second.second ≡ tier_of (is_freeable c.args.class c.args.length c.args.priority c.args.moment bookings) c.args.window =
    c.in_ok-second.ensures ∙ ap (λ l. tier_of (is_clear c.args.length l) c.args.window) (c.as_slice-2.ensures.value ∙ firm) ∙ second_tier c.args.class c.args.length c.args.window c.args.priority c.args.moment bookings near alike in
    rw (first, second) refl

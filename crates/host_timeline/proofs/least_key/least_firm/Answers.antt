use Rattle.std.proofs.Common.{◌≡◌, ◌∙◌, Bool, Some, None, cond, ap, sym}
use Rattle.std.proofs.Math.Facts.{to_z-of_z}
use Rattle.host_timeline.specs.declared.booking.Booking.{Booking}
use Rattle.host_timeline.specs.Booking.{firm, is_firm, keys_of, least_key, lesser_of}
use Rattle.host_timeline.proofs.Least.{least_turn}
use Rattle.host_timeline.proofs.least_key.least_firm.Goals as goal

pub loop-booking-preserved : goal.loop-booking-preserved
loop-booking-preserved c =
    let read = to_z-of_z c.ranges.priority in
    let b = c.in-Some.booking.now in
    let rest = c.next.new.self in
    let passes : Booking → Bool = is_firm c.args.class c.args.interval.now c.args.priority c.args.moment in
    let is : c.is_firm-firm.result ≡ passes b = rw read at c.is_firm-firm.ensures in
    let made : c.lesser_of-least.result ≡ lesser_of c.loop-booking.least (cond (passes b) (Some b.key) None) =
    c.lesser_of-least.ensures ∙ ap (lesser_of c.loop-booking.least) (c.key_if.ensures ∙ ap (λ x. cond x (Some b.key) None) is) in
    let left = rw read at c.loop-booking.invariant in
    rw read (ap (λ l. lesser_of l (least_key (keys_of (firm c.args.class c.args.interval.now c.args.priority c.args.moment rest)))) made
    ∙ sym (least_turn passes c.loop-booking.least c.loop-booking.booking-iterator b rest c.in-Some.ensures.steps)
    ∙ left)

use Rattle.std.proofs.Common.{◌≡◌, ◌∙◌, ◌&&◌, Bool, Some, None, cond, ap, sym}
use Rattle.host_timeline.specs.declared.booking.Booking.{Booking}
use Rattle.host_timeline.specs.Booking.{conflicting_after, conflicts_with, is_after, keys_of, least_key, lesser_of}
use Rattle.host_timeline.proofs.Least.{least_turn}
use Rattle.host_timeline.proofs.least_key.least_conflict.Goals as goal

pub loop-booking-preserved : goal.loop-booking-preserved
loop-booking-preserved c =
    let b = c.in-Some.booking.now in
    let rest = c.next.new.self in
    let passes : Booking → Bool = λ b. is_after c.args.after b.key && conflicts_with c.args.class c.args.interval.now b in
    let made : c.lesser_of-least.result ≡ lesser_of c.loop-booking.least (cond (passes b) (Some b.key) None) =
    c.lesser_of-least.ensures ∙ ap (lesser_of c.loop-booking.least) (c.key_if.ensures ∙ ap (λ x. cond x (Some b.key) None) c.conflicts_after-later.ensures) in
    ap (λ l. lesser_of l (least_key (keys_of (conflicting_after c.args.class c.args.interval.now c.args.after rest)))) made
    ∙ sym (least_turn passes c.loop-booking.least c.loop-booking.booking-iterator b rest c.in-Some.ensures.steps)
    ∙ c.loop-booking.invariant

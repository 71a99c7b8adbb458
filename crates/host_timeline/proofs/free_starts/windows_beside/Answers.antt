use Rattle.std.proofs.Common.{◌≡◌, ◌∙◌, sym, ap, refl, take, max, arith}
use Rattle.ps_time.specs.Numbers.{most_intervals}
use Rattle.ps_time.specs.Span.{Range}
use Rattle.host_timeline.specs.declared.booking.Booking.{Booking}
use Rattle.host_timeline.specs.Sweep.{barred_from, window_before, window_to, with_window}
use Rattle.host_timeline.proofs.SweepLemmas.{swept_windows, sweep_on, sweep_end}
use Rattle.host_timeline.proofs.free_starts.windows_beside.Goals as goal

pub loop-booking-init : goal.loop-booking-init
loop-booking-init c =
    let first : c.window.inside.first ≡ c.args.window.now.first = ap (λ (w : Range). w.first) c.window.view_is in
    record { bound = rw c.new-windows.ensures (omega arith); left = rw (c.new-windows.ensures, first) refl }

pub loop-booking-preserved : goal.loop-booking-preserved
loop-booking-preserved c =
    let last : c.window.inside.last ≡ c.args.window.now.last = ap (λ (w : Range). w.last) c.window.view_is in
    let before : c.window_before.result ≡ window_before c.loop-booking.from (barred_from c.args.length c.booking-item.result) c.args.window.now.last = c.window_before.ensures ∙ ap (λ until. window_before c.loop-booking.from until c.window.inside.last) c.barred_from-until.ensures ∙ ap (window_before c.loop-booking.from (barred_from c.args.length c.booking-item.result)) last in
    let made : c.add_window.new.windows ≡ with_window c.loop-booking.windows (window_before c.loop-booking.from (barred_from c.args.length c.booking-item.result) c.args.window.now.last) = c.in_ok-add_window.ensures.list ∙ ap (with_window c.loop-booking.windows) before in
    let next : c.max-from.result ≡ max c.loop-booking.from c.booking-item.result.interval.end = c.max-from.ensures ∙ ap (λ (b : Booking). max c.loop-booking.from b.interval.end) c.booking.view_is in
    record {
      bound = c.in_ok-add_window.ensures.bound;
      left = c.loop-booking.invariant.left ∙ sweep_on c.args.length c.args.window.now.last c.args.bookings.now c.loop-booking.booking-index c.booking-item.result c.loop-booking.from c.loop-booking.windows c.loop-booking-test.true c.booking-item.is ∙ rw (made, next) refl;
    }

pub returns : goal.returns
returns c =
    let last : c.window.inside.last ≡ c.args.window.now.last = ap (λ (w : Range). w.last) c.window.view_is in
    let made : c.add_window-2.new.windows ≡ with_window c.loop-booking.windows (window_to c.loop-booking.from c.args.window.now.last) = c.in_ok-add_window-2.ensures.list ∙ ap (with_window c.loop-booking.windows) (c.window_to.ensures ∙ ap (window_to c.loop-booking.from) last) in
    made ∙ sym (sweep_end c.args.length c.args.window.now.last c.args.bookings.now c.loop-booking.booking-index c.loop-booking.from c.loop-booking.windows c.loop-booking-test.false)
    ∙ sym c.loop-booking.invariant.left ∙ ap (take most_intervals) (sym (swept_windows c.args.length c.args.window.now.last c.args.bookings.now c.requires c.args.window.now.first))

use Rattle.std.proofs.Common.{Bool, rules, tests, not}
use Rattle.std.proofs.lemmas.Fn.{filter_same}
use Rattle.host_timeline.specs.declared.booking.Booking.{Booking}
use Rattle.host_timeline.specs.Booking.{can_preempt}
use Rattle.host_timeline.proofs.free_starts.keep_firm.Goals as goal

-- the closure is the test
pub returns : goal.returns
returns c =
    let stays : Booking → Bool = λ b. not (can_preempt c.args.priority c.args.moment b) in
    filter_same _ stays _ (λ x b f' k. search (rules, tests)) _ _ c.retain.ensures.filtered

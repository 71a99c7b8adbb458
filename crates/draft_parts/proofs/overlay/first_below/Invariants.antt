use Rattle.std.specs.Prelude.{find}
use Rattle.std.proofs.Common.{◌≡◌, length}
use Rattle.host_timeline.specs.Booking.{conflicting_after, keys_of}
use Rattle.draft_parts.specs.Overlay.{meets_below}
use Rattle.draft_parts.proofs.overlay.first_below.Given as goal

-- the keys above the last one decide
abbrev pub invariant-loop-key : goal.invariant-loop-key
invariant-loop-key l =
    find (meets_below l.moment l.sought l.touched.list l.gone l.book.list) (keys_of (conflicting_after l.sought.class l.sought.interval l.sought.after l.timeline.list))
    ≡ find (meets_below l.moment l.sought l.touched.list l.gone l.book.list) (keys_of (conflicting_after l.sought.class l.sought.interval l.last l.timeline.list))

abbrev pub decreases-loop-key : goal.decreases-loop-key
decreases-loop-key l = length (keys_of (conflicting_after l.sought.class l.sought.interval l.last l.timeline.list))

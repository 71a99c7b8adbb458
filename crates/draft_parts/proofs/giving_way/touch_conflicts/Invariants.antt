use Rattle.std.proofs.Common.{◌≡◌, length}
use Rattle.ps_time.specs.declared.key.RunKey.{RunKey}
use Rattle.host_timeline.specs.Booking.{conflicting, conflicting_after, keys_of}
use Rattle.draft_parts.specs.Overlay.{over}
use Rattle.draft_parts.specs.Way.{touched_each}
use Rattle.draft_parts.proofs.giving_way.touch_conflicts.Given as goal

-- copies change nothing of what is found, and the keys above the last one are left
abbrev pub invariant-loop-key : goal.invariant-loop-key
invariant-loop-key l = record {
  same : (k : RunKey) → over l.touched.list l.gone l.book.list k ≡ over l.initial.touched.list l.gone l.book.list k;
  left : touched_each l.gone l.book.list (keys_of (conflicting l.run.class l.run.interval l.timeline.list)) l.initial.touched.list
      ≡ touched_each l.gone l.book.list (keys_of (conflicting_after l.run.class l.run.interval l.last l.timeline.list)) l.touched.list;
}

abbrev pub decreases-loop-key : goal.decreases-loop-key
decreases-loop-key l = length (keys_of (conflicting_after l.run.class l.run.interval l.last l.timeline.list))

use Rattle.std.proofs.Common.{◌≡◌, drop, map}
use Rattle.ps_disks.specs.History.{half_replayed}
use Rattle.ps_disks.specs.declared.history.RecentCall.{RecentCall}
use Rattle.ps_disks.proofs.history.replay_half.Given as goal

abbrev pub invariant-loop-call : goal.invariant-loop-call
invariant-loop-call l = half_replayed l.bytes.items (map (λ (r : RecentCall). r.logged) (drop l.call-index l.recent)) ≡ half_replayed l.fn.bytes.items (map (λ (r : RecentCall). r.logged) l.recent)

use Rattle.std.proofs.Common.{◌≡◌, All, length}
use Rattle.ps_doors.specs.Porch.{HasShare}
use Rattle.ps_sockets.proofs.socket_porch.open_doors.Given as goal

-- so many doors were made, each with a share
abbrev pub invariant-loop-place : goal.invariant-loop-place
invariant-loop-place g l = record {
  number : length l.doors.items ≡ l.place;
  no_fault : All (λ d. d.faults ≡ 0) l.doors.items;
  shares : All (λ d. HasShare l.fn.most d.share) l.doors.items;
  left : HasShare l.fn.most l.left;
}

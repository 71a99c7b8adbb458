use Rattle.std.proofs.Common.{◌-◌, vec_len}
use Rattle.ps_sockets.proofs.waiting_room.WaitingRoom.first_ready.Given as goal

abbrev pub decreases-loop-place : goal.decreases-loop-place
decreases-loop-place g l = vec_len l.self.seats - l.place

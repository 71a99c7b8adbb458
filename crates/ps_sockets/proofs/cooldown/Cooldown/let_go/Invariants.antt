use Rattle.std.proofs.Common.{◌-◌, vec_len}
use Rattle.ps_sockets.proofs.cooldown.Cooldown.let_go.Given as goal

abbrev pub decreases-loop-place : goal.decreases-loop-place
decreases-loop-place l = vec_len l.self.rests - l.place

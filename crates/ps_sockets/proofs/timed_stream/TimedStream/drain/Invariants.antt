use Rattle.ps_sockets.proofs.timed_stream.TimedStream.drain.Given as goal

abbrev pub decreases-loop-most : goal.decreases-loop-most
decreases-loop-most g l = l.most

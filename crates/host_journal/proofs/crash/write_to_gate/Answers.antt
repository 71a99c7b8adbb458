use Rattle.std.proofs.Common.{◌+◌}
use Rattle.ps_disks.specs.Disk.{written}
use Rattle.ps_disks.specs.History.{bytes_now}
use Rattle.host_journal.proofs.CrashLemmas.{gate_written}
use Rattle.host_journal.proofs.crash.write_to_gate.Goals as goal

pub returns : goal.returns
returns c =
    gate_written c.args.end (written (c.args.end + 1) c.args.piece.now (bytes_now c.args.disk.now.history)) c.write_at.new.self c.sync.new.self c.write_at-2.new.self c.write_at-2.result c.in_ok-write_at.ensures.written
    c.in_ok-sync.ensures.makes.1 c.write_at-2.ensures.makes

use Rattle.std.proofs.Common.{◌≡◌, false}
use Rattle.http_connection.specs.Call.{Going}
use Rattle.http_connection.specs.Metered.{IsFair, Used, seen}
use Rattle.http_connection.proofs.connection.serve_reader.Given as goal

abbrev pub invariant-loop : goal.invariant-loop
invariant-loop g l =
    let left = g.M.Source.left in
    let written = g.M.Sink.written in
    let old = l.fn.reader in
    let now = l.reader in record {
      fits : g.V.Service.fits l.service l.token;
      fresh : now.refused ≡ false;
      fair : IsFair (seen left written g.M.Source.read_faults g.M.Sink.write_faults now.source);
      name : now.source.stream.ghost_name ≡ old.source.stream.ghost_name;
      used : Used (seen left written g.M.Source.read_faults g.M.Sink.write_faults old.source) (seen left written g.M.Source.read_faults g.M.Sink.write_faults now.source);
      went : Going (g.V.Service.answers l.service) l.address l.fn.token l.token old.held now.held (left old.source.stream.now) (left now.source.stream.now)
          (written old.source.stream.now) (written now.source.stream.now);
    }

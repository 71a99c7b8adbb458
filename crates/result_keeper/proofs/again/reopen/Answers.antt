use Rattle.sqlite.specs.Files.{file_state, over_files}
use Rattle.result_keeper.proofs.AgainLemmas.{again_on}
use Rattle.result_keeper.specs.Keeper.{store_of}
use Rattle.result_keeper.proofs.again.reopen.Goals as goal

pub returns-in-Ok : goal.returns-in-Ok
returns-in-Ok g c = record {
  table = λ table keeps. again_on (λ k. store_of over_files k) (file_state c.args.keeper.conn) (file_state c.in-Ok.conn) table c.take_files.result keeps
      c.in-Ok.ensures.begun (rw c.into_connection.ensures.same at c.in-Ok.ensures.same) (rw c.into_connection.ensures.same at c.in-Ok.ensures.live) c.take_files.ensures.clean c.take_files.ensures.table;
}

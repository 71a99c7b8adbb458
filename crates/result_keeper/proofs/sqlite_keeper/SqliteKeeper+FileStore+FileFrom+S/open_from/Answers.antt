use Rattle.sqlite.specs.Files.{file_state, over_files}
use Rattle.sqlite.specs.WalFiles.{image_at}
use Rattle.result_keeper.proofs.OpenLemmas.{found_on}
use Rattle.result_keeper.specs.Keeper.{store_of}
use Rattle.result_keeper.proofs.sqlite_keeper.SqliteKeeper+FileStore+FileFrom+S.open_from.Goals as goal

pub returns-in-Ok-clause-table : goal.returns-in-Ok-clause-table
returns-in-Ok-clause-table g c = found_on c.take_files.result (λ k. store_of over_files k) (file_state c.in-Ok.conn) (image_at g.S.Start) c.take_files.ensures.clean c.in-Ok.ensures.opened c.in-Ok.ensures.found c.take_files.ensures.table

use Rattle.sqlite.proofs.Callers.{finds_again}
use Rattle.sqlite.specs.Files.{file_state, image_of}
use Rattle.result_keeper.proofs.OpenLemmas.{begun_with}
use Rattle.result_keeper.proofs.again.reopen_files.Goals as goal

pub returns-in-Ok-open_files-clause-begun : goal.returns-in-Ok-open_files-clause-begun
returns-in-Ok-open_files-clause-begun g c clean =
    let opened = c.in-Ok-open_files.ensures.opened clean in
    begun_with (file_state c.in-Ok-open_files.again) (image_of g.D.Disk c.in-Ok.files) opened.0 opened.1 (c.in-Ok-open_files.ensures.found clean).reads

pub returns-in-Ok-open_files-clause-same : goal.returns-in-Ok-open_files-clause-same
returns-in-Ok-open_files-clause-same g c clean = finds_again c.args.conn c.in-Ok-open_files.again c.in-Ok.files c.in-Ok.ensures.copied (c.in-Ok-open_files.ensures.found clean)

pub returns-in-Ok-open_files-clause-live : goal.returns-in-Ok-open_files-clause-live
returns-in-Ok-open_files-clause-live g c clean = (c.requires (c.in-Ok.ensures.copied (c.in-Ok-open_files.ensures.found clean).honest).was_open).0

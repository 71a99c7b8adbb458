use Rattle.std.proofs.Common.{◌≤◌, length, rules}
use Rattle.ps_files.proofs.FileLemmas.{writing_more}
use Rattle.ps_files.proofs.file_disk.write_whole.Goals as goal

pub loop-rest-preserved : goal.loop-rest-preserved
loop-rest-preserved g c =
    let within : c.in_ok-count.count ≤ length c.loop-rest.rest.now = search rules in
    record {
      in_reach = search rules;
      writing = writing_more _ _ _ _ _ _ _ _ within c.loop-rest.invariant.writing c.in_ok-count.ensures.made;
    }

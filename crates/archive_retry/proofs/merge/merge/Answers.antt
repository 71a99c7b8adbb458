use Rattle.std.proofs.Common.{arith}
use Rattle.archive_retry.proofs.MergeLemmas.{merged_whole, merged_depth, merged_shallow, all_flat}
use Rattle.archive_retry.specs.Merge.{merged}
use Rattle.archive_retry.proofs.merge.merge.Goals as goal

pub write_text-requires-clause-whole : goal.write_text-requires-clause-whole
write_text-requires-clause-whole c = rw c.in_ok-value.ensures (merged_whole c.args.hosts.now c.args.results.now c.requires.results)

pub write_text-requires-clause-flat : goal.write_text-requires-clause-flat
write_text-requires-clause-flat c = rw c.in_ok-value.ensures (merged_shallow c.args.hosts.now c.args.results.now c.requires.results)

pub returns-clause-whole : goal.returns-clause-whole
returns-clause-whole c = merged_whole c.args.hosts.now c.args.results.now c.requires.results

pub returns-clause-reads : goal.returns-clause-reads
returns-clause-reads c = λ flat.
    let shallow = merged_depth 60 c.args.hosts.now c.args.results.now flat in
    rw c.in_ok-value.ensures at c.in_ok-text.ensures.reads (omega (arith, shallow))

pub returns-clause-kept : goal.returns-clause-kept
returns-clause-kept c = λ are.
    let shallow = merged_depth 60 c.args.hosts.now c.args.results.now (all_flat c.args.results.now are) in
    record {
      tree = merged c.args.hosts.now c.args.results.now;
      reads = rw c.in_ok-value.ensures at c.in_ok-text.ensures.reads (omega (arith, shallow));
      flat = omega (arith, shallow);
      whole = merged_whole c.args.hosts.now c.args.results.now c.requires.results;
    }

use Rattle.std.proofs.Common.{rules, tests}
use Rattle.ps_ports.proofs.AllLemmas.{Wrote-more, Wrote-kept, prefix_of, prefix_of-more}
use Rattle.ps_ports.proofs.all.write_all.Goals as goal

pub loop-rest-preserved : goal.loop-rest-preserved
loop-rest-preserved g c = record {
  later = search rules;
  kept = search rules;
  wrote = Wrote-more _ _ _ _ _ _ c.loop-rest.invariant.wrote c.in-Ok.ensures.bytes;
}

pub returns-in-Ok-eq0-clause-prefix : goal.returns-in-Ok-eq0-clause-prefix
returns-in-Ok-eq0-clause-prefix g c =
    prefix_of-more _ _ _ _ _ _ c.loop-rest.invariant.wrote c.in-Ok-eq0.ensures.bytes (search (rules, tests))

pub returns-in-Err-clause-prefix : goal.returns-in-Err-clause-prefix
returns-in-Err-clause-prefix g c =
    prefix_of _ _ _ _ (Wrote-kept _ _ _ _ _ c.loop-rest.invariant.wrote c.in-Err.ensures.bytes) (search (rules, tests))

use Rattle.std.proofs.Common.{subst, rules}
use Rattle.std.specs.Io.KnownBytes.{Appends}
use Rattle.psched_top.specs.Outcome.{text_of}
use Rattle.psched_top.proofs.OutcomeLemmas.{exactly_of}
use Rattle.psched_top.proofs.psched.psched.Goals as goal

pub returns-in-Ok-clause-rehearsed : goal.returns-in-Ok-clause-rehearsed
returns-in-Ok-clause-rehearsed g c = λ zero asked.
    let done = c.in-Ok.ensures.rehearsed (search rules) asked in
    (done.0, subst (λ o. Appends (g.K.Sink.written c.args.sink.now) (g.K.Sink.written c.tell.new.sink) (text_of o)) done.1 (c.tell.ensures.told (search rules)))

pub returns-in-Ok-clause-validated : goal.returns-in-Ok-clause-validated
returns-in-Ok-clause-validated g c = λ zero asked.
    let done = c.in-Ok.ensures.validated (search rules) asked in
    (done.0, subst (λ o. Appends (g.K.Sink.written c.args.sink.now) (g.K.Sink.written c.tell.new.sink) (text_of o)) done.1 (c.tell.ensures.told (search rules)))

pub returns-in-Ok-clause-generated : goal.returns-in-Ok-clause-generated
returns-in-Ok-clause-generated g c = λ zero count asked.
    let done = c.in-Ok.ensures.generated count asked in
    (done.0, subst (λ o. Appends (g.K.Sink.written c.args.sink.now) (g.K.Sink.written c.tell.new.sink) (text_of o)) done.1 (c.tell.ensures.told (search rules)))

pub returns-in-Ok-clause-exact : goal.returns-in-Ok-clause-exact
returns-in-Ok-clause-exact g c = λ low.
    exactly_of _ _ _ (g.S.Source.read_faults c.args.source.now) (g.S.Source.read_faults c.run.new.source) _ _ _ (record {
      outcome = c.in-Ok.outcome;
      cause = c.in-Ok.ensures.comes;
      status_is = c.tell.ensures.done (search rules);
      written = c.tell.ensures.told (search rules);
    }) low

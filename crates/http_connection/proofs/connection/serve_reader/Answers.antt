use Rattle.std.proofs.Common.{refl, ◌∙◌}
use Rattle.http_connection.proofs.ExchangeLemmas.{going_none, going_then, served_then, served_by}
use Rattle.http_connection.proofs.MeteredLemmas.{fair_new, used_none, used_then}
use Rattle.http_connection.proofs.connection.serve_reader.Goals as goal

pub loop-init : goal.loop-init
loop-init g c = record {
  fits = c.requires.fits;
  fresh = c.requires.fresh.1;
  fair = fair_new c.args.reader.now.source.room c.args.reader.now.source.refusals c.requires.new.1;
  name = refl;
  used = used_none _;
  went = going_none (g.V.Service.answers c.args.service.now) c.args.address.now _ _ _ _;
}

pub loop-preserved : goal.loop-preserved
loop-preserved g c =
    let turn = c.in-None-serve_turn.ensures in
    let loop = c.loop.invariant in record {
      fits = turn.fits;
      fresh = turn.fresh refl;
      fair = turn.used.fair loop.fair;
      name = turn.name ∙ loop.name;
      used = used_then _ _ _ loop.used turn.used;
      went = going_then (g.V.Service.answers c.args.service.now) c.args.address.now _ _ _ _ _ _ _ _ _ _ _ _ loop.went turn.turned.0;
    }

pub returns-in-Some-serve_turn-clause-served : goal.returns-in-Some-serve_turn-clause-served
returns-in-Some-serve_turn-clause-served g c =
    let answers = g.V.Service.answers c.args.service.now in
    let turn = c.in-Some-serve_turn.ensures in
    let loop = c.loop.invariant in
    served_by answers c.args.address.now c.in-Some-serve_turn.end _ _ _ _ _ _ _ c.requires.fresh.0 (used_then _ _ _ loop.used turn.used) c.requires.new.0
    (served_then answers c.args.address.now _ c.in-Some-serve_turn.end _ _ _ _ _ _ _ _ _ _ _ loop.went turn.turned)

pub returns-in-Some-serve_turn-clause-used : goal.returns-in-Some-serve_turn-clause-used
returns-in-Some-serve_turn-clause-used g c = used_then _ _ _ c.loop.invariant.used c.in-Some-serve_turn.ensures.used

use Rattle.std.proofs.Common.{◌∷◌, [], arith, length-append}
use Rattle.std.proofs.lemmas.List.Elements.{All-push}
use Rattle.std.proofs.lemmas.Result.{err_from_is_err_and}
use Rattle.value_bytes.specs.Reading.{times_at}
use Rattle.value_bytes.proofs.Loop.{ends, goes_on, is_done}
use Rattle.host_codec.specs.FirstFormat.{FitsFirst, first_change}
use Rattle.host_codec.proofs.first.read_list.Goals as goal

pub returns-in_err-item : goal.returns-in_err-item
returns-in_err-item c =
    let p = err_from_is_err_and c.from_residual.result c.from_residual.ensures.1 in
    rw (p.1, p.2) (record {
      value = ends first_change.read c.in_err-item.field-0.0 c.loop.items.items c.args.count c.loop.counter c.loop.rest.now (times_at first_change.read c.args.count c.args.bytes.now) c.loop-test.true c.in_err-item.ensures.value c.loop.invariant.so_far;
      count = tt;
      fit = tt;
    })

pub loop-preserved : goal.loop-preserved
loop-preserved c =
    rw c.in_ok-push.ensures.items (record {
      so_far = goes_on first_change.read c.loop.items.items c.args.count c.loop.counter c.loop.rest.now c.in_ok-item.item c.in_ok-item.after.now (times_at first_change.read c.args.count c.args.bytes.now) c.loop-test.true c.in_ok-item.ensures.value c.loop.invariant.so_far;
      number = omega (arith, length-append c.loop.items.items (c.in_ok-item.item ∷ []), c.loop.invariant.number);
      within = omega (arith, c.loop-test.true);
      fit = All-push FitsFirst c.loop.items.items c.in_ok-item.item c.loop.invariant.fit c.in_ok-item.ensures.fits;
    })

pub returns : goal.returns
returns c =
    rw c.from_vec.ensures (record {
      value = is_done first_change.read c.loop.items.items c.args.count c.loop.counter c.loop.rest.now (times_at first_change.read c.args.count c.args.bytes.now) c.loop-test.false c.loop.invariant.so_far;
      count = omega (arith, c.loop.invariant.number, c.loop.invariant.within, c.loop-test.false);
      fit = c.loop.invariant.fit;
    })

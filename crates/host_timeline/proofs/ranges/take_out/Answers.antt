use Rattle.std.proofs.Common.{◌≡◌, ◌∙◌, ◌<◌, ap, sym, refl, length, arith}
use Rattle.std.proofs.lemmas.List.{take-append-drop}
use Rattle.std.specs.List.{remove, remove_range}
use Rattle.host_timeline.proofs.RangeLemmas.{removed_one}
use Rattle.host_timeline.proofs.ranges.take_out.Goals as goal

pub loop-taken-init : goal.loop-taken-init
loop-taken-init c = record {
  list = sym (take-append-drop c.args.from c.args.ranges.now.list);
  len = omega arith;
  places = refl;
  behind = omega arith;
  within = c.requires.ordered;
}

pub remove-requires : goal.remove-requires
remove-requires c = omega (arith, c.loop-taken.invariant.len, c.loop-taken.invariant.behind, c.loop-taken-test.true, c.requires.within)

-- the next one goes
pub loop-taken-preserved : goal.loop-taken-preserved
loop-taken-preserved c =
    let within : c.loop-taken._taken < length c.args.ranges.now.list = omega (arith, c.loop-taken-test.true, c.requires.within) in
    record {
      list = c.remove.ensures.list ∙ ap (λ l. remove l c.args.from) c.loop-taken.invariant.list ∙ removed_one c.args.ranges.now.list c.args.from c.loop-taken._taken c.loop-taken.invariant.behind within;
      len = omega (arith, c.remove.ensures.len, c.loop-taken.invariant.len, c.loop-taken.invariant.behind);
      places = c.remove.ensures.places ∙ c.loop-taken.invariant.places;
      behind = omega (arith, c.loop-taken.invariant.behind);
      within = omega (arith, c.loop-taken-test.true);
    }

pub returns-clause-list : goal.returns-clause-list
returns-clause-list c =
    let all : c.loop-taken._taken ≡ c.args.until = omega (arith, c.loop-taken-test.false, c.loop-taken.invariant.within) in
    c.loop-taken.invariant.list ∙ ap (remove_range c.args.ranges.now.list c.args.from) all

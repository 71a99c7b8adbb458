use Rattle.std.proofs.Common.{◌≡◌, ◌+◌, ◌==◌, Ok, Err, refl, ◌∙◌, sym, ap, rules, tests, arith}
use Rattle.std.proofs.lemmas.Iterator.Consumers.{YieldsList-at, YieldsList-turn, YieldsList-end}
use Rattle.std.proofs.lemmas.Iterator.Splits.{YieldsList-from_slice_split}
use Rattle.std.proofs.lemmas.List.{length-append}
use Rattle.rehearsal_script.specs.Script.{line_of, lines_of}
use Rattle.rehearsal_script.proofs.LawfulLemmas.{first_lawful, lawful_more}
use Rattle.rehearsal_script.proofs.LineLemmas.{lines_from-read, lines_from-refused, lines_from-end, length-lines_of}
use Rattle.rehearsal_script.proofs.read.read_script.Goals as goal

pub loop-line-init : goal.loop-line-init
loop-line-init c = record {
  road = YieldsList-at c.into_iter-line-iterator.ensures.into_iter_gives (YieldsList-from_slice_split _ (λ b. b == 10) c.args.bytes.now c.split-line-items.ensures.rest c.split-line-items.ensures.done c.split-line-items.ensures.closure (λ x r q k. search (rules, tests)));
  count = refl;
  left = rw (c.new.ensures, c.new-2.ensures) refl;
  lawful = rw (c.new.ensures, c.new-2.ensures) first_lawful;
}

-- a number counts a line, and there are few enough
pub overflow_add-number : goal.overflow_add-number
overflow_add-number c =
    let invariant = c.loop-line.invariant in
    let turn = YieldsList-turn invariant.road c.loop-line.yielded _ c.loop-line.yielded_by c.next.result c.next.new.self c.in-Some.line c.in-Some.is c.next.ensures.steps in
    omega (arith, turn.0, invariant.count, length-lines_of c.args.bytes.now)

pub loop-line-preserved : goal.loop-line-preserved
loop-line-preserved c =
    let invariant = c.loop-line.invariant in
    let turn = YieldsList-turn invariant.road c.loop-line.yielded _ c.loop-line.yielded_by c.next.result c.next.new.self c.in-Some.line c.in-Some.is c.next.ensures.steps in
    let lines = lines_of c.args.bytes.now in
    let line = c.in-Some.line.now in
    let reads : line_of c.loop-line.script.hosts line ≡ Ok c.in-Ok.content = sym (ap (λ hosts. line_of hosts line) c.as_slice.ensures) ∙ (sym c.in_ok-content.ensures ∙ c.in-Ok.is) in
    record {
      road = invariant.road;
      count = omega (arith, invariant.count, length-append c.loop-line.yielded);
      left = invariant.left ∙ lines_from-read c.loop-line.script lines c.loop-line.number line c.in-Ok.content _ (omega (arith, turn.0, invariant.count)) (rw invariant.count turn.1) reads c.in_ok-add_line-in-Ok.ensures;
      lawful = lawful_more c.loop-line.script _ (c.loop-line.number + 1) line c.in-Ok.content invariant.lawful reads c.law_kept_limits.ensures c.in_ok-add_line-in-Ok.ensures;
    }

pub returns-in-Err-clause-script : goal.returns-in-Err-clause-script
returns-in-Err-clause-script c =
    let invariant = c.loop-line.invariant in
    let turn = YieldsList-turn invariant.road c.loop-line.yielded _ c.loop-line.yielded_by c.next.result c.next.new.self c.in-Some.line c.in-Some.is c.next.ensures.steps in
    let lines = lines_of c.args.bytes.now in
    let line = c.in-Some.line.now in
    let refuses : line_of c.loop-line.script.hosts line ≡ Err c.in-Err.reason = sym (ap (λ hosts. line_of hosts line) c.as_slice.ensures) ∙ (sym c.in_ok-content.ensures ∙ c.in-Err.is) in
    invariant.left ∙ lines_from-refused c.loop-line.script lines c.loop-line.number line c.in-Err.reason (omega (arith, turn.0, invariant.count)) (rw invariant.count turn.1) refuses

pub returns-clause-script : goal.returns-clause-script
returns-clause-script c =
    let invariant = c.loop-line.invariant in
    let ends = YieldsList-end invariant.road c.loop-line.yielded _ c.loop-line.yielded_by c.next.result c.next.new.self c.in-None.is c.next.ensures.steps in
    invariant.left ∙ lines_from-end c.loop-line.script (lines_of c.args.bytes.now) c.loop-line.number (omega (arith, ends.1, invariant.count))

pub returns-clause-lawful : goal.returns-clause-lawful
returns-clause-lawful c = c.loop-line.invariant.lawful

use Rattle.std.proofs.Common.{◌∙◌, sym, drop, arith}
use Rattle.ps_time.proofs.PictureLemmas.{begins_as-short, begins_as-shown, begins_as-not_shown, begins_as-end}
use Rattle.ps_time.proofs.picture.starts_as.Goals as goal

pub returns-then-text-picture-clause-value : goal.returns-then-text-picture-clause-value
returns-then-text-picture-clause-value c = sym (begins_as-short c.args.picture.now c.args.text.now c.if-text-picture.true)

pub returns-then-not-shows_byte-clause-value : goal.returns-then-not-shows_byte-clause-value
returns-then-not-shows_byte-clause-value c =
    sym (c.loop-i.invariant ∙ begins_as-not_shown c.args.picture.now c.args.text.now c.loop-i.i (omega arith) (omega arith) (sym c.shows_byte.ensures ∙ c.if-not-shows_byte.true))

pub loop-i-preserved : goal.loop-i-preserved
loop-i-preserved c =
    c.loop-i.invariant ∙ begins_as-shown c.args.picture.now c.args.text.now c.loop-i.i (omega arith) (omega arith) (sym c.shows_byte.ensures ∙ c.if-not-shows_byte.false)

pub returns-clause-value : goal.returns-clause-value
returns-clause-value c =
    sym (c.loop-i.invariant ∙ begins_as-end c.args.picture.now (drop c.loop-i.i c.args.text.now) c.loop-i.i (omega arith))

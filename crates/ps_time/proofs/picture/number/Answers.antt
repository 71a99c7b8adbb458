use Rattle.std.proofs.Common.{◌≡◌, take, arith, take_all}
use Rattle.ps_time.proofs.PictureLemmas.{reads_digit, number_bound}
use Rattle.ps_time.proofs.picture.number.Goals as goal

pub overflow_mul-value : goal.overflow_mul-value
overflow_mul-value c =
    let step = reads_digit c.args.digits.now c.loop-digit.digit-index c.requires.digits c.requires.short (omega arith) in
    omega (arith, step.small, c.loop-digit.invariant)

pub overflow_sub-digit : goal.overflow_sub-digit
overflow_sub-digit c =
    let step = reads_digit c.args.digits.now c.loop-digit.digit-index c.requires.digits c.requires.short (omega arith) in step.low

pub overflow_add-value : goal.overflow_add-value
overflow_add-value c =
    let step = reads_digit c.args.digits.now c.loop-digit.digit-index c.requires.digits c.requires.short (omega arith) in
    omega (arith, step.small, step.high, c.loop-digit.invariant)

pub loop-digit-preserved : goal.loop-digit-preserved
loop-digit-preserved c =
    let step = reads_digit c.args.digits.now c.loop-digit.digit-index c.requires.digits c.requires.short (omega arith) in
    omega (arith, step.more, c.loop-digit.invariant)

pub returns-clause-bound : goal.returns-clause-bound
returns-clause-bound c =
    let bound = number_bound c.args.digits.now c.requires.digits c.requires.short in
    let whole : take c.loop-digit.digit-index c.args.digits.now ≡ c.args.digits.now = take_all c.loop-digit.digit-index c.args.digits.now (omega arith) in
    let value = rw whole at c.loop-digit.invariant in
    omega (arith, bound, value)

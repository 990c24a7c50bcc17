use Rattle.std.proofs.Common.{◌+◌, arith}
use Rattle.mn_options.proofs.Digits.{front_below, value_more}
use Rattle.mn_options.proofs.limits.value_of_digits.Goals as goal

pub overflow_mul-value : goal.overflow_mul-value
overflow_mul-value c =
    let more = value_more c.args.digits.now c.loop-digit.digit-index c.requires.digits c.loop-digit-test.true in
    omega (arith, front_below 18 c.args.digits.now (c.loop-digit.digit-index + 1) c.requires.digits c.requires.few)

pub overflow_add-value : goal.overflow_add-value
overflow_add-value c =
    let more = value_more c.args.digits.now c.loop-digit.digit-index c.requires.digits c.loop-digit-test.true in
    omega (arith, front_below 18 c.args.digits.now (c.loop-digit.digit-index + 1) c.requires.digits c.requires.few)

pub loop-digit-preserved : goal.loop-digit-preserved
loop-digit-preserved c =
    let more = value_more c.args.digits.now c.loop-digit.digit-index c.requires.digits c.loop-digit-test.true in
    omega arith

use Rattle.std.proofs.Common.{◌+◌, arith}
use Rattle.mn_lexer.proofs.Numerals.{value_more, value-take-le}
use Rattle.mn_lexer.proofs.numbers.value_of_digits.Goals as goal

pub returns-then-value-gt-NUMBER_LIMIT : goal.returns-then-value-gt-NUMBER_LIMIT
returns-then-value-gt-NUMBER_LIMIT c =
    let more = value_more c.args.digits.now c.loop-digit.digit-index c.requires c.loop-digit-test.true in
    omega (arith, value-take-le c.args.digits.now (c.loop-digit.digit-index + 1))

pub loop-digit-preserved : goal.loop-digit-preserved
loop-digit-preserved c =
    let more = value_more c.args.digits.now c.loop-digit.digit-index c.requires c.loop-digit-test.true in
    record { so_far = omega arith; in_limit = omega arith }

use Rattle.std.proofs.Common.{arith}
use Rattle.mn_printer.proofs.Ones.{one_more_passed}
use Rattle.mn_printer.proofs.declarations.leading_ones.Goals as goal

pub loop-ones-preserved : goal.loop-ones-preserved
loop-ones-preserved c = record {
  within = omega arith;
  passed = one_more_passed c.loop-ones.ones c.args.dims.now c.loop-ones-test.true c.if-dims-ones-eq1.true c.loop-ones.invariant.passed;
}

use Rattle.std.proofs.Common.{arith}
use Rattle.std.proofs.lemmas.Int.{ints}
use Rattle.mn_decls.proofs.values.span.Goals as goal

pub overflow_add-result : goal.overflow_add-result
overflow_add-result c = omega (arith, ints, c.abs_diff.ensures, c.requires.ordered, c.requires.low.0, c.requires.low.1, c.requires.high.0, c.requires.high.1)

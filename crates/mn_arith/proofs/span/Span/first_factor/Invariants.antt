use Rattle.std.proofs.Common.{pos}
use Rattle.std.specs.Int.{int_gap}
use Rattle.mn_arith.proofs.Factors.{SearchedTo}
use Rattle.mn_arith.proofs.span.Span.first_factor.Given as goal

abbrev pub invariant-loop-a : goal.invariant-loop-a
invariant-loop-a l = SearchedTo l.x l.self l.z l.a

-- how many numbers of a word are greater
abbrev pub decreases-loop-a : goal.decreases-loop-a
decreases-loop-a l = int_gap l.a (pos 9223372036854775807)

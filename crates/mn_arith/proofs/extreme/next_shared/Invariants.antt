use Rattle.std.proofs.Common.{pos}
use Rattle.std.specs.Int.{int_gap}
use Rattle.mn_prop.specs.Contexts.{box_of}
use Rattle.mn_arith.proofs.Sharing.{SharedFrom}
use Rattle.mn_arith.proofs.extreme.next_shared.Given as goal

abbrev pub invariant-loop-t : goal.invariant-loop-t
invariant-loop-t l = SharedFrom (box_of l.c) l.t l.u l.a l.b

-- how many numbers of a word are greater
abbrev pub decreases-loop-t : goal.decreases-loop-t
decreases-loop-t l = int_gap l.b (pos 9223372036854775807)

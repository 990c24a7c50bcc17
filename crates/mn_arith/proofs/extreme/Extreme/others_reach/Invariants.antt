use Rattle.mn_prop.specs.Contexts.{box_of}
use Rattle.mn_arith.specs.Extremes.{Reaches}
use Rattle.mn_arith.proofs.Others.{OthersBefore}
use Rattle.mn_arith.proofs.extreme.Extreme.others_reach.Given as goal

-- each of the places so far other than i reaches m
abbrev pub invariant-loop-j : goal.invariant-loop-j
invariant-loop-j l = OthersBefore l.self.terms.now l.j l.i (Reaches l.self.greatest l.m (box_of l.c))

use Rattle.mn_prop.specs.Contexts.{box_of}
use Rattle.mn_arith.specs.Extremes.{Shares}
use Rattle.mn_arith.proofs.Others.{OthersBefore}
use Rattle.mn_arith.proofs.extreme.Extreme.other_shares.Given as goal

-- none of the places so far other than i shares such a value
abbrev pub invariant-loop-j : goal.invariant-loop-j
invariant-loop-j l = OthersBefore l.self.terms.now l.j l.i (λ t. Shares l.self.greatest (box_of l.c) t l.self.x l.m → ⊥)

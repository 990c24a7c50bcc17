use Rattle.mn_boxes.specs.Places.{PlaceHas}
use Rattle.mn_prop.specs.Contexts.{box_of}
use Rattle.mn_arith.proofs.Others.{OthersBefore}
use Rattle.mn_arith.proofs.extreme.Extreme.other_has.Given as goal

-- none of the places so far other than i has m
abbrev pub invariant-loop-j : goal.invariant-loop-j
invariant-loop-j l = OthersBefore l.self.terms.now l.j l.i (λ t. PlaceHas (box_of l.c) t l.m → ⊥)

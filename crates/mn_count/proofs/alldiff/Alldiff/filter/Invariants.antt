use Rattle.mn_count.proofs.Spread.{DiffersTo}
use Rattle.mn_count.proofs.alldiff.Alldiff.filter.Given as goal

-- what the places so far have alone is gone from all others
abbrev pub invariant-loop-i : goal.invariant-loop-i
invariant-loop-i l = DiffersTo l.self.v.now l.self.inst.now.tuples l.initial.c l.c l.i

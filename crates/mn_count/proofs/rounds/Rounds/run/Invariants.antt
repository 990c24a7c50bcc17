use Rattle.mn_count.proofs.Rounding.{Rounded}
use Rattle.mn_count.proofs.rounds.Rounds.run.Given as goal

abbrev pub invariant-loop-self : goal.invariant-loop-self
invariant-loop-self l = Rounded l.d.v.now l.d.inst.now.tuples l.initial.c l.c l.self.taken l.self.open

abbrev pub decreases-loop-self : goal.decreases-loop-self
decreases-loop-self l = l.self.open.left

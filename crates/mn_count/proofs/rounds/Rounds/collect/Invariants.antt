use Rattle.mn_prop.specs.Contexts.{box_of}
use Rattle.mn_count.proofs.Collected.{Collecting}
use Rattle.mn_count.proofs.rounds.Rounds.collect.Given as goal

abbrev pub invariant-loop-i : goal.invariant-loop-i
invariant-loop-i l = Collecting l.d.v.now (box_of l.c) l.initial.self.taken l.initial.self.open l.self.taken l.self.open l.before l.i

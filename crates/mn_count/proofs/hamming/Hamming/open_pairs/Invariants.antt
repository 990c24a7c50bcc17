use Rattle.mn_prop.specs.Contexts.{box_of}
use Rattle.mn_count.proofs.OpenPairs.{Counts}
use Rattle.mn_count.proofs.hamming.Hamming.open_pairs.Given as goal

abbrev pub invariant-loop-i : goal.invariant-loop-i
invariant-loop-i l = Counts (box_of l.c) l.self.v.now l.self.w.now l.i l.count

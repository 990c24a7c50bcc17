use Rattle.mn_prop.specs.Contexts.{box_of}
use Rattle.mn_count.proofs.Tallies.{TalliedTo}
use Rattle.mn_count.proofs.occurrence.Occurrence.tally.Given as goal

-- the entries so far are counted
abbrev pub invariant-loop-i : goal.invariant-loop-i
invariant-loop-i l = TalliedTo (box_of l.c) l.self.k l.self.v.now l.i l.must l.may

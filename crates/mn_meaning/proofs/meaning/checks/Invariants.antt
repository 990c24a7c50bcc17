use Rattle.std.proofs.Common.{◌↔◌, drop}
use Rattle.mn_meaning.specs.Meaning.{HoldsAll}
use Rattle.mn_meaning.proofs.meaning.checks.Given as goal

-- the constraints that are left decide of all
abbrev pub invariant-loop-con : goal.invariant-loop-con
invariant-loop-con l = HoldsAll l.inst.tuples (drop l.con-index l.con-items) l.s ↔ HoldsAll l.inst.tuples l.con-items l.s

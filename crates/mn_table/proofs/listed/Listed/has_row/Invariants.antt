use Rattle.std.proofs.Common.{◌↔◌, length}
use Rattle.mn_meaning.specs.Families.{rows_of}
use Rattle.mn_prop.specs.Contexts.{box_of}
use Rattle.mn_table.specs.Tables.{RowWith}
use Rattle.mn_table.proofs.listed.Listed.has_row.Given as goal

-- the tuples that are left decide of all
abbrev pub invariant-loop-rest : goal.invariant-loop-rest
invariant-loop-rest l = RowWith (box_of l.c) l.self.v.now l.i l.a (rows_of l.arity l.rest) ↔ RowWith (box_of l.c) l.self.v.now l.i l.a (rows_of l.arity l.self.cells.now)

abbrev pub decreases-loop-rest : goal.decreases-loop-rest
decreases-loop-rest l = length l.rest

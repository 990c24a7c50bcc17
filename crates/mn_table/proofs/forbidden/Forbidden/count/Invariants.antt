use Rattle.std.proofs.Common.{◌≤◌, drop}
use Rattle.mn_prop.specs.Contexts.{box_of}
use Rattle.mn_table.specs.Choosing.{rows_in}
use Rattle.mn_table.proofs.Counted.{CountsOn}
use Rattle.mn_table.proofs.forbidden.Forbidden.count.Given as goal

-- those before are counted
abbrev pub invariant-loop-r : goal.invariant-loop-r
invariant-loop-r l = record {
  few : l.n ≤ l.r;
  so_far : CountsOn (box_of l.c) l.self.v.now l.i l.a (rows_in (drop l.r l.rows)) (rows_in l.rows) l.n;
}

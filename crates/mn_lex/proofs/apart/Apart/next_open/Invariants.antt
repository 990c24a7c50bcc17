use Rattle.std.proofs.Common.{◌<◌, ◌≤◌}
use Rattle.mn_prop.specs.Contexts.{box_of}
use Rattle.mn_lex.specs.Orders.{AreOneWhere}
use Rattle.mn_lex.proofs.apart.Apart.next_open.Given as goal

-- the pairs so far have one value
abbrev pub invariant-loop-i : goal.invariant-loop-i
invariant-loop-i l = record {
  behind : l.from ≤ l.i;
  same : AreOneWhere (λ j. (l.from ≤ j) × (j < l.i)) (box_of l.c) l.self.v.now l.self.w.now;
}

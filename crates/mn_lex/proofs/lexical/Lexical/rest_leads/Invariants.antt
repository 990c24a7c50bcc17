use Rattle.std.proofs.Common.{◌↔◌, ◌≤◌, drop, length}
use Rattle.mn_prop.specs.Contexts.{box_of}
use Rattle.mn_lex.specs.Leading.{Leads}
use Rattle.mn_lex.specs.Orders.{greatest_values, least_values}
use Rattle.mn_lex.proofs.lexical.Lexical.rest_leads.Given as goal

-- the places that are left decide of all
abbrev pub invariant-loop-i : goal.invariant-loop-i
invariant-loop-i l = record {
  within : l.i ≤ length l.self.v.now;
  leads :
      Leads l.self.or_equal (least_values (box_of l.c) (drop l.i l.self.v.now)) (greatest_values (box_of l.c) (drop l.i l.self.w.now))
      ↔ Leads l.self.or_equal (least_values (box_of l.c) (drop l.from l.self.v.now)) (greatest_values (box_of l.c) (drop l.from l.self.w.now));
}

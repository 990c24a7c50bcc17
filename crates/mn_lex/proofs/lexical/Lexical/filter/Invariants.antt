use Rattle.mn_lex.proofs.Ordered.{OrderedTo}
use Rattle.mn_lex.proofs.lexical.Lexical.filter.Given as goal

-- the pairs so far have one value
abbrev pub invariant-loop-i : goal.invariant-loop-i
invariant-loop-i l = OrderedTo l.self.or_equal l.self.v.now l.self.w.now l.self.inst.now.tuples l.initial.c l.c l.i

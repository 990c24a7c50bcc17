use Rattle.std.proofs.Common.{int_le, ◌&&◌}
use Rattle.mn_domains.specs.Rows.{passes}
use Rattle.mn_domains.proofs.Firsts.{NoneBefore}
use Rattle.mn_domains.proofs.listed.first_passing.Given as goal

abbrev pub invariant-loop-i : goal.invariant-loop-i
invariant-loop-i l = NoneBefore (λ x. int_le l.from x && passes l.set l.wanted x) l.values l.i

use Rattle.std.proofs.Common.{◌↔◌, ℤ, List, IsTrue, subst}
use Rattle.mn_model.specs.declared.declaration.Tuples.{Tuples}
use Rattle.mn_meaning.specs.Meaning.{HoldsOver, at}
use Rattle.mn_meaning.proofs.meaning.holds.Goals as goal

pub returns : goal.returns
returns c =
    subst (λ (lists : List Tuples). IsTrue c.meets.result ↔ HoldsOver lists (at c.args.s.now) c.args.con.now) c.tuples.ensures
    (subst (λ (s : List ℤ). IsTrue c.meets.result ↔ HoldsOver c.tuples.result.now (at s) c.args.con.now) c.new.ensures c.meets.ensures)

use Rattle.std.proofs.Common.{subst, sym, w64}
use Rattle.std.proofs.lemmas.Int.{to_z-of_z}
use Rattle.mn_prop.specs.Contexts.{ChangedAt}
use Rattle.mn_arith.specs.Extremes.{within}
use Rattle.mn_arith.proofs.extreme.cut.Goals as goal

pub returns-then-greatest : goal.returns-then-greatest
returns-then-greatest c = subst (λ g. ChangedAt (within g c.args.m) c.args.t c.args.c.now c.set_hi.new.self c.set_hi.result) (sym c.if-greatest.true) (rw (to_z-of_z w64 c.args.m c.ranges.m) at c.set_hi.ensures)

pub returns-else-greatest : goal.returns-else-greatest
returns-else-greatest c = subst (λ g. ChangedAt (within g c.args.m) c.args.t c.args.c.now c.set_lo.new.self c.set_lo.result) (sym c.if-greatest.false) (rw (to_z-of_z w64 c.args.m c.ranges.m) at c.set_lo.ensures)

use Rattle.std.proofs.Common.{◌≡◌}
use Rattle.mn_gen.specs.Rings.{ring}
use Rattle.mn_gen.proofs.tables.fill.Given as goal

-- the first constraints are there
abbrev pub invariant-loop-k : goal.invariant-loop-k
invariant-loop-k l = l.inst ≡ ring l.seed l.n l.n l.k

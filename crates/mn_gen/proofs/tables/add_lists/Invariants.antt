use Rattle.std.proofs.Common.{◌≡◌}
use Rattle.mn_gen.specs.Rings.{ring, state_before}
use Rattle.mn_gen.proofs.tables.add_lists.Given as goal

-- the first lists are there, and the draws go on after them
abbrev pub invariant-loop-k : goal.invariant-loop-k
invariant-loop-k l = record {
  ring : l.inst ≡ ring l.seed l.n l.k 0;
  state : l.draws.state ≡ state_before l.seed l.n l.k;
}

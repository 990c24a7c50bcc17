use Rattle.std.proofs.Common.{◌≡◌, ◌++◌, map}
use Rattle.std.specs.List.{range_with_len}
use Rattle.mn_gen.specs.Generated.{draw, state_after}
use Rattle.mn_gen.proofs.tables.draw_more.Given as goal

-- what was drawn so far stands after what was there
abbrev pub invariant-loop : goal.invariant-loop
invariant-loop l = record {
  state : l.draws.state ≡ state_after l.initial.draws.state l.counter;
  cells : l.cells ≡ l.initial.cells ++ map (draw l.initial.draws.state) (range_with_len 0 l.counter);
}

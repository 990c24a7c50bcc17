use Rattle.std.proofs.Common.{◌≡◌, ◌+◌, ◌++◌, map}
use Rattle.std.specs.List.{range_with_len}
use Rattle.mn_references.proofs.indices.push_row.Given as goal

-- the numbers so far stand behind what there was
abbrev pub invariant-loop-i : goal.invariant-loop-i
invariant-loop-i l = l.out.items ≡ l.fn.out.items ++ map (λ i. l.base + i) (range_with_len 0 l.i)

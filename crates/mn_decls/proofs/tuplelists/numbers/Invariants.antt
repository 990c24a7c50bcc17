use Rattle.std.proofs.Common.{◌≡◌, ◌≤◌, pos, [], length}
use Rattle.std.specs.List.{AllByRecursion}
use Rattle.mn_model.specs.Domain.{IsValue}
use Rattle.mn_cursor.specs.Progress.{rest, Moves}
use Rattle.mn_decls.specs.TupleLists.{numbers_at}
use Rattle.mn_decls.proofs.tuplelists.numbers.Given as goal

abbrev pub invariant-loop-number : goal.invariant-loop-number
invariant-loop-number l =
    (numbers_at (pos l.fn.wanted) l.numbers (rest l.c) ≡ numbers_at (pos l.fn.wanted) [] (rest l.fn.c))
    × Moves l.fn.c l.c
    × AllByRecursion IsValue l.numbers
    × (length l.numbers ≤ l.fn.wanted)

abbrev pub decreases-loop-number : goal.decreases-loop-number
decreases-loop-number l = length (rest l.c)

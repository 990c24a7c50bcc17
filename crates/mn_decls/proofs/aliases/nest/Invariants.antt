use Rattle.std.proofs.Common.{◌≡◌, [], length}
use Rattle.mn_cursor.specs.Progress.{rest, Moves}
use Rattle.mn_decls.specs.Aliases.{nest_at}
use Rattle.mn_decls.specs.Brackets.{before_entry, AreOf}
use Rattle.mn_decls.proofs.aliases.nest.Given as goal

abbrev pub invariant-loop-brackets : goal.invariant-loop-brackets
invariant-loop-brackets l =
    (before_entry l.fn.c.problem l.brackets (rest l.c) ≡ nest_at l.fn.c.problem l.fn.dims [] (rest l.fn.c))
    × Moves l.fn.c l.c
    × AreOf l.fn.dims l.brackets

abbrev pub decreases-loop-brackets : goal.decreases-loop-brackets
decreases-loop-brackets l = length (rest l.c)

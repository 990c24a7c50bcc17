use Rattle.std.proofs.Common.{◌≡◌, ◌≤◌, length}
use Rattle.mn_cursor.specs.Progress.{rest, Moves}
use Rattle.mn_decls.specs.Brackets.{behind_entry, AreOf}
use Rattle.mn_decls.proofs.brackets.Brackets.close.Given as goal

abbrev pub invariant-loop-wanted : goal.invariant-loop-wanted
invariant-loop-wanted l =
    (behind_entry l.fn.c.problem l.self l.unfit (rest l.c) ≡ behind_entry l.fn.c.problem l.fn.self l.fn.behind (rest l.fn.c))
    × Moves l.fn.c l.c
    × AreOf l.fn.self.dims.now l.self
    × (length (rest l.c) ≤ length (rest l.fn.c))

abbrev pub decreases-loop-wanted : goal.decreases-loop-wanted
decreases-loop-wanted l = length l.self.wanted.items

use Rattle.std.proofs.Common.{length, ◌-◌}
use Rattle.mn_outside.specs.Faults.{NoneFell}
use Rattle.mn_outside.proofs.Progress.{IsAppended}
use Rattle.mn_outside.proofs.helpers.append_all.Given as goal

abbrev pub invariant-loop-done : goal.invariant-loop-done
invariant-loop-done g l =
    IsAppended (g.F.Files.content l.fn.files) (g.F.Files.content l.files) l.name l.piece l.done
    × NoneFell (g.F.Files.reading l.fn.files) (g.F.Files.reading l.files)
    × NoneFell (g.F.Files.writing l.fn.files) (g.F.Files.writing l.files)

abbrev pub decreases-loop-done : goal.decreases-loop-done
decreases-loop-done g l = length l.piece - l.done

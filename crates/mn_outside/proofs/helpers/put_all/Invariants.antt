use Rattle.std.proofs.Common.{length, ◌-◌}
use Rattle.mn_outside.proofs.Progress.{IsWritten}
use Rattle.mn_outside.proofs.helpers.put_all.Given as goal

abbrev pub invariant-loop-done : goal.invariant-loop-done
invariant-loop-done g l =
    IsWritten (g.O.Sink.content l.fn.out) (g.O.Sink.content l.out) (g.O.Sink.faults l.fn.out) (g.O.Sink.faults l.out) l.piece l.done

abbrev pub decreases-loop-done : goal.decreases-loop-done
decreases-loop-done g l = length l.piece - l.done

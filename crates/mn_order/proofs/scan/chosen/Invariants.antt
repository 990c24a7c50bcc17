use Rattle.mn_order.proofs.Places.{IsBestOf}
use Rattle.mn_order.proofs.scan.chosen.Given as goal

abbrev pub invariant-loop-i : goal.invariant-loop-i
invariant-loop-i l = IsBestOf l.choice l.now l.declared l.i l.best

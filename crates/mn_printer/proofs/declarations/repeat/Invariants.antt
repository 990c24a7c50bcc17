use Rattle.std.proofs.Common.{◌≡◌}
use Rattle.mn_canonical.specs.Lists.{repeated}
use Rattle.mn_printer.specs.Pages.{onto}
use Rattle.mn_printer.proofs.declarations.repeat.Given as goal

-- what is written and what is left to write are the whole
abbrev pub invariant-loop-left : goal.invariant-loop-left
invariant-loop-left l = onto l.page (repeated l.left l.bytes) ≡ onto l.fn.page (repeated l.count l.bytes)

abbrev pub decreases-loop-left : goal.decreases-loop-left
decreases-loop-left l = l.left

use Rattle.std.proofs.Common.{◌≡◌, take}
use Rattle.mn_printer.specs.Pages.{onto}
use Rattle.mn_printer.proofs.names.name.Given as goal

abbrev pub invariant-loop-c : goal.invariant-loop-c
invariant-loop-c l = l.page ≡ onto l.fn.page (take l.c-index l.name)

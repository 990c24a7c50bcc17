use Rattle.std.proofs.Common.{◌≡◌, take}
use Rattle.std.specs.List.{flat_map}
use Rattle.mn_canonical.specs.Canonical.{constraint_line}
use Rattle.mn_printer.specs.Pages.{onto}
use Rattle.mn_printer.proofs.sections.each_constraint.Given as goal

-- what is written so far stands behind what the page had
abbrev pub invariant-loop-con : goal.invariant-loop-con
invariant-loop-con l = l.page ≡ onto l.fn.page (flat_map (constraint_line l.inst) (take l.con-index l.con-items))

use Rattle.std.proofs.Common.{◌≡◌, ◌++◌, map, take}
use Rattle.std.specs.List.{flat_map}
use Rattle.mn_printer.specs.Pages.{onto}
use Rattle.mn_printer.proofs.lists.each_behind.Given as goal

-- what is written so far stands behind what the page had
abbrev pub invariant-loop-item : goal.invariant-loop-item
invariant-loop-item g l = l.page ≡ onto l.fn.page (flat_map (λ y. l.separator ++ y) (map (g.T.Printed.text l.inst) (take l.item-index l.items)))

use Rattle.std.proofs.Common.{◌≡◌, ◌+◌, ◌*◌, ◌++◌, codes, length, map}
use Rattle.std.specs.List.{flat_map}
use Rattle.mn_canonical.specs.Declarations.{nested_text}
use Rattle.mn_sections.specs.Matrices.{rows_of}
use Rattle.mn_printer.specs.Pages.{onto}
use Rattle.mn_printer.proofs.declarations.+nesting.Given as goal

abbrev pub decreases-rows : goal.decreases-rows
decreases-rows l = 2 * length l.dims.now

-- what is written and what is left to write are the whole
abbrev pub invariant-rows-loop-left : goal.invariant-rows-loop-left
invariant-rows-loop-left l = onto l.page (flat_map (λ y. codes "," ++ y) (map (nested_text l.inst l.others) (rows_of l.inner l.left l.rest)))
    ≡ onto l.initial.page (flat_map (λ y. codes "," ++ y) (map (nested_text l.inst l.others) (rows_of l.inner l.initial.left l.initial.rest)))

abbrev pub decreases-rows-loop-left : goal.decreases-rows-loop-left
decreases-rows-loop-left l = l.left

abbrev pub decreases-nested : goal.decreases-nested
decreases-nested l = 2 * length l.dims.now + 1

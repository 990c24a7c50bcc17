use Rattle.std.proofs.Common.{◌≡◌, ◌++◌, codes, map}
use Rattle.std.specs.List.{flat_map}
use Rattle.mn_sections.specs.Matrices.{rows_of}
use Rattle.mn_printer.specs.Pages.{onto}
use Rattle.mn_canonical.specs.Tables.{tuple_text}
use Rattle.mn_printer.proofs.tables.further_tuples.Given as goal

-- what is written and what is left to write are the whole
abbrev pub invariant-loop-left : goal.invariant-loop-left
invariant-loop-left l = onto l.page (flat_map (λ y. codes "," ++ y) (map tuple_text (rows_of l.arity l.left l.rest)))
    ≡ onto l.fn.page (flat_map (λ y. codes "," ++ y) (map tuple_text (rows_of l.arity l.count l.cells)))

abbrev pub decreases-loop-left : goal.decreases-loop-left
decreases-loop-left l = l.left

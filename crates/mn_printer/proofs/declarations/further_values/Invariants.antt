use Rattle.std.proofs.Common.{◌≡◌, ◌-◌, ◌++◌, codes, drop, length, map}
use Rattle.std.specs.Fmt.{signed_decimal}
use Rattle.std.specs.List.{flat_map}
use Rattle.mn_printer.specs.Pages.{onto}
use Rattle.mn_printer.proofs.declarations.further_values.Given as goal

-- what is written and what is left to write are the whole
abbrev pub invariant-loop-i : goal.invariant-loop-i
invariant-loop-i l = onto l.page (flat_map (λ y. codes "," ++ y) (map signed_decimal (drop l.i l.domain))) ≡ onto l.fn.page (flat_map (λ y. codes "," ++ y) (map signed_decimal (drop 1 l.domain)))

abbrev pub decreases-loop-i : goal.decreases-loop-i
decreases-loop-i l = length l.domain - l.i

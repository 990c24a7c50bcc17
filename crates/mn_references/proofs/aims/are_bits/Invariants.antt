use Rattle.std.proofs.Common.{◌≡◌, length}
use Rattle.mn_references.specs.References.{are_bits}
use Rattle.mn_references.specs.Aims.{AreDeclared}
use Rattle.mn_references.proofs.aims.are_bits.Given as goal

-- what is left decides
abbrev pub invariant-loop-left : goal.invariant-loop-left
invariant-loop-left l = record {
  left : are_bits l.inst l.vars ≡ are_bits l.inst l.left;
  declared : AreDeclared l.inst l.left;
}

abbrev pub decreases-loop-left : goal.decreases-loop-left
decreases-loop-left l = length l.left

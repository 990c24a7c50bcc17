use Rattle.std.proofs.Common.{take}
use Rattle.mn_boxes.specs.Boxes.{declared_variables}
use Rattle.mn_domains.specs.Laid.{IsLaid}
use Rattle.mn_domains.proofs.layout.layout_of.Given as goal

abbrev pub invariant-loop-k : goal.invariant-loop-k
invariant-loop-k l = IsLaid l.layout (declared_variables (take l.k l.inst.decls))

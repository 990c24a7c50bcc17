use Rattle.std.proofs.Common.{rules, to_z, of_z, w64, FitsSigned}
use Rattle.std.proofs.lemmas.Int.{to_z-of_z}
use Rattle.mn_references.proofs.Bits.{then_decides, else_decides}
use Rattle.mn_references.proofs.aims.is_bit.Goals as goal

pub returns-then-lo-ge0 : goal.returns-then-lo-ge0
returns-then-lo-ge0 c =
    let low : FitsSigned w64 c.lo.result = search rules in
    let high : FitsSigned w64 c.hi.result = search rules in
    then_decides _ c.domain-domain.result.now c.lo.result c.hi.result (to_z w64 (of_z w64 c.lo.result)) (to_z w64 (of_z w64 c.hi.result)) c.domain-domain.ensures c.lawful.ensures c.lo.ensures c.hi.ensures (to_z-of_z w64 c.lo.result low) (to_z-of_z w64 c.hi.result high) (search rules)

pub returns-else-lo-ge0 : goal.returns-else-lo-ge0
returns-else-lo-ge0 c =
    let low : FitsSigned w64 c.lo.result = search rules in
    else_decides _ c.domain-domain.result.now c.lo.result (to_z w64 (of_z w64 c.lo.result)) c.domain-domain.ensures c.lawful.ensures c.lo.ensures (to_z-of_z w64 c.lo.result low) (search rules)

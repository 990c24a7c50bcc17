use Rattle.std.proofs.Common.{FitsSigned, rules, w64}
use Rattle.std.proofs.lemmas.Int.{to_z-of_z}
use Rattle.mn_arith.proofs.Declaring.{ends_of_domain}
use Rattle.mn_arith.proofs.declared.declared_of.Goals as goal

pub invariant_of-result-clause-low : goal.invariant_of-result-clause-low
invariant_of-result-clause-low c =
    let low : FitsSigned w64 c.lo-lo.result = search rules in
    let ends = ends_of_domain c.domain-domain.result.now c.lo-lo.result c.hi-hi.result c.lawful.ensures c.lo-lo.ensures c.hi-hi.ensures in
    rw (to_z-of_z w64 c.lo-lo.result low) ends.low

pub invariant_of-result-clause-high : goal.invariant_of-result-clause-high
invariant_of-result-clause-high c =
    let high : FitsSigned w64 c.hi-hi.result = search rules in
    let ends = ends_of_domain c.domain-domain.result.now c.lo-lo.result c.hi-hi.result c.lawful.ensures c.lo-lo.ensures c.hi-hi.ensures in
    rw (to_z-of_z w64 c.hi-hi.result high) ends.high

pub invariant_of-result-clause-order : goal.invariant_of-result-clause-order
invariant_of-result-clause-order c =
    let low : FitsSigned w64 c.lo-lo.result = search rules in
    let high : FitsSigned w64 c.hi-hi.result = search rules in
    let ends = ends_of_domain c.domain-domain.result.now c.lo-lo.result c.hi-hi.result c.lawful.ensures c.lo-lo.ensures c.hi-hi.ensures in
    rw (to_z-of_z w64 c.lo-lo.result low, to_z-of_z w64 c.hi-hi.result high) ends.order

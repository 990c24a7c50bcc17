use Rattle.std.proofs.Common.{FitsSigned, rules, w64}
use Rattle.std.proofs.lemmas.Int.{to_z-of_z}
use Rattle.mn_model.proofs.Ordered.{le_so}
use Rattle.mn_prop.specs.Contexts.{box_of}
use Rattle.mn_arith.proofs.Finding.{spans_so}
use Rattle.mn_arith.proofs.found.Found.spans.Goals as goal

pub returns-then-self-lo : goal.returns-then-self-lo
returns-then-self-lo c e =
    let s = c.args.self.now in
    let low : FitsSigned w64 c.lo.result = search rules in
    let high : FitsSigned w64 c.hi.result = search rules in
    let from : FitsSigned w64 s.lo = search rules in
    let to : FitsSigned w64 s.hi = search rules in
    spans_so (box_of c.args.c.now) c.args.t s.lo s.hi c.lo.result c.hi.result c.lo.ensures.least c.hi.ensures.greatest (le_so s.lo c.lo.result (rw (to_z-of_z w64 s.lo from, to_z-of_z w64 c.lo.result low) at c.if-self-lo.true)) (le_so c.hi.result s.hi (rw (to_z-of_z w64 c.hi.result high, to_z-of_z w64 s.hi to) at e))

use Rattle.std.proofs.Common.{FitsSigned, rules, w64, arith, sym, true≢false}
use Rattle.std.proofs.lemmas.Int.{ints, to_z-of_z}
use Rattle.mn_model.proofs.Ordered.{le_true}
use Rattle.mn_arith.proofs.Factors.{first_so, multiple_so, so_multiple}
use Rattle.mn_arith.proofs.span.Span.has_multiple.Goals as goal

pub returns-then-self-first : goal.returns-then-self-first
returns-then-self-first c =
    let s = c.args.self in
    let z = c.args.z in
    let first = c.greater-first.result in
    let lo : FitsSigned w64 c.args.self.lo = search rules in
    let hi : FitsSigned w64 c.args.self.hi = search rules in
    let least : FitsSigned w64 c.args.z.lo = search rules in
    let up : FitsSigned w64 c.ceiling.result = search rules in
    let f : FitsSigned w64 c.greater-first.result = search rules in
    let enough = rw (to_z-of_z w64 c.args.z.lo least, to_z-of_z w64 c.args.a c.ranges.a) at c.ceiling.ensures in
    let both = rw (to_z-of_z w64 c.args.self.lo lo, to_z-of_z w64 c.ceiling.result up) at c.greater-first.ensures in
    let is = first_so c.args.a c.ceiling.result first s z enough both.first both.second both.one in
    let past = c.if-self-first.true in
    (λ never. absurd (true≢false (sym never)), λ some. absurd (let within = (so_multiple c.args.a first s z c.requires.above is some).0 in omega (arith, ints, within, past, hi, f)))

pub returns : goal.returns
returns c =
    let s = c.args.self in
    let z = c.args.z in
    let first = c.greater-first.result in
    let lo : FitsSigned w64 c.args.self.lo = search rules in
    let hi : FitsSigned w64 c.args.self.hi = search rules in
    let least : FitsSigned w64 c.args.z.lo = search rules in
    let most : FitsSigned w64 c.args.z.hi = search rules in
    let up : FitsSigned w64 c.ceiling.result = search rules in
    let f : FitsSigned w64 c.greater-first.result = search rules in
    let t : FitsSigned w64 c.times.result = search rules in
    let enough = rw (to_z-of_z w64 c.args.z.lo least, to_z-of_z w64 c.args.a c.ranges.a) at c.ceiling.ensures in
    let both = rw (to_z-of_z w64 c.args.self.lo lo, to_z-of_z w64 c.ceiling.result up) at c.greater-first.ensures in
    let is = first_so c.args.a c.ceiling.result first s z enough both.first both.second both.one in
    let within = c.if-self-first.false in
    let product_is = rw (to_z-of_z w64 c.args.a c.ranges.a, to_z-of_z w64 c.greater-first.result f) at c.times.ensures in
    rw (to_z-of_z w64 c.times.result t, to_z-of_z w64 c.args.z.hi most) (
      (λ e. multiple_so c.args.a first s z is (omega (arith, ints, within, hi, f)) (omega (arith, ints, product_is, e))),
      λ some. (let few = (so_multiple c.args.a first s z c.requires.above is some).1 in le_true c.times.result c.args.z.hi (omega (arith, ints, few, product_is))),
    )

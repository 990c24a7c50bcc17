use Rattle.std.proofs.Common.{FitsSigned, rules, w64, arith, subst, sym}
use Rattle.std.proofs.lemmas.Int.{ints, to_z-of_z}
use Rattle.mn_model.specs.Domain.{stretch}
use Rattle.mn_domains.specs.Held.{AreEndsOf}
use Rattle.mn_domains.proofs.Parts.{Ascends-part}
use Rattle.mn_domains.proofs.ShapeLemmas.{between_span, stretch_alone, value_between}
use Rattle.mn_domains.proofs.shape.only.Goals as goal

pub stretched-requires-clause-low : goal.stretched-requires-clause-low
stretched-requires-clause-low c =
    let span = rw c.in-Stretch.is at c.requires.shape in
    let within = rw c.in-Stretch.is at c.requires.held.within in
    let b = between_span c.args.ends c.args.a c.requires.held.ends.ordered (rw c.in-Stretch.is at c.requires.has) in
    rw (to_z-of_z w64 c.args.a c.ranges.a) (value_between c.in-Stretch.field-0 c.in-Stretch.field-1 c.args.a span.low span.high (omega (arith, ints, within.0, b.low)) (omega (arith, ints, within.1, b.high)))

pub stretched-requires-clause-high : goal.stretched-requires-clause-high
stretched-requires-clause-high c =
    let span = rw c.in-Stretch.is at c.requires.shape in
    let within = rw c.in-Stretch.is at c.requires.held.within in
    let b = between_span c.args.ends c.args.a c.requires.held.ends.ordered (rw c.in-Stretch.is at c.requires.has) in
    rw (to_z-of_z w64 c.args.a c.ranges.a) (value_between c.in-Stretch.field-0 c.in-Stretch.field-1 c.args.a span.low span.high (omega (arith, ints, within.0, b.low)) (omega (arith, ints, within.1, b.high)))

pub only-requires-clause-ascends : goal.only-requires-clause-ascends
only-requires-clause-ascends c =
    let listing = rw c.in-Listed.is at c.requires.shape in
    let within = rw c.in-Listed.is at c.requires.held.within in
    Ascends-part c.args.listed.now c.in-Listed.field-0 c.in-Listed.field-1 c.args.ends listing.ascends within.0 within.1

pub returns-in-Stretch : goal.returns-in-Stretch
returns-in-Stretch c =
    let within = rw c.in-Stretch.is at c.requires.held.within in
    let has = rw c.in-Stretch.is at c.requires.has in
    let b = between_span c.args.ends c.args.a c.requires.held.ends.ordered has in
    let ends = rw (to_z-of_z w64 c.args.a c.ranges.a) at c.stretched.ensures.ends in
    let lo = rw (to_z-of_z w64 c.args.a c.ranges.a) at c.stretched.ensures.lo in
    let hi = rw (to_z-of_z w64 c.args.a c.ranges.a) at c.stretched.ensures.hi in
    let r = c.stretched.result in
    let own : AreEndsOf (stretch r.lo r.hi) r = subst (λ l. AreEndsOf (stretch l r.hi) r) (sym lo) (subst (λ h. AreEndsOf (stretch c.args.a h) r) (sym hi) ends) in
    rw c.in-Stretch.is (record {
      held = record { ends = own; within = (omega (arith, ints, within.0, b.low, lo), omega (arith, ints, within.1, b.high, hi)) };
      values = rw (lo, hi) (stretch_alone c.args.ends.lo c.args.ends.hi c.args.a c.requires.held.ends.ordered has);
    })

pub returns-in-Bits-clause-held : goal.returns-in-Bits-clause-held
returns-in-Bits-clause-held c =
    let base : FitsSigned w64 c.in-Bits.lo = search rules in
    let e = rw (to_z-of_z w64 c.in-Bits.lo base) at c.only-in-Bits.ensures in
    let within = rw c.in-Bits.is at c.requires.held.within in
    rw c.in-Bits.is (record { ends = e.ends; within = (e.row.low, omega (arith, ints, e.high, within.1)) })

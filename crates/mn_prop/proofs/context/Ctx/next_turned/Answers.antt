use Rattle.std.proofs.Common.{FitsSigned, pos, ℤ, ◌+ℤ◌, ◌≤ℤ◌, ◌∙◌, to_z, rules, sym, true≢false, w64, arith}
use Rattle.std.proofs.lemmas.Int.{ints, to_z-of_z}
use Rattle.mn_prop.specs.Contexts.{box_of}
use Rattle.mn_prop.proofs.Trying.{first_tried, next_tried}
use Rattle.mn_prop.proofs.context.Ctx.next_turned.Goals as goal

pub loop-v-init : goal.loop-v-init
loop-v-init c =
    let high : FitsSigned w64 c.hi-hi.result = search rules in
    let next : FitsSigned w64 (c.args.a +ℤ pos 1) = search rules in
    rw (to_z-of_z w64 c.args.a c.ranges.a, to_z-of_z w64 (c.args.a +ℤ pos 1) next, to_z-of_z w64 c.hi-hi.result high)
    (first_tried (box_of c.args.self.now) c.args.v c.args.a c.hi-hi.result (omega (arith, ints)))

pub overflow_add-b-in-loop-v : goal.overflow_add-b-in-loop-v
overflow_add-b-in-loop-v c =
    let b : ℤ = to_z w64 c.loop-v.b-bits in
    let high : FitsSigned w64 c.hi-hi.result = search rules in
    let tried = rw (to_z-of_z w64 c.args.a c.ranges.a, to_z-of_z w64 c.hi-hi.result high) at c.loop-v.invariant in
    let less = next_tried (box_of c.args.self.now) c.args.v c.args.a b c.hi-hi.result tried c.hi-hi.ensures.greatest (λ has. true≢false (sym (c.has.ensures.1 has) ∙ c.loop-v-test.true)) in
    let within : (b +ℤ pos 1) ≤ℤ c.hi-hi.result = less.tried.within in
    let above = less.tried.above in
    let fits : FitsSigned w64 (b +ℤ pos 1) = omega (arith, ints, within, above, high, c.ranges.a) in fits

pub loop-v-smaller : goal.loop-v-smaller
loop-v-smaller c =
    let b : ℤ = to_z w64 c.loop-v.b-bits in
    let high : FitsSigned w64 c.hi-hi.result = search rules in
    let tried = rw (to_z-of_z w64 c.args.a c.ranges.a, to_z-of_z w64 c.hi-hi.result high) at c.loop-v.invariant in
    let less = next_tried (box_of c.args.self.now) c.args.v c.args.a b c.hi-hi.result tried c.hi-hi.ensures.greatest (λ has. true≢false (sym (c.has.ensures.1 has) ∙ c.loop-v-test.true)) in
    let within : (b +ℤ pos 1) ≤ℤ c.hi-hi.result = less.tried.within in
    let above = less.tried.above in
    let fits : FitsSigned w64 (b +ℤ pos 1) = omega (arith, ints, within, above, high, c.ranges.a) in
    rw (to_z-of_z w64 (b +ℤ pos 1) fits, to_z-of_z w64 c.hi-hi.result high) less.smaller

pub loop-v-preserved : goal.loop-v-preserved
loop-v-preserved c =
    let b : ℤ = to_z w64 c.loop-v.b-bits in
    let high : FitsSigned w64 c.hi-hi.result = search rules in
    let tried = rw (to_z-of_z w64 c.args.a c.ranges.a, to_z-of_z w64 c.hi-hi.result high) at c.loop-v.invariant in
    let less = next_tried (box_of c.args.self.now) c.args.v c.args.a b c.hi-hi.result tried c.hi-hi.ensures.greatest (λ has. true≢false (sym (c.has.ensures.1 has) ∙ c.loop-v-test.true)) in
    let within : (b +ℤ pos 1) ≤ℤ c.hi-hi.result = less.tried.within in
    let above = less.tried.above in
    let fits : FitsSigned w64 (b +ℤ pos 1) = omega (arith, ints, within, above, high, c.ranges.a) in
    rw (to_z-of_z w64 c.args.a c.ranges.a, to_z-of_z w64 (b +ℤ pos 1) fits, to_z-of_z w64 c.hi-hi.result high) less.tried

pub returns : goal.returns
returns c =
    let high : FitsSigned w64 c.hi-hi.result = search rules in
    let tried = rw (to_z-of_z w64 c.args.a c.ranges.a, to_z-of_z w64 c.hi-hi.result high) at c.loop-v.invariant in
    (c.has.ensures.0 c.loop-v-test.false, tried.above, tried.none)

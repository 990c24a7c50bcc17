use Rattle.std.proofs.Common.{length, ap, arith}
use Rattle.std.proofs.lemmas.Int.{ints}
use Rattle.mn_prop.specs.Contexts.{box_of, vars_of}
use Rattle.mn_sums.proofs.Forms.{kept_at_most}
use Rattle.mn_sums.proofs.Measuring.{all_measured, next_measured, none_measured, part_here, part_of_ready}
use Rattle.mn_sums.proofs.sum.Sum.measure.Goals as goal

pub loop-p-init : goal.loop-p-init
loop-p-init c = none_measured (box_of c.args.c.now) c.args.self.now.parts.items

pub span-span-requires : goal.span-span-requires
span-span-requires c =
    let s = c.args.self.now in
    let is = kept_at_most (vars_of c.args.c.now) s.inst.now.tuples s.con.now s.parts.items s.bound s.form s.made s.bounded c.requires in
    part_of_ready (vars_of c.args.c.now) s.inst.now.tuples s.con.now s.parts.items s.bound is c.requires c.loop-p.p-index _ (part_here s.parts.items c.as_slice-p-items.result.now c.loop-p.p-index _ c.as_slice-p-items.ensures.value c.loop-p-test.true)

pub overflow_add-least : goal.overflow_add-least
overflow_add-least c =
    let s = c.args.self.now in
    let is = kept_at_most (vars_of c.args.c.now) s.inst.now.tuples s.con.now s.parts.items s.bound s.form s.made s.bounded c.requires in
    let few = is.few in
    let long = ap length c.as_slice-p-items.ensures.value in
    let small = c.span-span.ensures.small_low in
    omega (arith, ints, few, long, small.0, small.1, c.loop-p-test.true, c.loop-p.invariant.low, c.loop-p.invariant.high)

pub loop-p-preserved : goal.loop-p-preserved
loop-p-preserved c =
    let s = c.args.self.now in
    let is = kept_at_most (vars_of c.args.c.now) s.inst.now.tuples s.con.now s.parts.items s.bound s.form s.made s.bounded c.requires in
    let few = is.few in
    let long = ap length c.as_slice-p-items.ensures.value in
    let span = c.span-span.ensures in
    let low = span.small_low in
    let high = span.small_high in
    next_measured (box_of c.args.c.now) s.parts.items c.loop-p.p-index _ _ c.span-span.result.low c.span-span.result.high _ _ _ c.loop-p.invariant (part_here s.parts.items c.as_slice-p-items.result.now c.loop-p.p-index _ c.as_slice-p-items.ensures.value c.loop-p-test.true) span
    (omega (arith, ints, few, long, low.0, low.1, c.loop-p-test.true, c.loop-p.invariant.low, c.loop-p.invariant.high))
    (omega (arith, ints, c.greater-widest.ensures.first))
    (omega (arith, ints, low.0, low.1, high.0, high.1, c.greater-widest.ensures.second))

pub returns : goal.returns
returns c =
    let s = c.args.self.now in
    let is = kept_at_most (vars_of c.args.c.now) s.inst.now.tuples s.con.now s.parts.items s.bound s.form s.made s.bounded c.requires in
    let few = is.few in
    let long = ap length c.as_slice-p-items.ensures.value in
    all_measured (box_of c.args.c.now) s.parts.items c.loop-p.p-index _ _ c.loop-p.invariant (omega (arith, long, c.loop-p-test.false)) (omega (arith, long, few, c.loop-p.auto.p-index-end))

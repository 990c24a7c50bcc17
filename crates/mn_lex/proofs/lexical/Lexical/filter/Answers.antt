use Rattle.std.proofs.Common.{◌≤ℤ◌, FitsSigned, rules, arith, w64}
use Rattle.std.proofs.lemmas.Int.{ints, to_z-of_z}
use Rattle.mn_prop.specs.Contexts.{vars_of}
use Rattle.mn_lex.proofs.Ordered.{all_ordered, cut_fails, ends_with, never_ordered, none_ordered, one_more_ordered, one_passed, ready_now}
use Rattle.mn_lex.proofs.Vectors.{as_long, first_named, order_is, second_named}
use Rattle.mn_lex.proofs.lexical.Lexical.filter.Goals as goal

pub loop-i-init : goal.loop-i-init
loop-i-init c = let s = c.args.self.now in none_ordered s.or_equal s.v.now s.w.now s.inst.now.tuples c.args.c.now

pub lo-low-requires : goal.lo-low-requires
lo-low-requires c =
    let s = c.args.self.now in
    first_named (order_is s.or_equal s.v.now s.w.now) (vars_of c.loop-i.c) s.inst.now.tuples c.loop-i.i c.get.result.now (ready_now s.or_equal s.v.now s.w.now s.inst.now.tuples c.lawful.ensures.boxes.now c.requires c.loop-i.invariant) c.get.ensures

pub hi-high-requires : goal.hi-high-requires
hi-high-requires c =
    let s = c.args.self.now in
    second_named (order_is s.or_equal s.v.now s.w.now) (vars_of c.loop-i.c) s.inst.now.tuples c.loop-i.i c.get-in-loop-i.result.now (ready_now s.or_equal s.v.now s.w.now s.inst.now.tuples c.lawful.ensures.boxes.now c.requires c.loop-i.invariant) c.get-in-loop-i.ensures

pub cut-requires-clause-ready : goal.cut-requires-clause-ready
cut-requires-clause-ready c = let s = c.args.self.now in ready_now s.or_equal s.v.now s.w.now s.inst.now.tuples c.lawful.ensures.boxes.now c.requires c.loop-i.invariant

pub returns-then-low-high : goal.returns-then-low-high
returns-then-low-high c = let s = c.args.self.now in ends_with s.or_equal s.v.now s.w.now s.inst.now.tuples c.lawful.ensures.boxes.now c.requires c.loop-i.invariant c.cut.ensures

pub cut_pair-requires-clause-first : goal.cut_pair-requires-clause-first
cut_pair-requires-clause-first c =
    let s = c.args.self.now in
    first_named (order_is s.or_equal s.v.now s.w.now) (vars_of c.loop-i.c) s.inst.now.tuples c.loop-i.i c.get.result.now (ready_now s.or_equal s.v.now s.w.now s.inst.now.tuples c.lawful.ensures.boxes.now c.requires c.loop-i.invariant) c.get.ensures

pub cut_pair-requires-clause-second : goal.cut_pair-requires-clause-second
cut_pair-requires-clause-second c =
    let s = c.args.self.now in
    second_named (order_is s.or_equal s.v.now s.w.now) (vars_of c.loop-i.c) s.inst.now.tuples c.loop-i.i c.get-in-loop-i.result.now (ready_now s.or_equal s.v.now s.w.now s.inst.now.tuples c.lawful.ensures.boxes.now c.requires c.loop-i.invariant) c.get-in-loop-i.ensures

pub returns-in_err-cut_pair : goal.returns-in_err-cut_pair
returns-in_err-cut_pair c =
    let s = c.args.self.now in
    let lo : FitsSigned w64 c.lo-low.result = search rules in
    let hi : FitsSigned w64 c.hi-high.result = search rules in
    cut_fails s.or_equal s.v.now s.w.now s.inst.now.tuples c.lawful.ensures.boxes.now c.requires c.loop-i.invariant c.get.result.now c.get-in-loop-i.result.now c.hi-high.result c.lo-low.result c.get.ensures c.get-in-loop-i.ensures c.hi-high.ensures.is c.lo-low.ensures.is
    (rw (to_z-of_z w64 c.hi-high.result hi, to_z-of_z w64 c.lo-low.result lo) at c.in_err-cut_pair.ensures.step) c.from_residual.ensures.0

pub loop-i-preserved : goal.loop-i-preserved
loop-i-preserved c =
    let s = c.args.self.now in
    let lo : FitsSigned w64 c.lo-low.result = search rules in
    let hi : FitsSigned w64 c.hi-high.result = search rules in
    let never : c.hi-high.result ≤ℤ c.lo-low.result = omega (arith, ints, c.if-low-high.false) in
    one_more_ordered s.or_equal s.v.now s.w.now s.inst.now.tuples c.lawful.ensures.boxes.now c.requires c.loop-i.invariant c.get.result.now c.get-in-loop-i.result.now c.hi-high.result c.lo-low.result c.get.ensures c.get-in-loop-i.ensures c.hi-high.ensures.is c.lo-low.ensures.is never
    (rw (to_z-of_z w64 c.hi-high.result hi, to_z-of_z w64 c.lo-low.result lo) at c.in_ok-cut_pair.ensures.step) (rw (to_z-of_z w64 c.hi-high.result hi, to_z-of_z w64 c.lo-low.result lo) at c.in_ok-cut_pair.ensures.cut)

pub returns-then-self : goal.returns-then-self
returns-then-self c =
    let s = c.args.self.now in
    all_ordered s.or_equal s.v.now s.w.now s.inst.now.tuples c.lawful.ensures.boxes.now c.requires c.loop-i.invariant (as_long s.or_equal s.v.now s.w.now c.requires.suits.shaped) (omega (arith, c.loop-i-test.false, c.len-i-end.ensures)) c.if-self.true

pub returns-else-self : goal.returns-else-self
returns-else-self c =
    let s = c.args.self.now in
    never_ordered s.or_equal s.v.now s.w.now s.inst.now.tuples c.lawful.ensures.boxes.now c.requires c.loop-i.invariant _ (as_long s.or_equal s.v.now s.w.now c.requires.suits.shaped) (omega (arith, c.loop-i-test.false, c.len-i-end.ensures)) c.if-self.false

pub are_one-requires-clause-first : goal.are_one-requires-clause-first
are_one-requires-clause-first c =
    let s = c.args.self.now in
    first_named (order_is s.or_equal s.v.now s.w.now) (vars_of c.loop-i.c) s.inst.now.tuples c.loop-i.i c.get.result.now (ready_now s.or_equal s.v.now s.w.now s.inst.now.tuples c.lawful.ensures.boxes.now c.requires c.loop-i.invariant) c.get.ensures

pub are_one-requires-clause-second : goal.are_one-requires-clause-second
are_one-requires-clause-second c =
    let s = c.args.self.now in
    second_named (order_is s.or_equal s.v.now s.w.now) (vars_of c.loop-i.c) s.inst.now.tuples c.loop-i.i c.get-in-loop-i.result.now (ready_now s.or_equal s.v.now s.w.now s.inst.now.tuples c.lawful.ensures.boxes.now c.requires c.loop-i.invariant) c.get-in-loop-i.ensures

pub loop-i-preserved-then-are_one : goal.loop-i-preserved-then-are_one
loop-i-preserved-then-are_one c =
    let s = c.args.self.now in
    one_passed s.or_equal s.v.now s.w.now s.inst.now.tuples c.lawful.ensures.boxes.now c.requires c.loop-i.invariant c.get.result.now c.get-in-loop-i.result.now c.get.ensures c.get-in-loop-i.ensures (c.are_one.ensures.one c.if-are_one.true)

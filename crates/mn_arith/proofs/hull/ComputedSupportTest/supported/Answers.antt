use Rattle.std.proofs.Common.{w64}
use Rattle.std.proofs.lemmas.Int.{to_z-of_z}
use Rattle.mn_prop.specs.Contexts.{box_of, vars_of}
use Rattle.mn_arith.specs.Hulls.{computed_con}
use Rattle.mn_arith.proofs.Computing.{first_stands, first_told, given_near, near_span, second_stands, second_told, third_stands, third_told}
use Rattle.mn_arith.proofs.hull.ComputedSupportTest.supported.Goals as goal

pub has_partner-requires-clause-near : goal.has_partner-requires-clause-near
has_partner-requires-clause-near c =
    let s = c.args.self.now in
    let d = c.args.c.now in
    rw (to_z-of_z w64 c.args.a c.ranges.a) (given_near s.operation s.x s.y s.z (vars_of d) s.inst.now.tuples (box_of d) c.args.i c.args.a c.lawful.ensures.boxes.now c.lawful.ensures.valued c.requires.ready c.requires.place c.requires.there)

pub has_partner-requires-clause-own : goal.has_partner-requires-clause-own
has_partner-requires-clause-own c =
    let s = c.args.self.now in
    let d = c.args.c.now in
    near_span (vars_of d) s.inst.now.tuples (computed_con s.operation s.x s.y s.z) (box_of d) 1 s.y c.span_of-y.result c.lawful.ensures.boxes.now c.lawful.ensures.valued c.requires.ready (second_stands s.operation s.x s.y s.z) c.span_of-y.ensures

pub has_partner-requires-clause-other : goal.has_partner-requires-clause-other
has_partner-requires-clause-other c =
    let s = c.args.self.now in
    let d = c.args.c.now in
    near_span (vars_of d) s.inst.now.tuples (computed_con s.operation s.x s.y s.z) (box_of d) 2 s.z c.span_of-z.result c.lawful.ensures.boxes.now c.lawful.ensures.valued c.requires.ready (third_stands s.operation s.x s.y s.z) c.span_of-z.ensures

pub returns-then-i-eq0 : goal.returns-then-i-eq0
returns-then-i-eq0 c =
    let s = c.args.self.now in
    let d = c.args.c.now in
    first_told s.operation s.x s.y s.z s.inst.now.tuples c.args.a (box_of d) c.has_partner.result c.args.i c.span_of-y.result c.span_of-z.result c.if-i-eq0.true c.span_of-y.ensures c.span_of-z.ensures (rw (to_z-of_z w64 c.args.a c.ranges.a) at c.has_partner.ensures)

pub has_partner-requires-then-i-eq1-clause-near : goal.has_partner-requires-then-i-eq1-clause-near
has_partner-requires-then-i-eq1-clause-near c =
    let s = c.args.self.now in
    let d = c.args.c.now in
    rw (to_z-of_z w64 c.args.a c.ranges.a) (given_near s.operation s.x s.y s.z (vars_of d) s.inst.now.tuples (box_of d) c.args.i c.args.a c.lawful.ensures.boxes.now c.lawful.ensures.valued c.requires.ready c.requires.place c.requires.there)

pub has_partner-requires-then-i-eq1-clause-own : goal.has_partner-requires-then-i-eq1-clause-own
has_partner-requires-then-i-eq1-clause-own c =
    let s = c.args.self.now in
    let d = c.args.c.now in
    near_span (vars_of d) s.inst.now.tuples (computed_con s.operation s.x s.y s.z) (box_of d) 0 s.x c.span_of-x.result c.lawful.ensures.boxes.now c.lawful.ensures.valued c.requires.ready (first_stands s.operation s.x s.y s.z) c.span_of-x.ensures

pub has_partner-requires-then-i-eq1-clause-other : goal.has_partner-requires-then-i-eq1-clause-other
has_partner-requires-then-i-eq1-clause-other c =
    let s = c.args.self.now in
    let d = c.args.c.now in
    near_span (vars_of d) s.inst.now.tuples (computed_con s.operation s.x s.y s.z) (box_of d) 2 s.z c.span_of-z.result c.lawful.ensures.boxes.now c.lawful.ensures.valued c.requires.ready (third_stands s.operation s.x s.y s.z) c.span_of-z.ensures

pub spans-requires-clause-own : goal.spans-requires-clause-own
spans-requires-clause-own c =
    let s = c.args.self.now in
    let d = c.args.c.now in
    near_span (vars_of d) s.inst.now.tuples (computed_con s.operation s.x s.y s.z) (box_of d) 0 s.x c.span_of-x.result c.lawful.ensures.boxes.now c.lawful.ensures.valued c.requires.ready (first_stands s.operation s.x s.y s.z) c.span_of-x.ensures

pub spans-requires-clause-other : goal.spans-requires-clause-other
spans-requires-clause-other c =
    let s = c.args.self.now in
    let d = c.args.c.now in
    near_span (vars_of d) s.inst.now.tuples (computed_con s.operation s.x s.y s.z) (box_of d) 1 s.y c.span_of-y.result c.lawful.ensures.boxes.now c.lawful.ensures.valued c.requires.ready (second_stands s.operation s.x s.y s.z) c.span_of-y.ensures

pub returns-then-i-eq1 : goal.returns-then-i-eq1
returns-then-i-eq1 c =
    let s = c.args.self.now in
    let d = c.args.c.now in
    second_told s.operation s.x s.y s.z s.inst.now.tuples c.args.a (box_of d) c.has_partner-then-i-eq1.result c.args.i c.span_of-x.result c.span_of-z.result c.if-i-eq1.true c.span_of-x.ensures c.span_of-z.ensures (rw (to_z-of_z w64 c.args.a c.ranges.a) at c.has_partner-then-i-eq1.ensures)

pub returns : goal.returns
returns c =
    let s = c.args.self.now in
    let d = c.args.c.now in
    third_told s.operation s.x s.y s.z s.inst.now.tuples c.args.a (box_of d) c.spans.result c.args.i c.span_of-x.result c.span_of-y.result c.if-i-eq0.false c.if-i-eq1.false c.span_of-x.ensures c.span_of-y.ensures (rw (to_z-of_z w64 c.args.a c.ranges.a) at c.spans.ensures)

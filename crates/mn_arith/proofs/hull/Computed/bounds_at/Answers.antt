use Rattle.mn_prop.specs.Contexts.{box_of, vars_of}
use Rattle.mn_arith.specs.Hulls.{computed_con}
use Rattle.mn_arith.specs.Spans.{IsIn}
use Rattle.mn_arith.proofs.Computing.{first_so, first_stands, near_span, second_so, second_stands, third_so, third_stands}
use Rattle.mn_arith.proofs.hull.Computed.bounds_at.Goals as goal

pub operands-requires-clause-own : goal.operands-requires-clause-own
operands-requires-clause-own c =
    let s = c.args.self.now in
    let d = c.args.c.now in
    near_span (vars_of d) s.inst.now.tuples (computed_con s.operation s.x s.y s.z) (box_of d) 1 s.y c.span_of-y.result c.lawful.ensures.boxes.now c.lawful.ensures.valued c.requires.ready (second_stands s.operation s.x s.y s.z) c.span_of-y.ensures

pub operands-requires-clause-other : goal.operands-requires-clause-other
operands-requires-clause-other c =
    let s = c.args.self.now in
    let d = c.args.c.now in
    near_span (vars_of d) s.inst.now.tuples (computed_con s.operation s.x s.y s.z) (box_of d) 2 s.z c.span_of-z.result c.lawful.ensures.boxes.now c.lawful.ensures.valued c.requires.ready (third_stands s.operation s.x s.y s.z) c.span_of-z.ensures

pub operands-requires-then-i-eq1-clause-own : goal.operands-requires-then-i-eq1-clause-own
operands-requires-then-i-eq1-clause-own c =
    let s = c.args.self.now in
    let d = c.args.c.now in
    near_span (vars_of d) s.inst.now.tuples (computed_con s.operation s.x s.y s.z) (box_of d) 0 s.x c.span_of-x.result c.lawful.ensures.boxes.now c.lawful.ensures.valued c.requires.ready (first_stands s.operation s.x s.y s.z) c.span_of-x.ensures

pub operands-requires-then-i-eq1-clause-other : goal.operands-requires-then-i-eq1-clause-other
operands-requires-then-i-eq1-clause-other c =
    let s = c.args.self.now in
    let d = c.args.c.now in
    near_span (vars_of d) s.inst.now.tuples (computed_con s.operation s.x s.y s.z) (box_of d) 2 s.z c.span_of-z.result c.lawful.ensures.boxes.now c.lawful.ensures.valued c.requires.ready (third_stands s.operation s.x s.y s.z) c.span_of-z.ensures

pub operands-requires-clause-given : goal.operands-requires-clause-given
operands-requires-clause-given c =
    let s = c.args.self.now in
    let d = c.args.c.now in
    near_span (vars_of d) s.inst.now.tuples (computed_con s.operation s.x s.y s.z) (box_of d) 0 s.x c.span_of-x.result c.lawful.ensures.boxes.now c.lawful.ensures.valued c.requires.ready (first_stands s.operation s.x s.y s.z) c.span_of-x.ensures

pub operands-requires-then-i-eq1-clause-given : goal.operands-requires-then-i-eq1-clause-given
operands-requires-then-i-eq1-clause-given c =
    let s = c.args.self.now in
    let d = c.args.c.now in
    near_span (vars_of d) s.inst.now.tuples (computed_con s.operation s.x s.y s.z) (box_of d) 1 s.y c.span_of-y.result c.lawful.ensures.boxes.now c.lawful.ensures.valued c.requires.ready (second_stands s.operation s.x s.y s.z) c.span_of-y.ensures

pub results-requires-clause-own : goal.results-requires-clause-own
results-requires-clause-own c =
    let s = c.args.self.now in
    let d = c.args.c.now in
    near_span (vars_of d) s.inst.now.tuples (computed_con s.operation s.x s.y s.z) (box_of d) 0 s.x c.span_of-x.result c.lawful.ensures.boxes.now c.lawful.ensures.valued c.requires.ready (first_stands s.operation s.x s.y s.z) c.span_of-x.ensures

pub results-requires-clause-other : goal.results-requires-clause-other
results-requires-clause-other c =
    let s = c.args.self.now in
    let d = c.args.c.now in
    near_span (vars_of d) s.inst.now.tuples (computed_con s.operation s.x s.y s.z) (box_of d) 1 s.y c.span_of-y.result c.lawful.ensures.boxes.now c.lawful.ensures.valued c.requires.ready (second_stands s.operation s.x s.y s.z) c.span_of-y.ensures

pub returns-then-i-eq0 : goal.returns-then-i-eq0
returns-then-i-eq0 c =
    let s = c.args.self.now in
    let d = c.args.c.now in
    first_so s.operation s.x s.y s.z s.inst.now.tuples (box_of d) (IsIn c.operands.result) c.args.i c.span_of-x.result c.span_of-y.result c.span_of-z.result c.if-i-eq0.true c.span_of-x.ensures c.span_of-y.ensures c.span_of-z.ensures c.operands.ensures

pub returns-then-i-eq1 : goal.returns-then-i-eq1
returns-then-i-eq1 c =
    let s = c.args.self.now in
    let d = c.args.c.now in
    second_so s.operation s.x s.y s.z s.inst.now.tuples (box_of d) (IsIn c.operands-then-i-eq1.result) c.args.i c.span_of-y.result c.span_of-x.result c.span_of-z.result c.if-i-eq1.true c.span_of-y.ensures c.span_of-x.ensures c.span_of-z.ensures c.operands-then-i-eq1.ensures

pub returns : goal.returns
returns c =
    let s = c.args.self.now in
    let d = c.args.c.now in
    λ t a stands has supported. third_so s.operation s.x s.y s.z s.inst.now.tuples (box_of d) (IsIn c.results.result) c.args.i c.span_of-x.result c.span_of-y.result c.if-i-eq0.false c.if-i-eq1.false c.span_of-x.ensures c.span_of-y.ensures c.results.ensures a supported

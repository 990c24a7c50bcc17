use Rattle.std.proofs.Common.{subst, sym}
use Rattle.mn_arith.specs.Hulls.{computed_of}
use Rattle.mn_arith.specs.Spans.{IsSpanOf}
use Rattle.mn_arith.proofs.Bounding.{both_parts, cut_step, last_step, later_ready}
use Rattle.mn_arith.proofs.Pruned.{pass_stops}
use Rattle.mn_arith.proofs.hull.Computed.filter.Goals as goal

pub returns-in_err-cut_place : goal.returns-in_err-cut_place
returns-in_err-cut_place c = pass_stops _ c.in_err-cut_place.was c.from_residual.ensures.0 c.cut_place.ensures

pub cut_place-requires-2-clause-ready : goal.cut_place-requires-2-clause-ready
cut_place-requires-2-clause-ready c = later_ready (computed_of c.args.self.now) c.in_ok-cut_place.ensures c.requires

pub returns-in_err-cut_place-2 : goal.returns-in_err-cut_place-2
returns-in_err-cut_place-2 c = pass_stops _ c.in_err-cut_place-2.was c.from_residual-in_err-cut_place-2.ensures.0 (both_parts (computed_of c.args.self.now) c.in_ok-cut_place.ensures c.cut_place-2.ensures)

pub cut_place-requires-3-clause-ready : goal.cut_place-requires-3-clause-ready
cut_place-requires-3-clause-ready c = later_ready (computed_of c.args.self.now) (both_parts (computed_of c.args.self.now) c.in_ok-cut_place.ensures c.in_ok-cut_place-2.ensures) c.requires

pub returns-in_err-cut_place-3 : goal.returns-in_err-cut_place-3
returns-in_err-cut_place-3 c = pass_stops _ c.in_err-cut_place-3.was c.from_residual-in_err-cut_place-3.ensures.0 (both_parts (computed_of c.args.self.now) (both_parts (computed_of c.args.self.now) c.in_ok-cut_place.ensures c.in_ok-cut_place-2.ensures) c.cut_place-3.ensures)

pub is_cut-requires : goal.is_cut-requires
is_cut-requires c = later_ready (computed_of c.args.self.now) (both_parts (computed_of c.args.self.now) (both_parts (computed_of c.args.self.now) c.in_ok-cut_place.ensures c.in_ok-cut_place-2.ensures) c.in_ok-cut_place-3.ensures) c.requires

pub returns-then-is_cut : goal.returns-then-is_cut
returns-then-is_cut c =
    let k = c.args.self.now in
    cut_step (computed_of k) (both_parts (computed_of k) (both_parts (computed_of k) c.in_ok-cut_place.ensures c.in_ok-cut_place-2.ensures) c.in_ok-cut_place-3.ensures) (λ same.
    c.is_cut.ensures c.if-is_cut.true
    (subst (λ box. IsSpanOf box k.x c.span_of-x.result) (sym same) c.span_of-x.ensures)
    (subst (λ box. IsSpanOf box k.y c.span_of-y.result) (sym same) c.span_of-y.ensures)
    (subst (λ box. IsSpanOf box k.z c.span_of-z.result) (sym same) c.span_of-z.ensures))

pub revise_all-requires : goal.revise_all-requires
revise_all-requires c = later_ready (computed_of c.args.self.now) (both_parts (computed_of c.args.self.now) (both_parts (computed_of c.args.self.now) c.in_ok-cut_place.ensures c.in_ok-cut_place-2.ensures) c.in_ok-cut_place-3.ensures) c.requires

pub returns : goal.returns
returns c = last_step (computed_of c.args.self.now) (both_parts (computed_of c.args.self.now) (both_parts (computed_of c.args.self.now) c.in_ok-cut_place.ensures c.in_ok-cut_place-2.ensures) c.in_ok-cut_place-3.ensures) c.revise_all.ensures

use Rattle.std.proofs.Common.{FitsSigned, get_or, rules, w64, arith}
use Rattle.std.proofs.lemmas.Int.{to_z-of_z}
use Rattle.mn_model.specs.declared.constraint.Term.TheVariants.{Var}
use Rattle.mn_prop.specs.Contexts.{box_of, vars_of}
use Rattle.mn_arith.proofs.Others.{front_named, stands_now}
use Rattle.mn_arith.proofs.Spreading.{spread_all, spread_first, spread_next}
use Rattle.mn_arith.proofs.extreme.Extreme.spread.Goals as goal

pub end_of-near-requires : goal.end_of-near-requires
end_of-near-requires c = let s = c.args.self.now in front_named s.greatest s.terms.now s.x s.inst.now.tuples (vars_of c.args.c.now) 0 _ c.requires.ready c.get-first.ensures

pub end_of-far-requires : goal.end_of-far-requires
end_of-far-requires c = let s = c.args.self.now in front_named s.greatest s.terms.now s.x s.inst.now.tuples (vars_of c.args.c.now) 0 _ c.requires.ready c.get-first.ensures

pub loop-t-init : goal.loop-t-init
loop-t-init c =
    let s = c.args.self.now in
    let low : FitsSigned w64 c.end_of-near.result = search rules in
    let high : FitsSigned w64 c.end_of-far.result = search rules in
    rw (to_z-of_z w64 c.end_of-near.result low, to_z-of_z w64 c.end_of-far.result high) (spread_first s.greatest s.terms.now (box_of c.args.c.now) c.end_of-near.result c.end_of-far.result 0 _ c.get-first.ensures c.end_of-near.ensures)

pub end_of-requires : goal.end_of-requires
end_of-requires c =
    let s = c.args.self.now in
    front_named s.greatest s.terms.now s.x s.inst.now.tuples (vars_of c.args.c.now) c.loop-t.t-index _ c.requires.ready (stands_now c.as_slice-t-items.result.now s.terms.now c.loop-t.t-index (Var (record { 0 = 0 })) c.as_slice-t-items.ensures c.loop-t-test.true)

pub end_of-requires-in-loop-t : goal.end_of-requires-in-loop-t
end_of-requires-in-loop-t c =
    let s = c.args.self.now in
    front_named s.greatest s.terms.now s.x s.inst.now.tuples (vars_of c.args.c.now) c.loop-t.t-index _ c.requires.ready (stands_now c.as_slice-t-items.result.now s.terms.now c.loop-t.t-index (Var (record { 0 = 0 })) c.as_slice-t-items.ensures c.loop-t-test.true)

pub loop-t-preserved : goal.loop-t-preserved
loop-t-preserved c =
    let s = c.args.self.now in
    let low : FitsSigned w64 c.end_of.result = search rules in
    let high : FitsSigned w64 c.end_of-in-loop-t.result = search rules in
    let nearer : FitsSigned w64 c.farther-near.result = search rules in
    let farther : FitsSigned w64 c.farther-far.result = search rules in
    let so_far = rw (c.loop-t.near-is, c.loop-t.far-is) at c.loop-t.invariant in
    let near = rw (c.loop-t.near-is, to_z-of_z w64 c.end_of.result low) at c.farther-near.ensures in
    let far = rw (c.loop-t.far-is, to_z-of_z w64 c.end_of-in-loop-t.result high) at c.farther-far.ensures in
    rw (to_z-of_z w64 c.farther-near.result nearer, to_z-of_z w64 c.farther-far.result farther) (spread_next s.greatest s.terms.now (box_of c.args.c.now) c.loop-t.t-index (get_or c.as_slice-t-items.result.now c.loop-t.t-index (Var (record { 0 = 0 }))) c.loop-t.near c.loop-t.far c.end_of.result c.end_of-in-loop-t.result c.farther-near.result c.farther-far.result
    (stands_now c.as_slice-t-items.result.now s.terms.now c.loop-t.t-index (Var (record { 0 = 0 })) c.as_slice-t-items.ensures c.loop-t-test.true) so_far c.end_of.ensures c.end_of-in-loop-t.ensures near.first near.second near.one far.first far.second)

pub returns : goal.returns
returns c =
    let s = c.args.self.now in
    spread_all s.greatest s.terms.now c.as_slice-t-items.result.now (box_of c.args.c.now) c.loop-t.t-index _ _ c.as_slice-t-items.ensures (omega (arith, c.loop-t-test.false)) c.loop-t.invariant

use Rattle.std.proofs.Common.{FitsSigned, rules, arith, subst, sym, w64}
use Rattle.std.proofs.lemmas.Int.{to_z-of_z}
use Rattle.mn_model.specs.declared.constraint.Con.TheVariants as con
use Rattle.mn_closure.specs.Closed.{IsAlone}
use Rattle.mn_prop.specs.Contexts.{box_of}
use Rattle.mn_prop.specs.Posts.{IsReady, beside}
use Rattle.mn_prop.proofs.Ready.{ready_named}
use Rattle.mn_prop.proofs.Stepping.{same_vars}
use Rattle.mn_count.proofs.Spread.{all_spread, itself_spread, none_spread, one_more_spread, open_spread, spread_fails}
use Rattle.mn_count.proofs.alldiff.Alldiff.spread.Goals as goal

pub is_single-requires : goal.is_single-requires
is_single-requires c = let s = c.args.self.now in ready_named (beside s.inst.now.tuples (con.Alldiff s.v.now)) c.args.i c.requires.ready c.get-t.ensures

pub lo-a-requires : goal.lo-a-requires
lo-a-requires c = let s = c.args.self.now in ready_named (beside s.inst.now.tuples (con.Alldiff s.v.now)) c.args.i c.requires.ready c.get-t.ensures

pub returns-then-not-is_single : goal.returns-then-not-is_single
returns-then-not-is_single c =
    let s = c.args.self.now in
    open_spread s.v.now s.inst.now.tuples c.args.c.now c.args.i c.get-t.result.now c.get-t.ensures (c.is_single.ensures.two c.if-not-is_single.true)

pub loop-j-init : goal.loop-j-init
loop-j-init c =
    let s = c.args.self.now in
    let fits : FitsSigned w64 c.lo-a.result = search rules in
    rw (to_z-of_z w64 c.lo-a.result fits) (none_spread s.v.now s.inst.now.tuples c.args.c.now c.args.i c.get-t.result.now c.lo-a.result c.get-t.ensures (subst (IsAlone (box_of c.args.c.now) c.get-t.result.now) (sym c.lo-a.ensures.is) (c.is_single.ensures.alone.0 c.if-not-is_single.false)))

pub drop_value-requires : goal.drop_value-requires
drop_value-requires c =
    let s = c.args.self.now in
    let ready = subst (λ vars. IsReady vars s.inst.now.tuples (con.Alldiff s.v.now)) (sym (same_vars c.loop-j.invariant.going.loses)) c.requires.ready in
    ready_named (beside s.inst.now.tuples (con.Alldiff s.v.now)) c.loop-j.j ready c.get.ensures

pub returns-in_err-drop_value : goal.returns-in_err-drop_value
returns-in_err-drop_value c =
    let s = c.args.self.now in
    let fits : FitsSigned w64 c.lo-a.result = search rules in
    let alone = subst (IsAlone (box_of c.args.c.now) c.get-t.result.now) (sym c.lo-a.ensures.is) (c.is_single.ensures.alone.0 c.if-not-is_single.false) in
    spread_fails s.v.now s.inst.now.tuples c.args.c.now c.args.i c.get-t.result.now c.lo-a.result c.get-t.ensures alone c.get.result.now
    (rw (to_z-of_z w64 c.lo-a.result fits) at c.loop-j.invariant) c.get.ensures c.if-j-i.false (rw (to_z-of_z w64 c.lo-a.result fits) at c.in_err-drop_value.ensures) c.from_residual.ensures.0

pub loop-j-preserved : goal.loop-j-preserved
loop-j-preserved c =
    let s = c.args.self.now in
    let fits : FitsSigned w64 c.lo-a.result = search rules in
    let alone = subst (IsAlone (box_of c.args.c.now) c.get-t.result.now) (sym c.lo-a.ensures.is) (c.is_single.ensures.alone.0 c.if-not-is_single.false) in
    rw (to_z-of_z w64 c.lo-a.result fits)
    (one_more_spread s.v.now s.inst.now.tuples c.args.c.now c.args.i c.get-t.result.now c.lo-a.result c.get-t.ensures alone c.get.result.now
    (rw (to_z-of_z w64 c.lo-a.result fits) at c.loop-j.invariant) c.get.ensures c.if-j-i.false (rw (to_z-of_z w64 c.lo-a.result fits) at c.in_ok-drop_value.ensures))

pub loop-j-preserved-then-j-i : goal.loop-j-preserved-then-j-i
loop-j-preserved-then-j-i c =
    let s = c.args.self.now in
    let fits : FitsSigned w64 c.lo-a.result = search rules in
    let alone = subst (IsAlone (box_of c.args.c.now) c.get-t.result.now) (sym c.lo-a.ensures.is) (c.is_single.ensures.alone.0 c.if-not-is_single.false) in
    rw (to_z-of_z w64 c.lo-a.result fits)
    (itself_spread s.v.now s.inst.now.tuples c.args.c.now c.args.i c.get-t.result.now c.lo-a.result c.get-t.ensures alone (rw (to_z-of_z w64 c.lo-a.result fits) at c.loop-j.invariant) c.if-j-i.true)

pub returns : goal.returns
returns c =
    let s = c.args.self.now in
    let fits : FitsSigned w64 c.lo-a.result = search rules in
    let alone = subst (IsAlone (box_of c.args.c.now) c.get-t.result.now) (sym c.lo-a.ensures.is) (c.is_single.ensures.alone.0 c.if-not-is_single.false) in
    all_spread s.v.now s.inst.now.tuples c.args.c.now c.args.i c.get-t.result.now c.lo-a.result c.get-t.ensures alone c.lo-a.ensures.least.there (rw (to_z-of_z w64 c.lo-a.result fits) at c.loop-j.invariant) (omega (arith, c.loop-j-test.false, c.len-j-end.ensures))

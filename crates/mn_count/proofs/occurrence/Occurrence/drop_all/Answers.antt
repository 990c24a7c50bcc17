use Rattle.std.proofs.Common.{FitsSigned, rules, subst, sym, w64}
use Rattle.std.proofs.lemmas.Int.{to_z-of_z}
use Rattle.mn_prop.specs.Contexts.{vars_of}
use Rattle.mn_prop.specs.Posts.{IsReady}
use Rattle.mn_prop.proofs.Stepping.{same_vars}
use Rattle.mn_count.specs.Occurrences.{con_of}
use Rattle.mn_count.proofs.Amounts.{entry_named}
use Rattle.mn_count.proofs.Tightening.{drop_fails, none_dropped, one_more_drop, single_dropped}
use Rattle.mn_count.proofs.occurrence.Occurrence.drop_all.Goals as goal

pub loop-i-init : goal.loop-i-init
loop-i-init c = let s = c.args.self.now in none_dropped s.inst.now.tuples s.v.now s.k s.amount c.args.c.now

pub is_single-requires : goal.is_single-requires
is_single-requires c =
    let s = c.args.self.now in
    let ready = subst (λ vars. IsReady vars s.inst.now.tuples (con_of s.v.now s.k s.amount)) (sym (same_vars c.loop-i.invariant.going.loses)) c.requires.ready in
    entry_named s.inst.now.tuples s.v.now s.k s.amount (vars_of c.loop-i.c) c.loop-i.i c.get-t.result.now ready c.get-t.ensures

pub drop_value-requires : goal.drop_value-requires
drop_value-requires c =
    let s = c.args.self.now in
    let ready = subst (λ vars. IsReady vars s.inst.now.tuples (con_of s.v.now s.k s.amount)) (sym (same_vars c.loop-i.invariant.going.loses)) c.requires.ready in
    entry_named s.inst.now.tuples s.v.now s.k s.amount (vars_of c.loop-i.c) c.loop-i.i c.get-t.result.now ready c.get-t.ensures

pub loop-i-preserved-then-is_single : goal.loop-i-preserved-then-is_single
loop-i-preserved-then-is_single c = let s = c.args.self.now in single_dropped s.inst.now.tuples s.v.now s.k s.amount c.args.c.now c.requires.full c.get-t.result.now _ c.loop-i.invariant c.get-t.ensures (c.is_single.ensures.alone.0 c.if-is_single.true)

pub returns-in_err-drop_value-clause-narrows : goal.returns-in_err-drop_value-clause-narrows
returns-in_err-drop_value-clause-narrows c =
    let s = c.args.self.now in
    let k : FitsSigned w64 s.k = search rules in
    drop_fails s.inst.now.tuples s.v.now s.k s.amount c.args.c.now c.requires.full c.get-t.result.now c.loop-i.invariant c.get-t.ensures (c.is_single.ensures.two c.if-is_single.false) (rw (to_z-of_z w64 s.k k) at c.in_err-drop_value.ensures) c.from_residual.ensures.0

pub loop-i-preserved : goal.loop-i-preserved
loop-i-preserved c =
    let s = c.args.self.now in
    let k : FitsSigned w64 s.k = search rules in
    one_more_drop s.inst.now.tuples s.v.now s.k s.amount c.args.c.now c.requires.full c.get-t.result.now c.loop-i.invariant c.get-t.ensures (c.is_single.ensures.two c.if-is_single.false) (rw (to_z-of_z w64 s.k k) at c.in_ok-drop_value.ensures)

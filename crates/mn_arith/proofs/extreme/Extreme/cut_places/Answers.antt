use Rattle.std.proofs.Common.{FitsSigned, get_or, rules, w64, subst, sym, arith}
use Rattle.std.proofs.lemmas.Int.{to_z-of_z}
use Rattle.mn_model.specs.declared.constraint.Term.TheVariants.{Var}
use Rattle.mn_prop.specs.Contexts.{IsNamed, vars_of}
use Rattle.mn_prop.proofs.Stepping.{same_vars}
use Rattle.mn_arith.proofs.Others.{behind_named, front_named, stands_now}
use Rattle.mn_arith.proofs.Spreading.{all_cut, next_cut, none_cut, wrong_cut}
use Rattle.mn_arith.proofs.extreme.Extreme.cut_places.Goals as goal

pub end_of-far-requires : goal.end_of-far-requires
end_of-far-requires c = let s = c.args.self.now in behind_named s.greatest s.terms.now s.x s.inst.now.tuples (vars_of c.args.c.now) c.requires

pub loop-t-init : goal.loop-t-init
loop-t-init c = let s = c.args.self.now in none_cut s.greatest s.terms.now s.x s.inst.now.tuples _ c.args.c.now

pub cut-requires : goal.cut-requires
cut-requires c =
    let s = c.args.self.now in
    subst (λ vars. IsNamed vars (get_or c.as_slice-t-items.result.now c.loop-t.t-index (Var (record { 0 = 0 })))) (sym (same_vars c.loop-t.invariant.narrows.loses)) (front_named s.greatest s.terms.now s.x s.inst.now.tuples (vars_of c.args.c.now) c.loop-t.t-index _ c.requires (stands_now c.as_slice-t-items.result.now s.terms.now c.loop-t.t-index (Var (record { 0 = 0 })) c.as_slice-t-items.ensures c.loop-t-test.true))

pub returns-in_err-cut : goal.returns-in_err-cut
returns-in_err-cut c =
    let s = c.args.self.now in
    let far : FitsSigned w64 c.end_of-far.result = search rules in
    let changed = rw (to_z-of_z w64 c.end_of-far.result far) at c.cut.ensures in
    let so_far = rw (to_z-of_z w64 c.end_of-far.result far) at c.loop-t.invariant in
    wrong_cut s.greatest s.terms.now s.x s.inst.now.tuples c.end_of-far.result c.loop-t.t-index c.args.c.now c.loop-t.c c.requires so_far c.end_of-far.ensures _ (stands_now c.as_slice-t-items.result.now s.terms.now c.loop-t.t-index (Var (record { 0 = 0 })) c.as_slice-t-items.ensures c.loop-t-test.true) c.cut.new.c c.cut.result changed _ c.in_err-cut.was c.from_residual.ensures.0

pub loop-t-preserved : goal.loop-t-preserved
loop-t-preserved c =
    let s = c.args.self.now in
    let far : FitsSigned w64 c.end_of-far.result = search rules in
    let changed = rw (to_z-of_z w64 c.end_of-far.result far) at c.cut.ensures in
    let so_far = rw (to_z-of_z w64 c.end_of-far.result far) at c.loop-t.invariant in
    rw (to_z-of_z w64 c.end_of-far.result far) (next_cut s.greatest s.terms.now s.x s.inst.now.tuples c.end_of-far.result c.loop-t.t-index c.args.c.now c.loop-t.c c.requires so_far c.end_of-far.ensures _ (stands_now c.as_slice-t-items.result.now s.terms.now c.loop-t.t-index (Var (record { 0 = 0 })) c.as_slice-t-items.ensures c.loop-t-test.true) c.cut.new.c c.cut.result changed c.in_ok-cut.was)

pub returns : goal.returns
returns c =
    let s = c.args.self.now in
    let far : FitsSigned w64 c.end_of-far.result = search rules in
    let so_far = rw (to_z-of_z w64 c.end_of-far.result far) at c.loop-t.invariant in
    all_cut s.greatest s.terms.now c.as_slice-t-items.result.now s.x s.inst.now.tuples c.end_of-far.result c.loop-t.t-index c.args.c.now c.loop-t.c c.as_slice-t-items.ensures (omega (arith, c.loop-t-test.false)) c.end_of-far.ensures so_far

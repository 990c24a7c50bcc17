use Rattle.std.proofs.Common.{FitsSigned, get_or, rules, w64, arith}
use Rattle.std.proofs.lemmas.Int.{to_z-of_z}
use Rattle.mn_model.specs.declared.constraint.Term.TheVariants.{Var}
use Rattle.mn_prop.specs.Contexts.{box_of}
use Rattle.mn_arith.proofs.Others.{stands_now}
use Rattle.mn_arith.proofs.Sharing.{other_place, reach_all, reach_next, same_place}
use Rattle.mn_arith.proofs.extreme.Extreme.reach_beside.Goals as goal

pub loop-j-preserved : goal.loop-j-preserved
loop-j-preserved c =
    let s = c.args.self.now in
    let own : FitsSigned w64 c.reach_of.result = search rules in
    let far : FitsSigned w64 c.farther-reach.result = search rules in
    let so_far = rw (c.loop-j.reach-is, to_z-of_z w64 c.args.a c.ranges.a) at c.loop-j.invariant in
    let out = rw (c.loop-j.reach-is) at c.reach_of.ensures.out in
    let one = rw (c.loop-j.reach-is, to_z-of_z w64 c.reach_of.result own) at c.farther-reach.ensures in
    rw (to_z-of_z w64 c.farther-reach.result far, to_z-of_z w64 c.args.a c.ranges.a) (reach_next s.terms.now c.args.i c.args.a s.greatest (box_of c.args.c.now) c.loop-j.j (get_or c.as_slice-t-items.result.now c.loop-j.j (Var (record { 0 = 0 }))) c.loop-j.reach c.reach_of.result c.farther-reach.result
    (stands_now c.as_slice-t-items.result.now s.terms.now c.loop-j.j (Var (record { 0 = 0 })) c.as_slice-t-items.ensures c.loop-j-test.true) so_far (λ same. out (same_place c.args.i c.loop-j.j same)) (λ differs. c.reach_of.ensures.end (other_place c.args.i c.loop-j.j differs)) one.first one.second one.one)

pub returns : goal.returns
returns c =
    let s = c.args.self.now in
    let so_far = rw (c.loop-j.reach-is, to_z-of_z w64 c.args.a c.ranges.a) at c.loop-j.invariant in
    rw (c.loop-j.reach-is) (reach_all s.terms.now c.args.i c.args.a s.greatest (box_of c.args.c.now) c.as_slice-t-items.result.now c.loop-j.j c.loop-j.reach c.as_slice-t-items.ensures (omega (arith, c.loop-j-test.false)) so_far)

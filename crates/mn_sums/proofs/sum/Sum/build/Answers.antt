use Rattle.std.proofs.Common.{FitsSigned, w64, rules}
use Rattle.std.proofs.lemmas.Int.{to_z-of_z}
use Rattle.mn_boxes.specs.Boxes.{declared_variables}
use Rattle.mn_sums.proofs.Forms.{made_placed}
use Rattle.mn_sums.proofs.sum.Sum.build.Goals as goal

pub invariant_of-result : goal.invariant_of-result
invariant_of-result c =
    let fits : FitsSigned w64 c.bound_of-bound.result = search rules in
    record {
      form = c.requires.form;
      made = c.in_ok-parts.ensures;
      placed = made_placed (declared_variables c.args.inst.now.decls) c.args.inst.now.tuples c.args.con.now c.in_ok-parts.parts.items c.requires.form c.in_ok-parts.ensures c.requires.ready;
      bounded = rw (to_z-of_z w64 c.bound_of-bound.result fits) c.bound_of-bound.ensures;
    }

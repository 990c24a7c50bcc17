use Rattle.std.proofs.Common.{FitsSigned, rules, w64}
use Rattle.std.proofs.lemmas.Int.{to_z-of_z}
use Rattle.mn_boxes.specs.Boxes.{set_of}
use Rattle.mn_model.specs.Variable.{number_of}
use Rattle.mn_element.proofs.Filling.{none_outside}
use Rattle.mn_element.proofs.stretch.Stretch.has_all_of.Goals as goal

pub returns-in-None : goal.returns-in-None
returns-in-None c e =
    let s = c.args.self.now in
    let fits : FitsSigned w64 s.lo = search rules in
    none_outside (set_of c.args.doms.now.now.sets (number_of c.args.v)) s.set s.lo (rw (to_z-of_z w64 s.lo fits) at c.in-None.ensures) c.requires.above

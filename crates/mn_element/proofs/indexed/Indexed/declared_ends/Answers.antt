use Rattle.mn_boxes.specs.Boxes.{declared_variables}
use Rattle.mn_element.proofs.Supporting.{is_indexed, result_lawful}
use Rattle.mn_element.proofs.indexed.Indexed.declared_ends.Goals as goal

pub declared_at-result-requires : goal.declared_at-result-requires
declared_at-result-requires c = let s = c.args.self.now in result_lawful (is_indexed s.form s.v.now s.x s.y) (declared_variables s.inst.now.decls) s.inst.now.tuples c.requires

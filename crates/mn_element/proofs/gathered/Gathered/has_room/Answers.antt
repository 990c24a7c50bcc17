use Rattle.mn_prop.specs.Contexts.{vars_of}
use Rattle.mn_element.proofs.Supporting.{index_named, is_indexed, result_named}
use Rattle.mn_element.proofs.gathered.Gathered.has_room.Goals as goal

pub spans-requires : goal.spans-requires
spans-requires c = let s = c.args.of.now in result_named (is_indexed s.form s.v.now s.x s.y) (vars_of c.args.c.now) s.inst.now.tuples c.requires

pub spans-requires-then-spans : goal.spans-requires-then-spans
spans-requires-then-spans c = let s = c.args.of.now in index_named (is_indexed s.form s.v.now s.x s.y) (vars_of c.args.c.now) s.inst.now.tuples c.requires

pub spans-requires-then-spans-2 : goal.spans-requires-then-spans-2
spans-requires-then-spans-2 c = let s = c.args.of.now in result_named (is_indexed s.form s.v.now s.x s.y) (vars_of c.args.c.now) s.inst.now.tuples c.requires

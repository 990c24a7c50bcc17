use Rattle.mn_prop.specs.Contexts.{vars_of}
use Rattle.mn_element.proofs.Supporting.{index_named, is_indexed}
use Rattle.mn_element.proofs.indexed.Indexed.picks.Goals as goal

pub lo-i-requires : goal.lo-i-requires
lo-i-requires c = let s = c.args.self.now in index_named (is_indexed s.form s.v.now s.x s.y) (vars_of c.args.c.now) s.inst.now.tuples c.requires

pub next-requires : goal.next-requires
next-requires c = let s = c.args.self.now in index_named (is_indexed s.form s.v.now s.x s.y) (vars_of c.args.c.now) s.inst.now.tuples c.requires

use Rattle.std.proofs.Common.{w64}
use Rattle.std.proofs.lemmas.Int.{to_z-of_z}
use Rattle.mn_prop.specs.Contexts.{box_of}
use Rattle.mn_basic.proofs.Numbered.{one_told}
use Rattle.mn_basic.proofs.unary.UnarySupportTest.supported.Goals as goal

pub returns : goal.returns
returns c =
    let s = c.args.self.now in
    one_told s.numbers s.x s.inst.now.tuples c.args._i c.args.a (box_of c.args._c.now) c.contains.result c.requires.place c.requires.there (rw (to_z-of_z w64 c.args.a c.ranges.a) at c.contains.ensures)

use Rattle.std.proofs.Common.{FitsSigned, rules, w64}
use Rattle.std.proofs.lemmas.Int.{to_z-of_z}
use Rattle.mn_prop.specs.Contexts.{vars_of}
use Rattle.mn_basic.proofs.Numbered.{literal_named, reach_narrows}
use Rattle.mn_basic.proofs.unary.Unary.cut_ends.Goals as goal

pub lo-requires : goal.lo-requires
lo-requires c = let s = c.args.self.now in literal_named s.numbers s.x s.inst.now.tuples (vars_of c.args.c.now) c.requires

pub keep-requires : goal.keep-requires
keep-requires c = let s = c.args.self.now in literal_named s.numbers s.x s.inst.now.tuples (vars_of c.args.c.now) c.requires

pub returns : goal.returns
returns c =
    let s = c.args.self.now in
    let lo : FitsSigned w64 c.lo.result = search rules in
    let hi : FitsSigned w64 c.hi.result = search rules in
    reach_narrows s.numbers s.x s.inst.now.tuples c.reach.result c.args.c.now c.keep.new.c c.keep.result c.requires c.of-own.result c.lo.result c.hi.result c.lo.ensures.least c.hi.ensures.greatest
    (rw (to_z-of_z w64 c.lo.result lo) at c.of-own.ensures.lo) (rw (to_z-of_z w64 c.hi.result hi) at c.of-own.ensures.hi) c.reach.ensures c.keep.ensures.step

use Rattle.std.proofs.Common.{subst}
use Rattle.mn_boxes.specs.Values.{Values, members}
use Rattle.mn_prop.specs.Contexts.{vars_of}
use Rattle.mn_prop.specs.Sifting.{IsSifted}
use Rattle.mn_arith.proofs.Finding.{found_part, x_lawful}
use Rattle.mn_arith.proofs.extreme.Extreme.keep_found.Goals as goal

pub keep-requires : goal.keep-requires
keep-requires c = let s = c.args.self.now in x_lawful s.greatest s.terms.now s.x s.inst.now.tuples (vars_of c.args.c.now) c.requires.ready

pub returns : goal.returns
returns c =
    let s = c.args.self.now in
    found_part s.greatest s.terms.now s.x s.inst.now.tuples c.args.c.now c.keep.new.self c.keep.result c.requires.ready c.args.found.now.set c.requires.found
    (subst (λ (values : Values). IsSifted (members values) s.x c.args.c.now c.keep.new.self c.keep.result) c.set.ensures c.keep.ensures)

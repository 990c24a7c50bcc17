use Rattle.std.proofs.Common.{arith}
use Rattle.mn_model.specs.Variable.{number_of}
use Rattle.mn_domains.proofs.Standing.{ends_at, stands_at}
use Rattle.mn_domains.proofs.doms.Doms.size.Goals as goal

pub index-requires : goal.index-requires
index-requires c =
    let st = stands_at c.self.inside.listed.items c.self.inside.shapes.items c.self.inside.current c.self.inside.saved.items c.args.self.now (number_of c.args.v) c.self.view_is c.self.invariant c.requires in
    omega (arith, st.in_ends, c.self.inside.current.ends.ok.0, c.number.ensures)

pub returns : goal.returns
returns c =
    let e = ends_at c.self.inside.listed.items c.self.inside.shapes.items c.self.inside.current c.self.inside.saved.items c.args.self.now (number_of c.args.v) c.index.result.now c.self.view_is c.self.invariant c.requires (rw c.number.ensures at c.index.ensures) in
    e.size

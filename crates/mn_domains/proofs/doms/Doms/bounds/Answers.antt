use Rattle.std.proofs.Common.{FitsSigned, rules, w64, arith}
use Rattle.std.proofs.lemmas.Int.{to_z-of_z}
use Rattle.mn_model.specs.Variable.{number_of}
use Rattle.mn_domains.proofs.Standing.{ends_at, stands_at}
use Rattle.mn_domains.proofs.doms.Doms.bounds.Goals as goal

pub index-ends-requires : goal.index-ends-requires
index-ends-requires c =
    let st = stands_at c.self.inside.listed.items c.self.inside.shapes.items c.self.inside.current c.self.inside.saved.items c.args.self.now (number_of c.args.v) c.self.view_is c.self.invariant c.requires in
    omega (arith, st.in_ends, c.self.inside.current.ends.ok.0, c.number.ensures)

pub returns : goal.returns
returns c =
    let e = ends_at c.self.inside.listed.items c.self.inside.shapes.items c.self.inside.current c.self.inside.saved.items c.args.self.now (number_of c.args.v) c.index-ends.result.now c.self.view_is c.self.invariant c.requires (rw c.number.ensures at c.index-ends.ensures) in
    let low : FitsSigned w64 c.index-ends.result.now.lo = search rules in
    let high : FitsSigned w64 c.index-ends.result.now.hi = search rules in
    rw (to_z-of_z w64 c.index-ends.result.now.lo low, to_z-of_z w64 c.index-ends.result.now.hi high) (record { low = e.first; high = e.last })

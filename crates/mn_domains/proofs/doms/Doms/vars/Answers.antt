use Rattle.std.proofs.Common.{length, ap, arith}
use Rattle.std.proofs.lemmas.List.{length-map}
use Rattle.mn_domains.specs.Held.{variable_held}
use Rattle.mn_domains.specs.Sets.{Sets}
use Rattle.mn_domains.proofs.doms.Doms.vars.Goals as goal

pub returns : goal.returns
returns c =
    let i = c.self.inside in
    let count = length-map i.shapes.items (variable_held i.listed.items) in
    let view = ap (λ (s : Sets). length s.vars) c.self.view_is in
    omega (arith, count, view, c.len.ensures, i.shapes.ok.0)

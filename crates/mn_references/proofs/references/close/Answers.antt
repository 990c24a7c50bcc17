use Rattle.std.proofs.Common.{◌≡◌, ℕ, ◌<◌, List, map, sym, ap, ◌∙◌, subst}
use Rattle.std.specs.List.{AllByRecursion}
use Rattle.mn_model.specs.Problem.{Problem, variable_count}
use Rattle.mn_model.specs.declared.variable.VarId.{VarId}
use Rattle.mn_references.specs.Aims.{AreDeclared}
use Rattle.mn_references.specs.Lookups.{at_source}
use Rattle.mn_references.proofs.Indexing.{places_fit, vars_fit}
use Rattle.mn_references.proofs.references.close.Goals as goal

pub ends-broken-requires : goal.ends-broken-requires
ends-broken-requires c =
    let items = c.args.next.places.items in
    let at = at_source c.args.lookup.now.source in
    let inside = places_fit c.args.next.dims.now items c.args.next.size c.requires.whole c.requires.inside.within in
    let fit = subst (λ (n : ℕ). AllByRecursion (λ place. place < n) items) c.requires.size inside in
    let all = vars_fit at items c.args.lookup.now.size (variable_count c.args.scan.now.problem.decls) c.requires.fits.known fit in
    let same : c.as_slice-2.result.now ≡ map at items = c.as_slice-2.ensures ∙ c.in_ok-vars.ensures ∙ ap (map at) c.as_slice.ensures.value in
    subst (λ (l : List VarId). AreDeclared c.inst.result.now l) (sym same) (subst (λ (p : Problem). AreDeclared p (map at items)) (sym c.inst.ensures) all)

use Rattle.std.proofs.Common.{◌≡◌, List, map, sym, ◌∙◌, subst, arith}
use Rattle.std.specs.List.{range_with_len}
use Rattle.mn_model.specs.Problem.{variable_count}
use Rattle.mn_model.specs.declared.variable.VarId.{VarId}
use Rattle.mn_references.specs.Aims.{AreDeclared}
use Rattle.mn_references.specs.Lookups.{at_source}
use Rattle.mn_references.proofs.Indexing.{vars_fit, all_places}
use Rattle.mn_references.proofs.references.bare.Goals as goal

pub ends-behind-requires : goal.ends-behind-requires
ends-behind-requires c =
    let size = c.args.lookup.now.size in
    let at = at_source c.args.lookup.now.source in
    let same : c.as_slice.result.now ≡ map at (range_with_len 0 size) = c.as_slice.ensures ∙ c.in_ok-vars.ensures in
    subst (λ (l : List VarId). AreDeclared c.args.inst.now l) (sym same)
    (vars_fit at (range_with_len 0 size) size (variable_count c.args.inst.now.decls) c.requires.known (all_places size size (omega arith)))

use Rattle.std.proofs.Common.{[], ◌∷◌, ◌++◌, ap, ◌∙◌}
use Rattle.mn_references.specs.Lookups.{at_source}
use Rattle.mn_references.proofs.Indexing.{row_more}
use Rattle.mn_references.proofs.references.all_of.Goals as goal

pub loop-place-preserved : goal.loop-place-preserved
loop-place-preserved c =
    row_more (at_source c.args.lookup.now.source) [] c.loop-place.vars c.push.new.self c.loop-place.place c.loop-place.invariant
    (c.in_ok-push.ensures.ok ∙ ap (λ v. c.loop-place.vars ++ v ∷ []) c.at.ensures)

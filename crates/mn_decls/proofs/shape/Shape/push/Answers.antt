use Rattle.std.proofs.Common.{◌*◌, sym, ap, ◌∙◌}
use Rattle.mn_model.specs.Problem.{size_of_dims}
use Rattle.mn_decls.proofs.Ranges.{size_more}
use Rattle.mn_decls.proofs.shape.Shape.push.Goals as goal

pub invariant_of-self-2 : goal.invariant_of-self-2
invariant_of-self-2 c =
    ap (λ n. n * c.from.result) c.self.invariant ∙ ap (λ n. size_of_dims c.self.inside.dims * n) c.from.ensures ∙ sym (size_more c.self.inside.dims c.args.dim) ∙ ap size_of_dims (sym c.in_ok-push.ensures.ok)

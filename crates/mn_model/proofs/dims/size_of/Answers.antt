use Rattle.std.proofs.Common.{◌≡◌, ◌+◌, ◌*◌, ◌≤◌, arith, drop, get_or, ap, sym, ◌∙◌}
use Rattle.std.specs.List.{AllByRecursion}
use Rattle.mn_model.specs.Problem.{size_of_dims}
use Rattle.mn_model.proofs.Sizes.{size_of_dims-positive, shaped-drop, size_of_dims-drop, part_of_size}
use Rattle.mn_model.proofs.dims.size_of.Goals as goal

pub overflow_mul-size : goal.overflow_mul-size
overflow_mul-size c =
    let dims = c.args.dims.now in
    let i = c.loop-dim.dim-index in
    let shaped : AllByRecursion (λ dim. 1 ≤ dim) dims = c.requires.shaped in
    let step : size_of_dims (drop i dims) ≡ get_or dims i 0 * size_of_dims (drop (i + 1) dims) = size_of_dims-drop i dims (omega arith) in
    let whole : c.loop-dim.size * (get_or dims i 0 * size_of_dims (drop (i + 1) dims)) ≡ size_of_dims c.args.dims.now = ap (λ k. c.loop-dim.size * k) (sym step) ∙ c.loop-dim.invariant in
    omega (arith, part_of_size c.loop-dim.size (get_or dims i 0) (size_of_dims (drop (i + 1) dims)) (size_of_dims c.args.dims.now) (omega arith) (size_of_dims-positive _ (shaped-drop (i + 1) dims shaped)), c.requires.few)

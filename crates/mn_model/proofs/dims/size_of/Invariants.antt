use Rattle.std.proofs.Common.{◌≡◌, ◌*◌, drop}
use Rattle.mn_model.specs.Problem.{size_of_dims}
use Rattle.mn_model.proofs.dims.size_of.Given as goal

-- the size so far, times the size of what is left, is the whole size
abbrev pub invariant-loop-dim : goal.invariant-loop-dim
invariant-loop-dim l = l.size * size_of_dims (drop l.dim-index l.dims) ≡ size_of_dims l.fn.dims

use Rattle.std.proofs.Common.{◌≡◌, ◌+◌, ◌*◌, ◌≤◌, drop}
use Rattle.mn_model.specs.Problem.{size_of_dims, offset_from}
use Rattle.mn_model.proofs.dims.offset_of.Given as goal

-- the place so far leads to the place of the whole, and stays within the matrix
abbrev pub invariant-loop-i : goal.invariant-loop-i
invariant-loop-i l = record {
  leads : offset_from l.offset (drop l.i l.dims) (drop l.i l.subs) ≡ offset_from 0 l.dims l.subs;
  within : (l.offset + 1) * size_of_dims (drop l.i l.dims) ≤ size_of_dims l.dims;
}

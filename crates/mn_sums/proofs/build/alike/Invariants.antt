use Rattle.std.proofs.Common.{◌≡◌, map, take}
use Rattle.mn_sums.specs.declared.part.Part.TheVariants.{Times}
use Rattle.mn_sums.proofs.build.alike.Given as goal

-- the parts so far are those of the places so far
abbrev pub invariant-loop-t : goal.invariant-loop-t
invariant-loop-t l = l.parts.items ≡ map (λ t. Times l.weight t) (take l.t-index l.v)

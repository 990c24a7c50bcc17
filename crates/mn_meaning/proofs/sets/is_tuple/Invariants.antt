use Rattle.std.proofs.Common.{◌↔◌, length}
use Rattle.mn_model.specs.Members.{HasMember}
use Rattle.mn_meaning.specs.Families.{rows_of}
use Rattle.mn_meaning.specs.Meaning.{values_at}
use Rattle.mn_meaning.proofs.sets.is_tuple.Given as goal

-- the rows that are left decide of all
abbrev pub invariant-loop-rest : goal.invariant-loop-rest
invariant-loop-rest g l =
    HasMember (rows_of l.arity l.rest) (values_at (g.V.Values.values l.s) l.v) ↔ HasMember (rows_of l.arity l.initial.rest) (values_at (g.V.Values.values l.s) l.v)

abbrev pub decreases-loop-rest : goal.decreases-loop-rest
decreases-loop-rest g l = length l.rest

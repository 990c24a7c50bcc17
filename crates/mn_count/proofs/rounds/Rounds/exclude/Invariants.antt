use Rattle.mn_prop.specs.Contexts.{vars_of}
use Rattle.mn_prop.specs.Losses.{Unsupported}
use Rattle.mn_count.specs.Counts.{alldiff_of}
use Rattle.mn_count.specs.Takings.{AreFree, IsFreeAt}
use Rattle.mn_count.proofs.Turning.{TurnsTo}
use Rattle.mn_count.proofs.rounds.Rounds.exclude.Given as goal

-- the open places so far have no taken value
abbrev pub invariant-loop-k : goal.invariant-loop-k
invariant-loop-k l = TurnsTo (Unsupported (alldiff_of l.d)) (AreFree (vars_of l.initial.c) l.d.v.now l.self.taken l.self.open) (IsFreeAt (vars_of l.initial.c) l.d.v.now l.self.taken l.self.open) l.initial.c l.c l.k

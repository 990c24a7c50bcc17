use Rattle.std.proofs.Common.{◌-◌, length}
use Rattle.mn_lexer.proofs.Readings.{CutsUpTo}
use Rattle.mn_lexer.proofs.tokens.Given as goal

abbrev pub invariant-loop-at : goal.invariant-loop-at
invariant-loop-at l = CutsUpTo l.text l.list l.at

abbrev pub decreases-loop-at : goal.decreases-loop-at
decreases-loop-at l = length l.text - l.at

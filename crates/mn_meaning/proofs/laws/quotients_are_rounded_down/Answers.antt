use Rattle.mn_meaning.proofs.Rounded.{remainder_small, rounds_down, rounds_down_below}
use Rattle.mn_meaning.proofs.laws.quotients_are_rounded_down.Goals as goal

pub returns-clause-above : goal.returns-clause-above
returns-clause-above c = rounds_down

pub returns-clause-below : goal.returns-clause-below
returns-clause-below c = rounds_down_below

pub returns-clause-remainder : goal.returns-clause-remainder
returns-clause-remainder c = remainder_small

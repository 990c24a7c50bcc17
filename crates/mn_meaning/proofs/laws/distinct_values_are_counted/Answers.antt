use Rattle.mn_meaning.proofs.Repeats.{distinct_counted}
use Rattle.mn_meaning.proofs.laws.distinct_values_are_counted.Goals as goal

pub returns : goal.returns
returns c = distinct_counted

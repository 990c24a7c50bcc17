use Rattle.mn_closure.proofs.Same.{closed_by_places, places_same_or_changed, possible_by_places, same_quiet}
use Rattle.mn_closure.proofs.laws.places_tell.Goals as goal

pub returns-clause-closed : goal.returns-clause-closed
returns-clause-closed c = closed_by_places

pub returns-clause-possible : goal.returns-clause-possible
returns-clause-possible c = possible_by_places

pub returns-clause-changed : goal.returns-clause-changed
returns-clause-changed c = places_same_or_changed

pub returns-clause-quiet : goal.returns-clause-quiet
returns-clause-quiet c = same_quiet

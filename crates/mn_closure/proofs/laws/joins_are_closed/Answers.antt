use Rattle.mn_closure.specs.Closures.{join}
use Rattle.mn_closure.proofs.Covering.{closed_join, covers_join}
use Rattle.mn_closure.proofs.Joined.{is_join}
use Rattle.mn_closure.proofs.Solving.{join_unique}
use Rattle.mn_closure.proofs.laws.joins_are_closed.Goals as goal

pub returns-clause-least : goal.returns-clause-least
returns-clause-least c = is_join

pub returns-clause-unique : goal.returns-clause-unique
returns-clause-unique c = join_unique

pub returns-clause-closed : goal.returns-clause-closed
returns-clause-closed c = λ vars lists con says one another up zeros is_one is_another first second.
    closed_join vars lists con says one another (join vars one another) (covers_join vars one another up is_one is_another) zeros first second

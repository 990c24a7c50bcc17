use Rattle.mn_references.proofs.Followable.{followed_law}
use Rattle.mn_references.proofs.reading.reference_law.Goals as goal

pub returns : goal.returns
returns c = λ p want m may. followed_law want p m may

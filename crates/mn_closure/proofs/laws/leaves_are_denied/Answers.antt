use Rattle.mn_closure.proofs.Readying.{signed_denies, written_denies}
use Rattle.mn_closure.proofs.laws.leaves_are_denied.Goals as goal

pub returns-clause-written : goal.returns-clause-written
returns-clause-written c = written_denies

pub returns-clause-ready : goal.returns-clause-ready
returns-clause-ready c = λ vars lists con ready. signed_denies lists con ready.signed

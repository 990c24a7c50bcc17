use Rattle.mn_language.proofs.Verdicts as verdicts
use Rattle.mn_language.proofs.text_laws.one_verdict.Goals as goal

pub returns-clause-some : goal.returns-clause-some
returns-clause-some c = verdicts.some_verdict

pub returns-clause-one : goal.returns-clause-one
returns-clause-one c = verdicts.one_verdict

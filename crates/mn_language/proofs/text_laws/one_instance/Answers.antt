use Rattle.mn_language.proofs.Verdicts as verdicts
use Rattle.mn_language.proofs.text_laws.one_instance.Goals as goal

pub returns : goal.returns
returns c = verdicts.same_instance

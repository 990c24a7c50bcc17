use Rattle.mn_grammar.proofs.Exact as exact
use Rattle.mn_grammar.proofs.one_refusal.Goals as goal

pub returns-clause-one : goal.returns-clause-one
returns-clause-one g c = exact.one_refusal

pub returns-clause-no_text : goal.returns-clause-no_text
returns-clause-no_text g c = exact.no_text_refused

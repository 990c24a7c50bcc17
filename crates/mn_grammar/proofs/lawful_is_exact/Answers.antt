use Rattle.mn_grammar.proofs.Exact.{exact}
use Rattle.mn_grammar.proofs.lawful_is_exact.Goals as goal

pub returns : goal.returns
returns g c = exact

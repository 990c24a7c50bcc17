use Rattle.mn_decls.specs.TupleLists.{whole}
use Rattle.mn_decls.proofs.TupleListLaw.{lists_law}
use Rattle.mn_decls.proofs.tuplelists.tuplelist_law.Goals as goal

pub returns : goal.returns
returns c = λ p. lists_law (whole p)

use Rattle.mn_canonical.proofs.Whole.{canonical_texts}
use Rattle.mn_canonical.proofs.law.canonical_texts_are_read.Goals as goal

pub returns : goal.returns
returns c = canonical_texts c.spaced_pieces_are_tokens.ensures c.numbers_are_read.ensures c.instances_are_said.ensures

use Rattle.mn_pieces.proofs.Printing.{numbers_are_read_of}
use Rattle.mn_pieces.proofs.law.numbers_are_read.Goals as goal

pub returns : goal.returns
returns c = numbers_are_read_of

use Rattle.mn_lexer.proofs.Readings.{one_reading_of}
use Rattle.mn_lexer.proofs.one_reading.Goals as goal

pub returns : goal.returns
returns c = one_reading_of

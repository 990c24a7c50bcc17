use Rattle.mn_pieces.proofs.Cutting.{pieces_are_tokens_of}
use Rattle.mn_pieces.proofs.law.pieces_are_tokens.Goals as goal

pub returns : goal.returns
returns c = pieces_are_tokens_of

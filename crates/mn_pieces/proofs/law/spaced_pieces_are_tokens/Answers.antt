use Rattle.mn_pieces.proofs.Spacing.{spaced_pieces_are_tokens_of}
use Rattle.mn_pieces.proofs.law.spaced_pieces_are_tokens.Goals as goal

pub returns : goal.returns
returns c = spaced_pieces_are_tokens_of

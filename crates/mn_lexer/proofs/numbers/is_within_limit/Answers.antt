use Rattle.std.proofs.Common.{rules}
use Rattle.mn_lexer.proofs.Numerals.{short_within}
use Rattle.mn_lexer.proofs.numbers.is_within_limit.Goals as goal

pub returns-then-bytes-le9 : goal.returns-then-bytes-le9
returns-then-bytes-le9 c = (λ short. short_within c.args.bytes.now c.requires c.if-bytes-le9.true, λ within. search rules)

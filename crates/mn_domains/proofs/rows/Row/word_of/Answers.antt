use Rattle.mn_domains.proofs.Sieve.{full_bits, own_bits}
use Rattle.mn_domains.proofs.rows.Row.word_of.Goals as goal

pub returns-then-self : goal.returns-then-self
returns-then-self c = λ i is. full_bits c.args.bits.now c.args.self i c.if-self.true

pub returns : goal.returns
returns c = λ i is. own_bits c.args.bits.now c.args.self c.args.word i c.if-self.false is

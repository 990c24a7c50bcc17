use Rattle.std.proofs.Common.{◌+◌}
use Rattle.mn_domains.specs.Rows.{value_placed}
use Rattle.mn_domains.proofs.Sieve.{part_bits}
use Rattle.mn_domains.proofs.rows.Row.part.Goals as goal

pub returns : goal.returns
returns c = λ i is. part_bits c.args.bits.now c.args.self c.args.set.now c.args.wanted c.args.word c.word_of.result c.run_in.result c.passing.result i is (c.word_of.ensures i is) (c.run_in.ensures i is) (c.passing.ensures (value_placed (i + c.args.self.raise)))

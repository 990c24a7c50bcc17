use Rattle.std.proofs.Common.{arith}
use Rattle.mn_boxes.specs.Bits.{word_bit}
use Rattle.mn_boxes.proofs.Counts.{count_from-few, ones_piece}
use Rattle.mn_boxes.proofs.bits.count_in.Goals as goal

pub returns-clause-count : goal.returns-clause-count
returns-clause-count c = ones_piece c.args.word c.args.first c.args.n (omega arith)

pub returns-clause-few : goal.returns-clause-few
returns-clause-few c = omega (arith, ones_piece c.args.word c.args.first c.args.n (omega arith), count_from-few (word_bit c.args.word) c.args.first c.args.n)

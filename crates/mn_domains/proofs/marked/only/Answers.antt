use Rattle.std.proofs.Common.{w64}
use Rattle.std.proofs.lemmas.Int.{to_z-of_z}
use Rattle.mn_domains.proofs.Marks.{alone_marked, row_alone}
use Rattle.mn_domains.proofs.marked.only.Goals as goal

pub returns : goal.returns
returns c =
    let one = alone_marked c.args.bits.now c.args.lo c.args.at c.args.ends c.args.a c.requires.ordered c.requires.has in
    rw (to_z-of_z w64 c.args.a c.ranges.a) (record { row = row_alone c.args.bits.now c.args.lo c.args.at c.args.ends c.args.a c.requires.row one.low one.high; ends = one.ends; values = one.values; high = one.high })

use Rattle.std.proofs.Common.{rules, ◌+◌}
use Rattle.mn_references.proofs.Indexing.{row_more}
use Rattle.mn_references.proofs.indices.push_row.Goals as goal

pub loop-i-preserved : goal.loop-i-preserved
loop-i-preserved c = row_more (λ i. c.args.base + i) c.args.out.now.items c.loop-i.out.items c.push.new.self.items c.loop-i.i c.loop-i.invariant (search rules)

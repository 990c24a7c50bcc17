use Rattle.std.proofs.Common.{arith}
use Rattle.mn_gen.proofs.Rings.{few_tables, lawful_table, one_table_more, room_for_table}
use Rattle.mn_gen.proofs.tables.fill.Goals as goal

pub add-requires-clause-lawful : goal.add-requires-clause-lawful
add-requires-clause-lawful c =
    lawful_table c.args.seed c.args.n c.loop-k.k c.loop-k.inst c.loop-k.invariant c.in_ok-table.field-0 c.in_ok-table.ensures c.loop-k-test.true

pub add-requires-clause-room : goal.add-requires-clause-room
add-requires-clause-room c =
    few_tables c.args.seed c.args.n c.loop-k.k c.loop-k.inst c.loop-k.invariant c.in_ok-table.field-0 c.in_ok-table.ensures (omega arith)

pub add-requires-clause-cells : goal.add-requires-clause-cells
add-requires-clause-cells c =
    room_for_table c.args.seed c.args.n c.loop-k.k c.loop-k.inst c.loop-k.invariant c.in_ok-table.field-0 c.in_ok-table.ensures c.requires.few

pub loop-k-preserved : goal.loop-k-preserved
loop-k-preserved c =
    one_table_more c.args.seed c.args.n c.loop-k.k c.loop-k.inst c.loop-k.invariant c.in_ok-table.field-0 c.in_ok-table.ensures c.add.new.self c.in_ok-add.ensures.ok

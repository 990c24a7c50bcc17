use Rattle.std.proofs.Common.{◌∙◌, arith}
use Rattle.mn_gen.proofs.Names.{unused_in_ring}
use Rattle.mn_gen.proofs.Rings.{lawful_list, one_list_more, room_for_list}
use Rattle.mn_gen.proofs.Streams.{cells_after_lists, length_of_hidden, state_after_list}
use Rattle.mn_gen.proofs.tables.add_lists.Goals as goal

pub cells_of-requires-clause-hidden : goal.cells_of-requires-clause-hidden
cells_of-requires-clause-hidden c = length_of_hidden c.args.seed c.args.n c.in_ok-hidden.hidden c.in_ok-hidden.ensures.values

pub tuples_add-requires-clause-unused : goal.tuples_add-requires-clause-unused
tuples_add-requires-clause-unused c =
    unused_in_ring c.args.seed c.args.n c.loop-k.k c.loop-k.inst c.in_ok-list_name.field-0 c.loop-k.invariant.ring c.in_ok-list_name.ensures (omega arith)

pub tuples_add-requires-clause-lawful : goal.tuples_add-requires-clause-lawful
tuples_add-requires-clause-lawful c =
    let cells = c.in_ok-cells.ensures.cells ∙ cells_after_lists c.args.seed c.args.n c.loop-k.k c.in_ok-hidden.hidden c.loop-k.draws.state c.in_ok-hidden.ensures.values c.loop-k.invariant.state c.requires.least c.loop-k-test.true in
    lawful_list c.args.seed c.args.n c.loop-k.k c.in_ok-list_name.field-0 c.in_ok-cells.cells c.in_ok-list_name.ensures cells (omega arith)

pub tuples_add-requires-clause-room : goal.tuples_add-requires-clause-room
tuples_add-requires-clause-room c =
    let cells = c.in_ok-cells.ensures.cells ∙ cells_after_lists c.args.seed c.args.n c.loop-k.k c.in_ok-hidden.hidden c.loop-k.draws.state c.in_ok-hidden.ensures.values c.loop-k.invariant.state c.requires.least c.loop-k-test.true in
    room_for_list c.args.seed c.args.n c.loop-k.k c.loop-k.inst c.loop-k.invariant.ring c.in_ok-list_name.field-0 c.in_ok-list_name.ensures c.in_ok-cells.cells cells (omega arith)

pub loop-k-preserved : goal.loop-k-preserved
loop-k-preserved c =
    let cells = c.in_ok-cells.ensures.cells ∙ cells_after_lists c.args.seed c.args.n c.loop-k.k c.in_ok-hidden.hidden c.loop-k.draws.state c.in_ok-hidden.ensures.values c.loop-k.invariant.state c.requires.least c.loop-k-test.true in
    record {
      ring = one_list_more c.args.seed c.args.n c.loop-k.k c.loop-k.inst c.loop-k.invariant.ring c.in_ok-list_name.field-0 c.in_ok-list_name.ensures c.in_ok-cells.cells cells c.tuples_add.new.self c.in_ok-tuples_add.ensures.ok;
      state = state_after_list c.args.seed c.args.n c.loop-k.k c.loop-k.draws.state c.cells_of.new.draws.state c.loop-k.invariant.state c.in_ok-cells.ensures.state;
    }

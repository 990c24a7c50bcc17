use Rattle.std.proofs.Common.{ap}
use Rattle.mn_model.specs.Parts.{cell_count}
use Rattle.mn_gen.proofs.Boards.{ok_so, one_more_on_board}
use Rattle.mn_gen.proofs.queens.add_less_or_more.Goals as goal

pub returns-clause-board : goal.returns-clause-board
returns-clause-board c =
    ok_so c.add.result (one_more_on_board c.args.n c.args.inst.now c.add.new.self c.in_ok-con.con c.requires.board (ap cell_count c.in_ok-con.ensures)) c.add.ensures.ok

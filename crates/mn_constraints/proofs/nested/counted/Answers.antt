use Rattle.std.proofs.Common.{subst, arith}
use Rattle.mn_cursor.specs.Progress.{rest}
use Rattle.mn_model.specs.Lawful.{IsLawful}
use Rattle.mn_references.proofs.FairTokens.{rest_fair}
use Rattle.mn_language.proofs.LawfulConstraints.{leaf_room}
use Rattle.mn_constraints.proofs.nested.counted.Goals as goal

pub cells-requires : goal.cells-requires
cells-requires c =
    let room = leaf_room c.args.scan.now.problem (subst IsLawful c.inst.ensures c.lawful-2.ensures) c.args.used.now c.requires c.args.name (rest c.args.scan.now) (rest c.leaf.new.scan) c.in_ok-con.con
    (rest_fair c.args.scan.now c.lawful.ensures) c.in_ok-con.ensures.gives in
    omega (arith, room)

pub overflow_add-used : goal.overflow_add-used
overflow_add-used c =
    let room = leaf_room c.args.scan.now.problem (subst IsLawful c.inst.ensures c.lawful-2.ensures) c.args.used.now c.requires c.args.name (rest c.args.scan.now) (rest c.leaf.new.scan) c.in_ok-con.con
    (rest_fair c.args.scan.now c.lawful.ensures) c.in_ok-con.ensures.gives in
    let cells = c.cells.ensures in
    omega (arith, room, cells)

pub returns-clause-few : goal.returns-clause-few
returns-clause-few c =
    let room = leaf_room c.args.scan.now.problem (subst IsLawful c.inst.ensures c.lawful-2.ensures) c.args.used.now c.requires c.args.name (rest c.args.scan.now) (rest c.leaf.new.scan) c.in_ok-con.con
    (rest_fair c.args.scan.now c.lawful.ensures) c.in_ok-con.ensures.gives in
    let cells = c.cells.ensures in
    omega (arith, room, cells)

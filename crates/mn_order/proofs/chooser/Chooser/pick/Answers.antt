use Rattle.mn_order.proofs.Places.{none_where_one}
use Rattle.mn_order.proofs.chooser.Chooser.pick.Goals as goal

pub returns-clause-none : goal.returns-clause-none
returns-clause-none g c =
    none_where_one c.self.inside.choice c.args.now.now c.args.declared.now c.place.result c.requires
    (c.self.invariant.1 c.args.now.now c.args.declared.now c.place.result c.requires c.place.ensures)

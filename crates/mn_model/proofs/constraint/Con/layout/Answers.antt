use Rattle.mn_model.proofs.Placed.{implied_places, negated_places, reified_places}
use Rattle.mn_model.proofs.constraint.Con.layout.Goals as goal

pub returns-in-Reify-clause-placed : goal.returns-in-Reify-clause-placed
returns-in-Reify-clause-placed c = reified_places c.args.self.now c.get.result.now c.in-Reify.part c.in-Reify.r c.in-Reify.is c.get.ensures

pub returns-in-Reifyimply-clause-placed : goal.returns-in-Reifyimply-clause-placed
returns-in-Reifyimply-clause-placed c = implied_places c.args.self.now c.get-in-Reifyimply.result.now c.in-Reifyimply.part c.in-Reifyimply.r c.in-Reifyimply.is c.get-in-Reifyimply.ensures

pub returns-in-Negated-clause-placed : goal.returns-in-Negated-clause-placed
returns-in-Negated-clause-placed c = negated_places c.args.self.now c.get-in-Negated.result.now c.in-Negated.part c.in-Negated.is c.get-in-Negated.ensures

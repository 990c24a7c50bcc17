use Rattle.mn_prop.proofs.Narrowing.{as_pass}
use Rattle.mn_element.specs.Elements.{element_of}
use Rattle.mn_element.proofs.element.ElementRunner.pass.Goals as goal

pub returns-in-Some-clause-step : goal.returns-in-Some-clause-step
returns-in-Some-clause-step c = as_pass (element_of c.args.self.now) c.filter.ensures

pub returns-in-None-clause-step : goal.returns-in-None-clause-step
returns-in-None-clause-step c = as_pass (element_of c.args.self.now) c.filter-in-None.ensures

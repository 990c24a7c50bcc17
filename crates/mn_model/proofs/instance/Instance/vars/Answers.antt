use Rattle.std.proofs.Common.{◌≡◌, ap, ◌∙◌, arith, length}
use Rattle.mn_model.proofs.Variables.{length-owners_from}
use Rattle.mn_model.specs.Problem.{variable_count}
use Rattle.mn_model.proofs.instance.Instance.vars.Goals as goal

counted : (c : goal.After-len) → c.len.result ≡ variable_count c.self.inside.decls.items
counted c = c.len.ensures ∙ (c.self.inside.owners.ok.0 ∙ (ap length c.self.invariant.owned ∙ length-owners_from 0 c.self.inside.decls.items))

pub overflow_cast-result : goal.overflow_cast-result
overflow_cast-result c = omega (arith, counted c, c.self.invariant.lawful.few_variables)

pub returns-clause-number : goal.returns-clause-number
returns-clause-number c = counted c ∙ ap (λ p. variable_count p.decls) c.self.view_is

pub returns-clause-few : goal.returns-clause-few
returns-clause-few c = omega (arith, counted c, c.self.invariant.lawful.few_variables)

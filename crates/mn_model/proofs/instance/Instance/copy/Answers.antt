use Rattle.std.proofs.Common.{ap, sym, ◌∙◌}
use Rattle.mn_model.proofs.Growing.{IsKept-copy}
use Rattle.mn_model.specs.Problem.{Problem}
use Rattle.mn_model.proofs.instance.Instance.copy.Goals as goal

pub invariant_of-result : goal.invariant_of-result
invariant_of-result c =
    let inside = sym c.self.view_is in
    IsKept-copy _ c.self.inside.names.entries c.self.inside.lists.entries c.self.inside.owners.items c.self.inside.cells c.self.invariant
    _ c.in_ok-names.names.entries c.in_ok-names.lists.entries c.in_ok-names.owners.items
    (λ i. record {
      decls = (c.in_ok-decls.ensures.0 ∙ ap (λ (p : Problem). p.decls) inside) i;
      aliases = (c.in_ok-decls.ensures.1 ∙ ap (λ (p : Problem). p.aliases) inside) i;
      tuples = (c.in_ok-decls.ensures.2 ∙ ap (λ (p : Problem). p.tuples) inside) i;
      cons = (c.in_ok-cons.ensures.0 ∙ ap (λ (p : Problem). p.cons) inside) i;
      order = (c.in_ok-cons.ensures.1 ∙ ap (λ (p : Problem). p.order) inside) i;
      goal = c.self.inside.goal;
      print = (c.in_ok-cons.ensures.2 ∙ ap (λ (p : Problem). p.print) inside) i;
    })
    c.in_ok-names.ensures.0 c.in_ok-names.ensures.1 c.in_ok-names.ensures.2

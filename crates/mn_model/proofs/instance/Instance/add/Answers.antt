use Rattle.std.proofs.Common.{◌+◌, ◌<◌, ◌≤◌, length, sym, subst}
use Rattle.mn_model.specs.Lawful.{IsLawfulCon}
use Rattle.mn_model.specs.Parts.{cell_count}
use Rattle.mn_model.specs.Problem.{Problem, domains_of, cells_of}
use Rattle.mn_model.specs.declared.limits.TheConstants.{CELLS, CONSTRAINTS}
use Rattle.mn_model.proofs.Growing.{IsKept-add}
use Rattle.mn_model.proofs.instance.Instance.add.Goals as goal

pub invariant_of-self-2 : goal.invariant_of-self-2
invariant_of-self-2 c =
    let lawful = subst (λ (p : Problem). IsLawfulCon (domains_of p.decls) p.tuples c.args.con) (sym c.self.view_is) c.requires.lawful in
    let room = subst (λ (p : Problem). length p.cons < CONSTRAINTS) (sym c.self.view_is) c.requires.room in
    let cells = subst (λ (p : Problem). cells_of p + cell_count c.args.con ≤ CELLS) (sym c.self.view_is) c.requires.cells in
    IsKept-add _ c.self.inside.names.entries c.self.inside.lists.entries c.self.inside.owners.items c.self.inside.cells c.self.invariant
    c.args.con c.push.new.self c.cells-count.result c.in_ok-push.ensures.ok lawful room cells c.cells-count.ensures

use Rattle.std.proofs.Common.{◌<◌, ap, subst, sym, ◌∙◌, length, slice_get}
use Rattle.std.specs.Option.{option_and_then}
use Rattle.mn_model.proofs.Looking.{listed_at, unlisted}
use Rattle.mn_model.specs.Problem.{Problem, listed_as}
use Rattle.mn_model.proofs.instance.Instance.find_tuples.Goals as goal

pub returns-in_err-get-clause-found : goal.returns-in_err-get-clause-found
returns-in_err-get-clause-found c =
    ap (option_and_then (slice_get c.args.self.now.tuples)) c.from_residual.ensures
    ∙ (sym (unlisted _ c.self.inside.names.entries c.self.inside.lists.entries c.self.inside.owners.items c.self.inside.cells c.self.invariant c.args.name.now c.in_err-get.ensures.value) ∙ ap (λ (p : Problem). listed_as p.tuples c.args.name.now) c.self.view_is)

pub returns-clause-found : goal.returns-clause-found
returns-clause-found c =
    ap (λ (p : Problem). slice_get p.tuples c.in_ok-get.field-0.now) (sym c.self.view_is)
    ∙ (sym (listed_at _ c.self.inside.names.entries c.self.inside.lists.entries c.self.inside.owners.items c.self.inside.cells c.self.invariant c.args.name.now c.in_ok-get.field-0.now c.in_ok-get.ensures.value).1 ∙ ap (λ (p : Problem). listed_as p.tuples c.args.name.now) c.self.view_is)

pub returns-clause-within : goal.returns-clause-within
returns-clause-within c = subst (λ (p : Problem). c.in_ok-get.field-0.now < length p.tuples) c.self.view_is (listed_at _ c.self.inside.names.entries c.self.inside.lists.entries c.self.inside.owners.items c.self.inside.cells c.self.invariant c.args.name.now c.in_ok-get.field-0.now c.in_ok-get.ensures.value).0

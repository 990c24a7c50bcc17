use Rattle.std.proofs.Common.{◌≡◌, ◌+◌, ◌≤◌, ap, subst, sym, ◌∙◌, arith, refl, length, Some, slice_get}
use Rattle.std.proofs.lemmas.Option.{slice_get_read}
use Rattle.std.specs.Option.{option_copied}
use Rattle.mn_model.proofs.Kept.{numbered_within}
use Rattle.mn_model.proofs.Looking.{declared_at, undeclared, declared_is, not_declared}
use Rattle.mn_model.specs.Lawful.{IsLawfulDecl}
use Rattle.mn_model.specs.Problem.{Problem, declared_as, size_of_dims, variable_count}
use Rattle.mn_model.specs.Variable.{number_of}
use Rattle.mn_model.proofs.instance.Instance.find.Goals as goal
use Rattle.mn_model.proofs.Lists.{all_at}

pub returns-in_err-place-clause-found : goal.returns-in_err-place-clause-found
returns-in_err-place-clause-found c = ap option_copied c.from_residual.ensures ∙ (sym (undeclared _ c.self.inside.names.entries c.self.inside.lists.entries c.self.inside.owners.items c.self.inside.cells c.self.invariant c.args.name.now c.in_err-place.ensures.value) ∙ ap (λ (p : Problem). declared_as p.decls c.args.name.now) c.self.view_is)

pub index-requires : goal.index-requires
index-requires c = omega (arith, c.self.inside.decls.ok.0, (declared_at _ c.self.inside.names.entries c.self.inside.lists.entries c.self.inside.owners.items c.self.inside.cells c.self.invariant c.args.name.now c.in-Declared.place (ap Some (sym c.in-Declared.is) ∙ c.in_ok-place.ensures.value)).0)

held : (c : goal.After-index) → slice_get c.self.inside.decls.items c.in-Declared.place ≡ Some c.index.result.now
held c = slice_get_read c.self.inside.decls.items (length c.self.inside.decls.items) c.in-Declared.place c.index.result.now refl (declared_at _ c.self.inside.names.entries c.self.inside.lists.entries c.self.inside.owners.items c.self.inside.cells c.self.invariant c.args.name.now c.in-Declared.place (ap Some (sym c.in-Declared.is) ∙ c.in_ok-place.ensures.value)).0 c.index.ensures

pub returns-in-Declared-clause-found : goal.returns-in-Declared-clause-found
returns-in-Declared-clause-found c = sym (declared_is _ c.self.inside.names.entries c.self.inside.lists.entries c.self.inside.owners.items c.self.inside.cells c.self.invariant c.args.name.now c.in-Declared.place c.index.result.now (ap Some (sym c.in-Declared.is) ∙ c.in_ok-place.ensures.value) (held c)) ∙ ap (λ (p : Problem). declared_as p.decls c.args.name.now) c.self.view_is

pub returns-in-Declared-clause-lawful : goal.returns-in-Declared-clause-lawful
returns-in-Declared-clause-lawful c = all_at IsLawfulDecl c.self.inside.decls.items c.in-Declared.place c.index.result.now c.self.invariant.lawful.decls (held c)

pub returns-in-Declared-clause-within : goal.returns-in-Declared-clause-within
returns-in-Declared-clause-within c = omega (arith, numbered_within 0 c.self.inside.decls.items c.in-Declared.place c.index.result.now c.self.invariant.lawful.numbered (held c), c.self.invariant.lawful.few_variables)

pub returns-in-Declared-clause-among : goal.returns-in-Declared-clause-among
returns-in-Declared-clause-among c =
    let here : number_of c.index.result.now.first + size_of_dims c.index.result.now.dims ≤ variable_count c.self.inside.decls.items =
    omega (arith, numbered_within 0 c.self.inside.decls.items c.in-Declared.place c.index.result.now c.self.invariant.lawful.numbered (held c)) in
    subst (λ (p : Problem). number_of c.index.result.now.first + size_of_dims c.index.result.now.dims ≤ variable_count p.decls) c.self.view_is here

pub returns-in-Aliased-clause-found : goal.returns-in-Aliased-clause-found
returns-in-Aliased-clause-found c = sym (not_declared _ c.self.inside.names.entries c.self.inside.lists.entries c.self.inside.owners.items c.self.inside.cells c.self.invariant c.args.name.now c.in-Aliased.field-0 (ap Some (sym c.in-Aliased.is) ∙ c.in_ok-place.ensures.value)) ∙ ap (λ (p : Problem). declared_as p.decls c.args.name.now) c.self.view_is

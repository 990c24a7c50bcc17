use Rattle.std.proofs.Common.{◌≡◌, ◌+◌, ◌<◌, ◌≤◌, ap, subst, sym, ◌∙◌, arith, refl, length, Some, slice_get}
use Rattle.std.proofs.lemmas.Option.{slice_get_read}
use Rattle.mn_model.proofs.Kept.{numbered_within}
use Rattle.mn_model.proofs.Looking.{declared_at, aliased_at, undeclared, unaliased, declared_is, aliased_is, not_declared}
use Rattle.mn_model.proofs.Looking.{some_less, some_known}
use Rattle.mn_model.proofs.Variables.{length-domains_of}
use Rattle.mn_model.specs.Lawful.{IsLawfulAlias, IsLawfulDecl}
use Rattle.mn_model.specs.Problem.{Problem, aliased_as, domains_of, size_of_dims, variable_count, variable_named, variable_by}
use Rattle.mn_model.specs.Variable.{number_of}
use Rattle.std.specs.Option.{IfSome}
use Rattle.mn_model.proofs.instance.Instance.var.Goals as goal
use Rattle.mn_model.proofs.Lists.{all_at}

pub returns-in_err-place-clause-place : goal.returns-in_err-place-clause-place
returns-in_err-place-clause-place c =
    c.from_residual.ensures
    ∙ ((λ i. variable_by (sym (undeclared _ c.self.inside.names.entries c.self.inside.lists.entries c.self.inside.owners.items c.self.inside.cells c.self.invariant c.args.name.now c.in_err-place.ensures.value) i) (sym (unaliased _ c.self.inside.names.entries c.self.inside.lists.entries c.self.inside.owners.items c.self.inside.cells c.self.invariant c.args.name.now c.in_err-place.ensures.value) i) c.args.subs.now)
    ∙ ap (λ (p : Problem). variable_named p c.args.name.now c.args.subs.now) c.self.view_is)

pub index-requires : goal.index-requires
index-requires c = omega (arith, c.self.inside.decls.ok.0, (declared_at _ c.self.inside.names.entries c.self.inside.lists.entries c.self.inside.owners.items c.self.inside.cells c.self.invariant c.args.name.now c.in-Declared.place (ap Some (sym c.in-Declared.is) ∙ c.in_ok-place.ensures.value)).0)

held : (c : goal.After-index) → slice_get c.self.inside.decls.items c.in-Declared.place ≡ Some c.index.result.now
held c = slice_get_read c.self.inside.decls.items (length c.self.inside.decls.items) c.in-Declared.place c.index.result.now refl (declared_at _ c.self.inside.names.entries c.self.inside.lists.entries c.self.inside.owners.items c.self.inside.cells c.self.invariant c.args.name.now c.in-Declared.place (ap Some (sym c.in-Declared.is) ∙ c.in_ok-place.ensures.value)).0 c.index.ensures

within : (c : goal.After-index) → number_of c.index.result.now.first + size_of_dims c.index.result.now.dims ≤ variable_count c.self.inside.decls.items
within c = omega (arith, numbered_within 0 c.self.inside.decls.items c.in-Declared.place c.index.result.now c.self.invariant.lawful.numbered (held c))

pub declared_variable-requires-clause-shaped : goal.declared_variable-requires-clause-shaped
declared_variable-requires-clause-shaped c = (all_at IsLawfulDecl c.self.inside.decls.items c.in-Declared.place c.index.result.now c.self.invariant.lawful.decls (held c)).shaped

pub declared_variable-requires-clause-few : goal.declared_variable-requires-clause-few
declared_variable-requires-clause-few c = omega (arith, within c, c.self.invariant.lawful.few_variables)

pub index-requires-in-Aliased : goal.index-requires-in-Aliased
index-requires-in-Aliased c = omega (arith, c.self.inside.aliases.ok.0, (aliased_at _ c.self.inside.names.entries c.self.inside.lists.entries c.self.inside.owners.items c.self.inside.cells c.self.invariant c.args.name.now c.in-Aliased.place (ap Some (sym c.in-Aliased.is) ∙ c.in_ok-place.ensures.value)).0)

held-alias : (c : goal.After-index-in-Aliased) → slice_get c.self.inside.aliases.items c.in-Aliased.place ≡ Some c.index-in-Aliased.result.now
held-alias c = slice_get_read c.self.inside.aliases.items (length c.self.inside.aliases.items) c.in-Aliased.place c.index-in-Aliased.result.now refl (aliased_at _ c.self.inside.names.entries c.self.inside.lists.entries c.self.inside.owners.items c.self.inside.cells c.self.invariant c.args.name.now c.in-Aliased.place (ap Some (sym c.in-Aliased.is) ∙ c.in_ok-place.ensures.value)).0 c.index-in-Aliased.ensures

lawful-alias : (c : goal.After-index-in-Aliased) → IsLawfulAlias (domains_of c.self.inside.decls.items) c.index-in-Aliased.result.now
lawful-alias c = all_at (IsLawfulAlias (domains_of c.self.inside.decls.items)) c.self.inside.aliases.items c.in-Aliased.place c.index-in-Aliased.result.now c.self.invariant.lawful.aliases (held-alias c)

pub aliased_variable-requires-clause-shaped : goal.aliased_variable-requires-clause-shaped
aliased_variable-requires-clause-shaped c = (lawful-alias c).shaped

pub aliased_variable-requires-clause-filled : goal.aliased_variable-requires-clause-filled
aliased_variable-requires-clause-filled c = (lawful-alias c).filled

pub returns-in-Declared-clause-place : goal.returns-in-Declared-clause-place
returns-in-Declared-clause-place c =
    let is : slice_get c.self.inside.decls.items c.in-Declared.place ≡ Some c.index.result.now = slice_get_read c.self.inside.decls.items (length c.self.inside.decls.items) c.in-Declared.place c.index.result.now refl (declared_at _ c.self.inside.names.entries c.self.inside.lists.entries c.self.inside.owners.items c.self.inside.cells c.self.invariant c.args.name.now c.in-Declared.place (ap Some (sym c.in-Declared.is) ∙ c.in_ok-place.ensures.value)).0 c.index.ensures in
    c.declared_variable.ensures.place
    ∙ (ap (λ d. variable_by d (aliased_as c.self.inside.aliases.items c.args.name.now) c.args.subs.now) (sym (declared_is _ c.self.inside.names.entries c.self.inside.lists.entries c.self.inside.owners.items c.self.inside.cells c.self.invariant c.args.name.now c.in-Declared.place c.index.result.now (ap Some (sym c.in-Declared.is) ∙ c.in_ok-place.ensures.value) is))
    ∙ ap (λ (p : Problem). variable_named p c.args.name.now c.args.subs.now) c.self.view_is)

pub returns-in-Declared-clause-among : goal.returns-in-Declared-clause-among
returns-in-Declared-clause-among c =
    let is : slice_get c.self.inside.decls.items c.in-Declared.place ≡ Some c.index.result.now = slice_get_read c.self.inside.decls.items (length c.self.inside.decls.items) c.in-Declared.place c.index.result.now refl (declared_at _ c.self.inside.names.entries c.self.inside.lists.entries c.self.inside.owners.items c.self.inside.cells c.self.invariant c.args.name.now c.in-Declared.place (ap Some (sym c.in-Declared.is) ∙ c.in_ok-place.ensures.value)).0 c.index.ensures in
    let below : number_of c.index.result.now.first + size_of_dims c.index.result.now.dims ≤ variable_count c.self.inside.decls.items = omega (arith, numbered_within 0 c.self.inside.decls.items c.in-Declared.place c.index.result.now c.self.invariant.lawful.numbered is) in
    subst (λ (p : Problem). IfSome c.declared_variable.result (λ v. number_of v < variable_count p.decls)) c.self.view_is (some_less c.declared_variable.result below c.declared_variable.ensures.within)

pub returns-in-Aliased-clause-place : goal.returns-in-Aliased-clause-place
returns-in-Aliased-clause-place c =
    let is : slice_get c.self.inside.aliases.items c.in-Aliased.place ≡ Some c.index-in-Aliased.result.now = slice_get_read c.self.inside.aliases.items (length c.self.inside.aliases.items) c.in-Aliased.place c.index-in-Aliased.result.now refl (aliased_at _ c.self.inside.names.entries c.self.inside.lists.entries c.self.inside.owners.items c.self.inside.cells c.self.invariant c.args.name.now c.in-Aliased.place (ap Some (sym c.in-Aliased.is) ∙ c.in_ok-place.ensures.value)).0 c.index-in-Aliased.ensures in
    c.aliased_variable.ensures.place
    ∙ ((λ i. variable_by (sym (not_declared _ c.self.inside.names.entries c.self.inside.lists.entries c.self.inside.owners.items c.self.inside.cells c.self.invariant c.args.name.now c.in-Aliased.place (ap Some (sym c.in-Aliased.is) ∙ c.in_ok-place.ensures.value)) i)
    (sym (aliased_is _ c.self.inside.names.entries c.self.inside.lists.entries c.self.inside.owners.items c.self.inside.cells c.self.invariant c.args.name.now c.in-Aliased.place c.index-in-Aliased.result.now (ap Some (sym c.in-Aliased.is) ∙ c.in_ok-place.ensures.value) is) i) c.args.subs.now)
    ∙ ap (λ (p : Problem). variable_named p c.args.name.now c.args.subs.now) c.self.view_is)

pub returns-in-Aliased-clause-among : goal.returns-in-Aliased-clause-among
returns-in-Aliased-clause-among c =
    let is : slice_get c.self.inside.aliases.items c.in-Aliased.place ≡ Some c.index-in-Aliased.result.now = slice_get_read c.self.inside.aliases.items (length c.self.inside.aliases.items) c.in-Aliased.place c.index-in-Aliased.result.now refl (aliased_at _ c.self.inside.names.entries c.self.inside.lists.entries c.self.inside.owners.items c.self.inside.cells c.self.invariant c.args.name.now c.in-Aliased.place (ap Some (sym c.in-Aliased.is) ∙ c.in_ok-place.ensures.value)).0 c.index-in-Aliased.ensures in
    let lawful = all_at (IsLawfulAlias (domains_of c.self.inside.decls.items)) c.self.inside.aliases.items c.in-Aliased.place c.index-in-Aliased.result.now c.self.invariant.lawful.aliases is in
    subst (λ (p : Problem). IfSome c.aliased_variable.result (λ v. number_of v < variable_count p.decls)) c.self.view_is
    (some_known c.aliased_variable.result c.index-in-Aliased.result.now c.args.subs.now (domains_of c.self.inside.decls.items) (variable_count c.self.inside.decls.items) (length-domains_of c.self.inside.decls.items) c.aliased_variable.ensures.place lawful.known)

use Rattle.std.proofs.Common.{◌≡◌, ap, subst, sym, ◌∙◌, arith, refl, length, Some, slice_get}
use Rattle.std.proofs.lemmas.Option.{slice_get_read}
use Rattle.std.specs.Option.{option_copied}
use Rattle.mn_model.proofs.Looking.{aliased_at, unaliased, aliased_is, not_alias}
use Rattle.mn_model.specs.Lawful.{IsLawfulAlias}
use Rattle.mn_model.specs.Problem.{Problem, aliased_as, domains_of}
use Rattle.mn_model.proofs.instance.Instance.find_alias.Goals as goal
use Rattle.mn_model.proofs.Lists.{all_at}

pub returns-in_err-place-clause-found : goal.returns-in_err-place-clause-found
returns-in_err-place-clause-found c = ap option_copied c.from_residual.ensures ∙ (sym (unaliased _ c.self.inside.names.entries c.self.inside.lists.entries c.self.inside.owners.items c.self.inside.cells c.self.invariant c.args.name.now c.in_err-place.ensures.value) ∙ ap (λ (p : Problem). aliased_as p.aliases c.args.name.now) c.self.view_is)

pub index-requires : goal.index-requires
index-requires c = omega (arith, c.self.inside.aliases.ok.0, (aliased_at _ c.self.inside.names.entries c.self.inside.lists.entries c.self.inside.owners.items c.self.inside.cells c.self.invariant c.args.name.now c.in-Aliased.place (ap Some (sym c.in-Aliased.is) ∙ c.in_ok-place.ensures.value)).0)

held : (c : goal.After-index) → slice_get c.self.inside.aliases.items c.in-Aliased.place ≡ Some c.index.result.now
held c = slice_get_read c.self.inside.aliases.items (length c.self.inside.aliases.items) c.in-Aliased.place c.index.result.now refl (aliased_at _ c.self.inside.names.entries c.self.inside.lists.entries c.self.inside.owners.items c.self.inside.cells c.self.invariant c.args.name.now c.in-Aliased.place (ap Some (sym c.in-Aliased.is) ∙ c.in_ok-place.ensures.value)).0 c.index.ensures

pub returns-in-Aliased-clause-found : goal.returns-in-Aliased-clause-found
returns-in-Aliased-clause-found c = sym (aliased_is _ c.self.inside.names.entries c.self.inside.lists.entries c.self.inside.owners.items c.self.inside.cells c.self.invariant c.args.name.now c.in-Aliased.place c.index.result.now (ap Some (sym c.in-Aliased.is) ∙ c.in_ok-place.ensures.value) (held c)) ∙ ap (λ (p : Problem). aliased_as p.aliases c.args.name.now) c.self.view_is

pub returns-in-Aliased-clause-lawful : goal.returns-in-Aliased-clause-lawful
returns-in-Aliased-clause-lawful c =
    subst (λ (p : Problem). IsLawfulAlias (domains_of p.decls) c.index.result.now) c.self.view_is
    (all_at (IsLawfulAlias (domains_of c.self.inside.decls.items)) c.self.inside.aliases.items c.in-Aliased.place c.index.result.now c.self.invariant.lawful.aliases (held c))

pub returns-in-Declared-clause-found : goal.returns-in-Declared-clause-found
returns-in-Declared-clause-found c = sym (not_alias _ c.self.inside.names.entries c.self.inside.lists.entries c.self.inside.owners.items c.self.inside.cells c.self.invariant c.args.name.now c.in-Declared.field-0 (ap Some (sym c.in-Declared.is) ∙ c.in_ok-place.ensures.value)) ∙ ap (λ (p : Problem). aliased_as p.aliases c.args.name.now) c.self.view_is

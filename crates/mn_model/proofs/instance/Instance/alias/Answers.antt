use Rattle.std.proofs.Common.{◌≡◌, ◌++◌, ◌∷◌, [], None, ap, subst, sym, ◌∙◌, string_bytes, string_eq}
use Rattle.indexmap.proofs.CallerLemmas.{insert_entry-new}
use Rattle.indexmap.specs.IndexMap.{get}
use Rattle.mn_model.proofs.Found.{lookup-entries_read}
use Rattle.mn_model.proofs.Growing.{IsKept-alias, new_name}
use Rattle.mn_model.proofs.Kept.{read-push}
use Rattle.mn_model.specs.Index.{entries_read}
use Rattle.mn_model.specs.Lawful.{IsLawfulAlias}
use Rattle.mn_model.specs.Problem.{Problem, declared_as, aliased_as, domains_of}
use Rattle.mn_model.specs.declared.declaration.Alias.{Alias}
use Rattle.mn_model.specs.declared.instance.Entry.TheVariants.{Aliased}
use Rattle.mn_model.proofs.instance.Instance.alias.Goals as goal

pub invariant_of-self-2 : goal.invariant_of-self-2
invariant_of-self-2 c =
    let new : Alias = record { name = c.args.name; dims = c.args.dims; vars = c.args.vars } in
    let lawful = subst (λ (p : Problem). IsLawfulAlias (domains_of p.decls) new) (sym c.self.view_is) c.requires.lawful in
    let fresh = subst (λ (p : Problem). declared_as p.decls c.args.name ≡ None) (sym c.self.view_is) c.requires.fresh in
    let unused = subst (λ (p : Problem). aliased_as p.aliases c.args.name ≡ None) (sym c.self.view_is) c.requires.unused in
    let key = c.in_ok-key.ensures ∙ c.as_slice.ensures in
    let names = c.self.inside.names.entries in
    let none : get string_eq c.self.inside.names c.in_ok-key.key ≡ None =
    lookup-entries_read (string_bytes c.in_ok-key.key) names
    ∙ new_name _ names c.self.inside.lists.entries c.self.inside.owners.items c.self.inside.cells c.self.invariant (string_bytes c.in_ok-key.key)
    (subst (λ name. declared_as c.self.inside.decls.items name ≡ None) (sym key) fresh) (subst (λ name. aliased_as c.self.inside.aliases.items name ≡ None) (sym key) unused) in
    IsKept-alias _ names c.self.inside.lists.entries c.self.inside.owners.items c.self.inside.cells c.self.invariant
    new c.push.new.self.items c.insert.new.self.entries c.len-place.result (c.in_ok-push.ensures.items ∙ ap (λ as2. as2 ++ new ∷ []) c.reserve.ensures.items) lawful fresh unused
    (ap entries_read (c.in_ok-insert.ensures.entries ∙ insert_entry-new string_eq c.self.inside.names c.in_ok-key.key (Aliased c.len-place.result) none) ∙ read-push names c.in_ok-key.key (Aliased c.len-place.result) c.args.name key)
    (c.len-place.ensures ∙ c.self.inside.aliases.ok.0)

use Rattle.std.proofs.Common.{◌≡◌, ◌++◌, ◌∷◌, [], ◌+◌, ◌-◌, ◌≤◌, None, take, replicate, ap, subst, sym, ◌∙◌, arith, length, string_bytes, string_eq}
use Rattle.indexmap.proofs.CallerLemmas.{insert_entry-new}
use Rattle.indexmap.specs.IndexMap.{get}
use Rattle.mn_model.proofs.Found.{lookup-entries_read}
use Rattle.mn_model.proofs.Growing.{IsKept-declare, new_name}
use Rattle.mn_model.proofs.Kept.{decls_within, owned-push, read-push}
use Rattle.mn_model.proofs.Variables.{length-owners_from}
use Rattle.mn_model.specs.Index.{entries_read}
use Rattle.mn_model.specs.Problem.{Problem, declared_as, aliased_as, variable_count, size_of_dims}
use Rattle.mn_model.specs.Variable.{number_of}
use Rattle.mn_model.specs.declared.declaration.Decl.{Decl}
use Rattle.mn_model.specs.declared.instance.Entry.TheVariants.{Declared}
use Rattle.mn_model.specs.declared.limits.TheConstants.{VARIABLES}
use Rattle.mn_model.proofs.instance.Instance.declare.Goals as goal

pub overflow_cast-len : goal.overflow_cast-len
overflow_cast-len c = omega (arith, c.len.ensures, c.self.inside.owners.ok.0, ap length c.self.invariant.owned, length-owners_from 0 c.self.inside.decls.items, c.self.invariant.lawful.few_variables)

pub overflow_cast-place : goal.overflow_cast-place
overflow_cast-place c = omega (arith, c.len-place.ensures, c.self.inside.decls.ok.0, decls_within c.self.inside.decls.items c.self.invariant.lawful.decls, c.self.invariant.lawful.few_variables)

-- the new declaration
abbrev new : goal.In_ok-push → Decl
new c = record { name = c.args.name; dims = c.args.dims; kind = c.args.kind; domain = c.args.domain; first = c.new-first.result }

-- its number is that of the variables before it
first : (c : goal.In_ok-push) → number_of c.new-first.result ≡ variable_count c.self.inside.decls.items
first c = c.new-first.ensures ∙ (c.len.ensures ∙ (c.self.inside.owners.ok.0 ∙ (ap length c.self.invariant.owned ∙ length-owners_from 0 c.self.inside.decls.items)))

-- the declarations afterwards
declared : (c : goal.In_ok-push) → c.push.new.self.items ≡ c.self.inside.decls.items ++ new c ∷ []
declared c = c.in_ok-push.ensures.items ∙ ap (λ ds. ds ++ new c ∷ []) c.reserve-2.ensures.items

pub invariant_of-self-2 : goal.invariant_of-self-2
invariant_of-self-2 c =
    let fresh = subst (λ (p : Problem). declared_as p.decls c.args.name ≡ None) (sym c.self.view_is) c.requires.fresh in
    let unused = subst (λ (p : Problem). aliased_as p.aliases c.args.name ≡ None) (sym c.self.view_is) c.requires.unused in
    let key = c.in_ok-key.ensures ∙ c.as_slice-2.ensures in
    let names = c.self.inside.names.entries in
    let none : get string_eq c.self.inside.names c.in_ok-key.key ≡ None =
    lookup-entries_read (string_bytes c.in_ok-key.key) names
    ∙ new_name _ names c.self.inside.lists.entries c.self.inside.owners.items c.self.inside.cells c.self.invariant (string_bytes c.in_ok-key.key)
    (subst (λ name. declared_as c.self.inside.decls.items name ≡ None) (sym key) fresh) (subst (λ name. aliased_as c.self.inside.aliases.items name ≡ None) (sym key) unused) in
    let at = c.len-place.ensures ∙ c.self.inside.decls.ok.0 in
    let owned = c.in_ok-resize.ensures.items
    ∙ (ap (λ k. take (c.len-2.result + c.size_of-size.result) c.reserve.new.self.items ++ replicate (c.len-2.result + c.size_of-size.result - k) c.len-place.result) c.reserve.new.self.ok.0
    ∙ owned-push c.reserve.new.self.items c.self.inside.decls.items (new c) c.len-place.result (c.len-2.result + c.size_of-size.result)
    (c.reserve.ensures.items ∙ c.self.invariant.owned) at (omega (arith, c.len-2.ensures, c.reserve.new.self.ok.0, c.size_of-size.ensures, ap size_of_dims c.as_slice.ensures))) in
    IsKept-declare _ names c.self.inside.lists.entries c.self.inside.owners.items c.self.inside.cells c.self.invariant
    (new c) c.push.new.self.items c.insert.new.self.entries c.resize.new.self.items c.len-place.result (declared c)
    (record { named = c.requires.named; shaped = c.requires.shaped; domain = c.lawful.ensures; suits = c.requires.suits }) fresh unused (first c)
    (subst (λ (p : Problem). variable_count p.decls + size_of_dims c.args.dims ≤ VARIABLES) (sym c.self.view_is) c.requires.room)
    (ap entries_read (c.in_ok-insert.ensures.entries ∙ insert_entry-new string_eq c.self.inside.names c.in_ok-key.key (Declared c.len-place.result) none) ∙ read-push names c.in_ok-key.key (Declared c.len-place.result) c.args.name key)
    at owned

pub returns-clause-number : goal.returns-clause-number
returns-clause-number c = first c ∙ ap (λ (p : Problem). variable_count p.decls) c.self.view_is

-- The section of variables of an instance, as it is read.
use Rattle.std.proofs.Common.{◌≡◌, ◌+◌, ◌≤◌, List, [], ◌∷◌, ◌++◌, length, map, None, refl, sym, ap, ◌∙◌, subst, arith, append_assoc, append-nil}
use Rattle.std.specs.List.{AllByRecursion}
use Rattle.mn_model.specs.Lawful.{IsLawful, IsLawfulDecl, IsLawfulAlias, AreNewAfter, AreNumberedFrom}
use Rattle.mn_model.specs.Problem.{Problem, nothing, size_of_dims, domains_of, variable_count, declared_as}
use Rattle.mn_model.specs.Problem as problem
use Rattle.mn_model.specs.declared.declaration.Alias.{Alias}
use Rattle.mn_model.specs.declared.declaration.Decl.{Decl}
use Rattle.mn_model.specs.declared.limits.TheConstants.{VARIABLES}
use Rattle.mn_model.proofs.Kept.{variable_count-push}
use Rattle.mn_model.proofs.Variables.{variable_count-cons}
use Rattle.mn_decls.specs.Variables.{Entry, declares, names, so_far, spell_entry, breaks_entry, value_entry, breaks_entries, value_entries, breaks_declarations, value_declarations}
use Rattle.mn_sections.specs.Trees.{declaration_of, naming_of, variables_of}
use Rattle.mn_sections.proofs.Aliases.{alias_nothing, alias_means}
use Rattle.mn_sections.proofs.Declaring.{decl_nothing, decl_means}
use Rattle.mn_sections.proofs.Kept.{part_nothing}
use Rattle.mn_sections.proofs.References.{HasVariables}

-- 1. Declarations, and what follows them
abbrev declared_entries : List Decl → List Entry
declared_entries decls = map (λ d. declares (declaration_of d)) decls

abbrev with_decls : Problem → List Decl → Problem
with_decls q decls = record q { decls = decls }

-- entries before others break nothing, and lead to this problem
record LeadTo (q : Problem) (entries others : List Entry) (r : Problem) : Type 0 where
  kept : breaks_entries (so_far r) others ≡ [] → breaks_entries (so_far q) (entries ++ others) ≡ []
  means : value_entries (so_far q) (entries ++ others) ≡ value_entries (so_far r) others

lead_on : (q r s : Problem) (e : Entry) (entries others : List Entry) → breaks_entry (so_far q) e ≡ [] → value_entry (so_far q) e ≡ so_far r → LeadTo r entries others s → LeadTo q (e ∷ entries) others s
lead_on q r s e entries others unbroken next later = record {
  kept = λ k. part_nothing (length (spell_entry e)) (breaks_entry (so_far q) e) (breaks_entries (value_entry (so_far q) e) (entries ++ others)) unbroken
      (ap (λ t. breaks_entries t (entries ++ others)) next ∙ later.kept k);
  means = ap (λ t. value_entries t (entries ++ others)) next ∙ later.means;
}

decls_said : (q : Problem) (decls : List Decl) (others : List Entry) → q.aliases ≡ [] → AllByRecursion IsLawfulDecl decls → AreNewAfter (λ d. d.name) q.decls decls → AreNumberedFrom (variable_count q.decls) decls → variable_count q.decls + variable_count decls ≤ VARIABLES
    → LeadTo q (declared_entries decls) others (with_decls q (q.decls ++ decls))
decls_said q [] others none lawful are_new numbered room =
    subst (λ l. LeadTo q [] others (with_decls q l)) (sym (append-nil q.decls)) (record { kept = λ k. k; means = refl })
decls_said q (d ∷ decls) others none lawful are_new numbered room =
    let r = with_decls q (q.decls ++ d ∷ []) in
    let count = variable_count-cons d decls in
    let more = variable_count-push q.decls d in
    let here : variable_count q.decls + size_of_dims d.dims ≤ VARIABLES = omega (arith, count, room) in
    let no_alias = ap (λ l. problem.aliased_as l d.name) none in
    let later = decls_said r decls others none lawful.1 are_new.1 (subst (λ n. AreNumberedFrom n decls) (sym more) numbered.1) (omega (arith, more, count, room)) in
    lead_on q r (with_decls q (q.decls ++ d ∷ decls)) (declares (declaration_of d)) (declared_entries decls) others
    (decl_nothing q d lawful.0 are_new.0 no_alias here) (decl_means q d lawful.0 are_new.0 no_alias here numbered.0)
    (subst (λ l. LeadTo r (declared_entries decls) others (with_decls q l)) (append_assoc q.decls (d ∷ []) decls) later)

-- 2. Aliases
abbrev named_entries : Problem → List Alias → List Entry
named_entries p aliases = map (λ a. names (naming_of p a)) aliases

abbrev with_aliases : Problem → List Alias → Problem
with_aliases q aliases = record q { aliases = aliases }

aliases_said : (p q : Problem) (aliases : List Alias) → HasVariables p q → AllByRecursion (IsLawfulAlias (domains_of p.decls)) aliases → AreNewAfter (λ a. a.name) q.aliases aliases → AllByRecursion (λ a. declared_as p.decls a.name ≡ None) aliases
    → LeadTo q (named_entries p aliases) [] (with_aliases q (q.aliases ++ aliases))
aliases_said p q [] has lawful are_new apart =
    subst (λ l. LeadTo q [] [] (with_aliases q l)) (sym (append-nil q.aliases)) (record { kept = λ k. k; means = refl })
aliases_said p q (a ∷ aliases) has lawful are_new apart =
    let r = with_aliases q (q.aliases ++ a ∷ []) in
    let no_decl = ap (λ l. declared_as l a.name) has.same ∙ apart.0 in
    let later = aliases_said p r aliases (record { lawful = has.lawful; same = has.same }) lawful.1 are_new.1 apart.1 in
    lead_on q r (with_aliases q (q.aliases ++ a ∷ aliases)) (names (naming_of p a)) (named_entries p aliases) []
    (alias_nothing p q has a lawful.0 no_decl are_new.0) (alias_means p q has a lawful.0)
    (subst (λ l. LeadTo r (named_entries p aliases) [] (with_aliases q l)) (append_assoc q.aliases (a ∷ []) aliases) later)

-- 3. The section
pub variables_said : (p : Problem) → IsLawful p → (breaks_declarations nothing (variables_of p) ≡ []) × (value_declarations nothing (variables_of p) ≡ record nothing { decls = p.decls; aliases = p.aliases })
variables_said p lawful =
    let q = with_decls nothing p.decls in
    let decls = decls_said nothing p.decls (named_entries p p.aliases) refl lawful.decls lawful.distinct lawful.numbered (let few = lawful.few_variables in omega (arith, few)) in
    let aliases = aliases_said p q p.aliases (record { lawful = lawful; same = refl }) lawful.aliases lawful.new_aliases lawful.apart in
    let all = append-nil (named_entries p p.aliases) in (
      decls.kept (ap (breaks_entries (so_far q)) (sym all) ∙ aliases.kept refl),
      ap (λ s. s.problem) (decls.means ∙ ap (value_entries (so_far q)) (sym all) ∙ aliases.means),
    )

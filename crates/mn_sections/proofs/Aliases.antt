-- The aliases of an instance, as they are read.
use Rattle.std.proofs.Common.{◌≡◌, ℕ, ◌≤◌, pos, List, [], ◌∷◌, ◌++◌, length, map, None, refl, ap, ◌∙◌}
use Rattle.std.specs.List.{AllByRecursion}
use Rattle.mn_lexer.specs.declared.marks.Mark.TheVariants.{CloseSquare}
use Rattle.mn_model.specs.Lawful.{IsLawfulAlias, IsKnown}
use Rattle.mn_model.specs.Problem.{Problem, size_of_dims, domains_of, declared_as, aliased_as}
use Rattle.mn_model.specs.declared.declaration.Alias.{Alias}
use Rattle.mn_model.specs.declared.variable.VarId.{VarId}
use Rattle.mn_grammar.specs.Lists.{spell_items, breaks_items}
use Rattle.mn_grammar.specs.Places.{on, behind}
use Rattle.mn_cursor.specs.Added.{with_alias}
use Rattle.mn_decls.specs.Aliases.{breaks_nest}
use Rattle.mn_decls.specs.Variables.{names, so_far, new_name, spell_number, alias_dims_judge, matrix_dims, with_one, with_matrix, breaks_target, named, breaks_entry, value_entry}
use Rattle.mn_sections.specs.Trees.{name_from, items_from, nest_from, target_of, naming_of}
use Rattle.mn_sections.proofs.Declaring.{alias_dims_break, alias_dims_mean, name_fair}
use Rattle.mn_sections.proofs.Names.{name_of_model}
use Rattle.mn_sections.proofs.Nests.{one_breaks, one_means, nested}
use Rattle.mn_sections.proofs.References.{HasVariables}
use Rattle.mn_sections.proofs.Kept.{behind_nothing, part_nothing, token_nothing}

module _ (p q : Problem) (has : HasVariables p q) where
  -- 1. What an alias leads to
  abbrev AreSome : List ℕ → Type 0
  AreSome dims = AllByRecursion (λ dim. 1 ≤ dim) dims

  abbrev AreKnown : List VarId → Type 0
  AreKnown vars = AllByRecursion (IsKnown (domains_of p.decls)) vars

  target_nothing : (dims : List ℕ) (vars : List VarId) → AreSome dims → length vars ≡ size_of_dims dims → AreKnown vars → breaks_target q (target_of p dims vars) ≡ []
  target_nothing [] vars some size known = behind_nothing 1 _ (one_breaks p q has vars size known)
  target_nothing (dim ∷ dims) vars some size known =
      let l = items_from (pos dim) (map pos dims) in
      let n = nest_from p (dim ∷ dims) vars in
      behind_nothing 1 _ (part_nothing (length (spell_items CloseSquare spell_number l)) (breaks_items alias_dims_judge l []) (behind 1 (breaks_nest q n (matrix_dims l))) (alias_dims_break dim dims some)
      (behind_nothing 1 _ (ap (breaks_nest q n) (alias_dims_mean dim dims some) ∙ (nested p q has (dim ∷ dims) vars some size known).kept)))

  target_means : (name dims : List ℕ) (vars : List VarId) → AreSome dims → length vars ≡ size_of_dims dims → AreKnown vars → named q name (target_of p dims vars) ≡ so_far (with_alias q name dims vars)
  target_means name [] vars some size known = ap (with_one q name) (one_means p q has vars size known)
  target_means name (dim ∷ dims) vars some size known =
      let shape = alias_dims_mean dim dims some in
      let all = (nested p q has (dim ∷ dims) vars some size known).means [] in
      λ i. with_matrix q name (shape i) (all i)

  -- 2. An alias
  module _ (a : Alias) (lawful : IsLawfulAlias (domains_of p.decls) a) where
    is_named : (name_from a.name).bytes ≡ a.name
    is_named = name_of_model a.name lawful.named

    pub alias_nothing : declared_as q.decls a.name ≡ None → aliased_as q.aliases a.name ≡ None → breaks_entry (so_far q) (names (naming_of p a)) ≡ []
    alias_nothing no_decl no_alias =
        token_nothing None 1 (on (new_name q (name_from a.name).bytes) ++ behind 1 (breaks_target q (target_of p a.dims a.vars))) refl
        (token_nothing (new_name q (name_from a.name).bytes) 1 (breaks_target q (target_of p a.dims a.vars)) (ap (new_name q) is_named ∙ name_fair q a.name no_decl no_alias)
        (target_nothing a.dims a.vars lawful.shaped lawful.filled lawful.known))

    pub alias_means : value_entry (so_far q) (names (naming_of p a)) ≡ so_far (record q { aliases = q.aliases ++ a ∷ [] })
    alias_means = ap (λ name. named q name (target_of p a.dims a.vars)) is_named ∙ target_means a.name a.dims a.vars lawful.shaped lawful.filled lawful.known

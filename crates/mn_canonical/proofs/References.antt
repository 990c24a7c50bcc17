-- What variables, terms and vectors say.
use Rattle.std.proofs.Common.{ℕ, ◌-◌, ◌<◌, ◌≤◌, true, false, pos, nat_lt, List, [], ◌∷◌, map, ⊎_elim, decimal, arith}
use Rattle.std.specs.List.{AllByRecursion}
use Rattle.std.proofs.lemmas.Bool.{cases_Bool}
use Rattle.std.proofs.lemmas.Bool.Decides.{nat_tests}
use Rattle.mn_lexer.specs.declared.TheConstants.{NUMBER_LIMIT}
use Rattle.mn_lexer.specs.declared.marks.Mark.TheVariants.{Bang}
use Rattle.mn_model.specs.Lawful.{IsLawful, IsLawfulDecl, IsLawfulTerm, IsKnown}
use Rattle.mn_model.specs.Name.{IsName}
use Rattle.mn_model.specs.Problem.{Problem, size_of_dims, variable_count, domains_of}
use Rattle.mn_model.specs.Variable.{number_of}
use Rattle.mn_model.proofs.Variables.{length-domains_of, variable_count-cons}
use Rattle.mn_model.specs.declared.constraint.Term.{Term}
use Rattle.mn_model.specs.declared.constraint.Term.TheVariants.{Var, Const, Not}
use Rattle.mn_model.specs.declared.declaration.Decl.{Decl}
use Rattle.mn_model.specs.declared.variable.VarId.{VarId}
use Rattle.mn_references.specs.Entries.{spell_entry, spell_vector, spell_row}
use Rattle.mn_references.specs.References.{only, spell_sub, spell_subs, spell_ref}
use Rattle.mn_pieces.specs.Printed.{NumbersAreRead}
use Rattle.mn_sections.specs.Matrices.{indices_of}
use Rattle.mn_sections.specs.Trees.{subs_of, place_ref, numbered_ref, ref_of, entry_of, vector_of, row_of}
use Rattle.mn_canonical.specs.Names.{subscript_text, place_text, numbered_text, variable_text, term_text, vector_text}
use Rattle.mn_canonical.proofs.Saying.{Says, says_both, says_open, says_closed, says_nothing}
use Rattle.mn_canonical.proofs.Tokens.{says_mark}
use Rattle.mn_canonical.proofs.Listing.{AllSaid, said_map, says_bracketed}
use Rattle.mn_canonical.proofs.Names.{says_name}
use Rattle.mn_canonical.proofs.Numbers.{says_value, says_count}
use Rattle.mn_canonical.proofs.Rows.{indices_within}

module _ (read : NumbersAreRead) where
  says_index : (i : ℕ) → i ≤ NUMBER_LIMIT → Says false (decimal i) (spell_sub (only (pos i))) true
  says_index i few = says_count read i few

  says_subs : (is : List ℕ) → AllByRecursion (λ i. i ≤ NUMBER_LIMIT) is → Says true (subscript_text is) (spell_subs (subs_of is)) true
  says_subs [] all = says_nothing
  says_subs (i ∷ is) all =
      says_open (says_bracketed spell_sub (map decimal (i ∷ is)) (map (λ j. only (pos j)) (i ∷ is)) (said_map spell_sub decimal (λ j. only (pos j)) (λ j. j ≤ NUMBER_LIMIT) says_index (i ∷ is) all))

  says_place : (d : Decl) (place : ℕ) → IsName d.name → place ≤ NUMBER_LIMIT → Says false (place_text d place) (spell_ref (place_ref d place)) true
  says_place d place named few = says_both (says_name d.name named) (says_subs (indices_of d.dims place) (indices_within d.dims place NUMBER_LIMIT few))

  says_numbered : (decls : List Decl) (n : ℕ) → AllByRecursion IsLawfulDecl decls → n < variable_count decls → n ≤ NUMBER_LIMIT → Says false (numbered_text decls n) (spell_ref (numbered_ref decls n)) true
  says_numbered [] n lawful known few = absurd (omega arith)
  says_numbered (d ∷ decls) n lawful known few = ⊎_elim
      (λ here. rw here (says_place d n lawful.0.named few))
      (λ there.
      let past : size_of_dims d.dims ≤ n = grind (arith, nat_tests) in
      rw there (says_numbered decls (n - size_of_dims d.dims) lawful.1 (omega (arith, variable_count-cons d decls)) (omega arith)))
      (cases_Bool (nat_lt n (size_of_dims d.dims)))

  module _ (p : Problem) (lawful : IsLawful p) where
    known_below : (v : VarId) → IsKnown (domains_of p.decls) v → number_of v < variable_count p.decls
    known_below v known = omega (arith, length-domains_of p.decls)

    pub says_variable : (v : VarId) → IsKnown (domains_of p.decls) v → Says false (variable_text p v) (spell_ref (ref_of p v)) true
    says_variable v known =
        let below = known_below v known in
        says_numbered p.decls (number_of v) lawful.decls below (omega (arith, lawful.few_variables))

    pub says_term : (t : Term) → IsLawfulTerm (domains_of p.decls) t → Says false (term_text p t) (spell_entry (entry_of p t)) true
    says_term (Var v) named = says_variable v named
    says_term (Const k) named = says_value read k named
    says_term (Not v) named = says_both (says_closed (says_mark Bang)) (says_variable v named.0)

    said_terms : (terms : List Term) → AllByRecursion (IsLawfulTerm (domains_of p.decls)) terms → AllSaid spell_entry (map (term_text p) terms) (map (entry_of p) terms)
    said_terms terms named = said_map spell_entry (term_text p) (entry_of p) (IsLawfulTerm (domains_of p.decls)) says_term terms named

    pub says_vector : (terms : List Term) → AllByRecursion (IsLawfulTerm (domains_of p.decls)) terms → Says false (vector_text p terms) (spell_vector (vector_of p terms)) true
    says_vector terms named = says_open (says_closed (says_bracketed spell_entry _ _ (said_terms terms named)))

    pub says_row : (terms : List Term) → AllByRecursion (IsLawfulTerm (domains_of p.decls)) terms → Says false (vector_text p terms) (spell_row (row_of p terms)) true
    says_row terms named = says_open (says_closed (says_bracketed spell_entry _ _ (said_terms terms named)))

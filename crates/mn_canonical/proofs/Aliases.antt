-- What aliases say.
use Rattle.std.proofs.Common.{◌≡◌, ℕ, zero, suc, ◌≤◌, true, false, List, [], ◌∷◌, ◌++◌, length, map, take, drop, refl, sym, ap, ◌∙◌, codes, arith, append_assoc}
use Rattle.std.specs.List.{AllByRecursion}
use Rattle.std.proofs.lemmas.List.{append-nil}
use Rattle.mn_lexer.specs.Terminals.{word, mark}
use Rattle.mn_lexer.specs.declared.TheConstants.{NUMBER_LIMIT}
use Rattle.mn_lexer.specs.declared.marks.Mark.TheVariants.{OpenSquare, CloseSquare, Comma, Equals}
use Rattle.mn_model.specs.Lawful.{IsLawful, IsLawfulAlias, IsKnown}
use Rattle.mn_model.specs.Problem.{Problem, size_of_dims, domains_of}
use Rattle.mn_model.specs.declared.declaration.Alias.{Alias}
use Rattle.mn_model.specs.declared.variable.VarId.{VarId}
use Rattle.mn_grammar.specs.Lists.{spell_items}
use Rattle.mn_decls.specs.Aliases.{Nest, spell_nest, spell_nests}
use Rattle.mn_decls.specs.Variables.{spell_dims, spell_target, alias_token, spell_entry, names}
use Rattle.mn_pieces.specs.Printed.{NumbersAreRead}
use Rattle.mn_sections.specs.Matrices.{rows_of}
use Rattle.mn_sections.specs.Trees.{items_from, dims_of, nests_from, nest_from, target_of, naming_of, name_from}
use Rattle.mn_canonical.specs.Declarations.{nested_text, alias_text}
use Rattle.mn_canonical.specs.Names.{variable_text}
use Rattle.mn_canonical.proofs.Saying.{Says, says_as, says_both, says_open, says_closed}
use Rattle.mn_canonical.proofs.Tokens.{says_word, says_mark, says_space, says_line}
use Rattle.mn_canonical.proofs.Listing.{said_map, says_bracketed}
use Rattle.mn_canonical.proofs.Names.{says_name}
use Rattle.mn_canonical.proofs.References.{says_variable}
use Rattle.mn_canonical.proofs.Rows.{IsRow, are_rows}
use Rattle.mn_canonical.proofs.Variables.{says_dims}

-- a matrix is spelled as a list of its rows
nests_spelled : (n : Nest) (ns : List Nest) → spell_items CloseSquare spell_nest (items_from n ns) ≡ spell_nests (nests_from (n ∷ ns))
nests_spelled n [] = refl
nests_spelled n (m ∷ ns) = ap (λ ts. spell_nest n ++ mark Comma ∷ ts) (nests_spelled m ns)

-- what an alias leads to, behind its name
target_spelled : (p : Problem) (dims : List ℕ) (vars : List VarId) → spell_dims (dims_of dims) ++ (mark Equals ∷ spell_nest (nest_from p dims vars)) ≡ spell_target (target_of p dims vars)
target_spelled p [] vars = refl
target_spelled p (dim ∷ dims) vars = refl

says_equals : Says true (codes " = ") (mark Equals ∷ []) false
says_equals = says_both (says_both says_space (says_closed (says_mark Equals))) says_space

module _ (read : NumbersAreRead) (p : Problem) (lawful : IsLawful p) where
  -- the one variable of a matrix without dimensions
  says_one : (vars : List VarId) → length vars ≡ 1 → AllByRecursion (IsKnown (domains_of p.decls)) vars → Says false (nested_text p [] vars) (spell_nest (nest_from p [] vars)) true
  says_one [] filled known = absurd (omega arith)
  says_one (v ∷ []) filled known = says_as (sym (append-nil (variable_text p v))) refl (says_variable read p lawful v known.0)
  says_one (v ∷ w ∷ vars) filled known = absurd (omega arith)

  pub says_nested : (dims : List ℕ) (vars : List VarId) → AllByRecursion (λ dim. 1 ≤ dim) dims → length vars ≡ size_of_dims dims → AllByRecursion (IsKnown (domains_of p.decls)) vars
      → Says false (nested_text p dims vars) (spell_nest (nest_from p dims vars)) true
  says_nested [] vars shaped filled known = says_one vars filled known
  says_nested (zero ∷ dims) vars shaped filled known = absurd (omega (arith, shaped.0))
  says_nested (suc count ∷ dims) vars shaped filled known =
      let size = size_of_dims dims in
      let rows = rows_of size (suc count) vars in
      let said = said_map spell_nest (nested_text p dims) (nest_from p dims) (IsRow (IsKnown (domains_of p.decls)) size) (λ row is. says_nested dims row shaped.1 is.full is.all) rows (are_rows (IsKnown (domains_of p.decls)) size (suc count) vars filled known) in
      says_open (says_closed (says_as refl (ap (λ ts. mark OpenSquare ∷ ts) (nests_spelled (nest_from p dims (take size vars)) (map (nest_from p dims) (rows_of size count (drop size vars)))))
      (says_bracketed spell_nest (map (nested_text p dims) rows) (map (nest_from p dims) rows) said)))

  pub says_alias : (a : Alias) → IsLawfulAlias (domains_of p.decls) a → AllByRecursion (λ dim. dim ≤ NUMBER_LIMIT) a.dims → Says false (alias_text p a) (spell_entry (names (naming_of p a))) false
  says_alias a is few =
      let dims = spell_dims (dims_of a.dims) in
      let nest = spell_nest (nest_from p a.dims a.vars) in
      says_as refl (append-nil _ ∙ ap (λ ts. alias_token ∷ word (name_from a.name).bytes ∷ ts) (append_assoc dims (mark Equals ∷ []) nest ∙ target_spelled p a.dims a.vars))
      (says_both (says_both (says_both (says_both (says_both (says_both (says_word (codes "ALIAS") (refl, refl)) says_space) (says_name a.name is.named)) (says_dims read a.dims few)) says_equals) (says_nested a.dims a.vars is.shaped is.filled is.known)) says_line)

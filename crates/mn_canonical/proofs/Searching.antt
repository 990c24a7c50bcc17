-- What the section on the search says.
use Rattle.std.proofs.Common.{Bool, true, false, List, [], ◌∷◌, ◌++◌, map, Option, Some, None, refl, ⊎_elim, codes}
use Rattle.std.specs.List.{AllByRecursion, flat_map, list_any}
use Rattle.std.proofs.lemmas.Bool.{cases_Bool}
use Rattle.mn_lexer.specs.Terminals.{Terminal}
use Rattle.mn_model.specs.Lawful.{IsLawful, IsLawfulRow, IsLawfulGoal, IsLawfulPrint, IsKnown}
use Rattle.mn_model.specs.Problem.{Problem, domains_of}
use Rattle.mn_model.specs.declared.search.Goal.{Goal}
use Rattle.mn_model.specs.declared.search.Print.{Print}
use Rattle.mn_model.specs.declared.search.Print.TheVariants.{All, Nothing, Rows}
use Rattle.mn_model.specs.declared.variable.VarId.{VarId}
use Rattle.mn_asking.specs.Search.{Item, print, item_token, goal_word as item_goal, spell_item, spell_way}
use Rattle.mn_references.specs.Entries.{spell_row}
use Rattle.mn_references.specs.References.{spell_ref}
use Rattle.mn_pieces.specs.Printed.{NumbersAreRead}
use Rattle.mn_sections.specs.Trees.{ref_of, row_of, order_items, values_items, goal_items, printing_of, search_of}
use Rattle.mn_canonical.specs.Names.{variable_text, vector_text}
use Rattle.mn_canonical.specs.Search.{variables_text, direction_text, directions_text, goal_word, goal_text, print_text, search_text}
use Rattle.mn_canonical.proofs.Saying.{Says, says_both, says_closed, says_nothing}
use Rattle.mn_canonical.proofs.Tokens.{says_word, says_space, says_line}
use Rattle.mn_canonical.proofs.Listing.{AllSaid, said_map, says_bracketed, both_lists}
use Rattle.mn_canonical.proofs.References.{says_variable, says_row}

-- items, each on its line
abbrev pub spell_items_of : List Item → List Terminal
spell_items_of items = flat_map spell_item items

says_way : (d : Bool) → Says false (direction_text d) (spell_way d) true
says_way true = says_word (codes "d") (refl, refl)
says_way false = says_word (codes "a") (refl, refl)

said_ways : (down : List Bool) → AllSaid spell_way (map direction_text down) down
said_ways [] = tt
said_ways (d ∷ down) = (says_way d, said_ways down)

says_directions : (down : List Bool) → Says false (directions_text down) (spell_items_of (values_items down)) false
says_directions down = ⊎_elim
    (λ some. rw some (says_both (says_both (says_both (says_word (codes "VALORDER") (refl, refl)) says_space) (says_closed (says_bracketed spell_way (map direction_text down) down (said_ways down)))) says_line))
    (λ none. rw none says_nothing)
    (cases_Bool (list_any (λ d. d) down))

says_goal_word : (maximise : Bool) → Says false (goal_word maximise) (item_token (item_goal maximise) ∷ []) false
says_goal_word true = says_both (says_word (codes "MAXIMISING") (refl, refl)) says_space
says_goal_word false = says_both (says_word (codes "MINIMISING") (refl, refl)) says_space

module _ (read : NumbersAreRead) (p : Problem) (lawful : IsLawful p) where
  said_variables : (vars : List VarId) → AllByRecursion (IsKnown (domains_of p.decls)) vars → AllSaid spell_ref (map (variable_text p) vars) (map (ref_of p) vars)
  said_variables vars known = said_map spell_ref (variable_text p) (ref_of p) (IsKnown (domains_of p.decls)) (says_variable read p lawful) vars known

  says_order : (vars : List VarId) → AllByRecursion (IsKnown (domains_of p.decls)) vars → Says false (variables_text p vars) (spell_items_of (order_items p vars)) false
  says_order [] known = says_nothing
  says_order (v ∷ vars) known = (says_both (says_both (says_both (says_word (codes "VARORDER") (refl, refl)) says_space) (says_closed (says_bracketed spell_ref (map (variable_text p) (v ∷ vars)) (map (ref_of p) (v ∷ vars)) (said_variables (v ∷ vars) known)))) says_line)

  says_goal : (g : Option Goal) → IsLawfulGoal (domains_of p.decls) g → Says false (goal_text p g) (spell_items_of (goal_items p g)) false
  says_goal None known = says_nothing
  says_goal (Some g) known = (says_both (says_both (says_goal_word g.maximise) (says_variable read p lawful g.var known)) says_line)

  says_print : (what : Print) → IsLawfulPrint (domains_of p.decls) what → Says false (print_text p what) (spell_items_of (print (printing_of p what) ∷ [])) false
  says_print All is = says_both (says_both (says_both (says_word (codes "PRINT") (refl, refl)) says_space) (says_word (codes "ALL") (refl, refl))) says_line
  says_print Nothing is = says_both (says_both (says_both (says_word (codes "PRINT") (refl, refl)) says_space) (says_word (codes "NONE") (refl, refl))) says_line
  says_print (Rows rows) is = (says_both (says_both (says_both (says_word (codes "PRINT") (refl, refl)) says_space) (says_closed (says_bracketed spell_row (map (vector_text p) rows) (map (row_of p) rows) (said_map spell_row (vector_text p) (row_of p) (IsLawfulRow (domains_of p.decls)) (λ row is. says_row read p lawful row is.named) rows is)))) says_line)

  pub says_search : Says false (search_text p) (spell_items_of (search_of p)) false
  says_search =
      let order = order_items p p.order.vars in
      let values = values_items p.order.down in
      let goal = goal_items p p.goal in
      both_lists spell_item (order ++ values ++ goal) (print (printing_of p p.print) ∷ [])
      (both_lists spell_item (order ++ values) goal (both_lists spell_item order values (says_order p.order.vars lawful.order.known) (says_directions p.order.down)) (says_goal p.goal lawful.goal))
      (says_print p.print lawful.print)

-- The sections of an instance one behind another: what is said behind each.
use Rattle.std.proofs.Common.{◌≡◌, List, [], ◌∷◌, map, refl, ap, ◌∙◌}
use Rattle.mn_model.specs.Lawful.{IsLawful}
use Rattle.mn_model.specs.Problem.{Problem, nothing}
use Rattle.mn_cursor.specs.Progress.{nothing_asked}
use Rattle.mn_language.specs.Constraints as constrains
use Rattle.mn_language.specs.Texts.{Section, variables, tuple_lists, search, constraints, Stated, nothing_stated, breaks_entries, after_section, breaks_sections, value_sections}
use Rattle.mn_sections.specs.Constraining.{constraint_of}
use Rattle.mn_sections.specs.Law.{IsSaid, InstancesAreSaid}
use Rattle.mn_sections.specs.Trees.{variables_of, tuple_list_of, search_of}
use Rattle.mn_sections.proofs.Constraints.{constraints_said}
use Rattle.mn_sections.proofs.Declarations.{variables_said}
use Rattle.mn_sections.proofs.Searching.{search_said}
use Rattle.mn_sections.proofs.Tuples.{tuples_said}

-- what is said with nothing asked yet
abbrev said : Problem → Stated
said q = record { problem = q; asked = nothing_asked }

module _ (p : Problem) (lawful : IsLawful p) where
  -- behind the variables, behind the tuple lists, and behind what is said of the search
  abbrev declared : Problem
  declared = record nothing { decls = p.decls; aliases = p.aliases }

  abbrev listed : Problem
  listed = record declared { tuples = p.tuples }

  abbrev asked : Problem
  asked = record listed { order = p.order; goal = p.goal; print = p.print }

  of_variables : (breaks_entries nothing_stated (variables (variables_of p)) ≡ []) × (after_section nothing_stated (variables (variables_of p)) ≡ said declared)
  of_variables = let both = variables_said p lawful in (both.0, ap said both.1)

  of_tuples : (breaks_entries (said declared) (tuple_lists (map tuple_list_of p.tuples)) ≡ []) × (after_section (said declared) (tuple_lists (map tuple_list_of p.tuples)) ≡ said listed)
  of_tuples = let both = tuples_said p declared lawful refl refl in (both.0, ap said both.1)

  abbrev behind_search : Stated
  behind_search = after_section (said listed) (search (search_of p))

  of_search : (breaks_entries (said listed) (search (search_of p)) ≡ []) × (behind_search.problem ≡ asked)
  of_search = search_said p listed (record { lawful = lawful; same = refl }) refl refl refl

  of_constraints : (q : Problem) → q ≡ asked → (constrains.breaks_section q (map (constraint_of p) p.cons) ≡ []) × (constrains.value_section q (map (constraint_of p) p.cons) ≡ p)
  of_constraints q is =
      let both = constraints_said p asked (record { lawful = lawful; same = refl }) refl refl in
      (ap (λ r. constrains.breaks_section r (map (constraint_of p) p.cons)) is ∙ both.0, ap (λ r. constrains.value_section r (map (constraint_of p) p.cons)) is ∙ both.1)

  -- the sections behind each
  abbrev behind_asked : List Section
  behind_asked = constraints (map (constraint_of p) p.cons) ∷ []

  abbrev behind_listed : List Section
  behind_listed = search (search_of p) ∷ behind_asked

  abbrev behind_declared : List Section
  behind_declared = tuple_lists (map tuple_list_of p.tuples) ∷ behind_listed

  section_kept : (s t : Stated) (x : Section) (xs : List Section) → breaks_entries s x ≡ [] → after_section s x ≡ t → breaks_sections t xs ≡ [] → breaks_sections s (x ∷ xs) ≡ []
  section_kept s t x xs here is later = rw (here, is, later) refl

  section_value : (s t : Stated) (x : Section) (xs : List Section) → after_section s x ≡ t → value_sections s (x ∷ xs) ≡ value_sections t xs
  section_value s t x xs is = ap (λ u. value_sections u xs) is

  instance_said : IsSaid p
  instance_said =
      let last = of_constraints behind_search.problem of_search.1 in
      let four = section_kept behind_search (after_section behind_search (constraints (map (constraint_of p) p.cons))) (constraints (map (constraint_of p) p.cons)) [] last.0 refl refl in
      let three = section_kept (said listed) behind_search (search (search_of p)) behind_asked of_search.0 refl four in
      let two = section_kept (said declared) (said listed) (tuple_lists (map tuple_list_of p.tuples)) behind_listed of_tuples.0 of_tuples.1 three in
      let one = section_kept nothing_stated (said declared) (variables (variables_of p)) behind_declared of_variables.0 of_variables.1 two in
      record {
        kept = rw one refl;
        means = section_value nothing_stated (said declared) (variables (variables_of p)) behind_declared of_variables.1
            ∙ (section_value (said declared) (said listed) (tuple_lists (map tuple_list_of p.tuples)) behind_listed of_tuples.1 ∙ last.1);
      }

pub instances_said : InstancesAreSaid
instances_said p lawful = instance_said p lawful

-- Whatever a text stands for is lawful in the model: each section that breaks nothing leaves a lawful problem lawful.
use Rattle.std.proofs.Common.{◌≡◌, ℕ, List, [], ◌∷◌, length, None, refl, subst, lit≤}
use Rattle.mn_model.specs.Lawful.{IsLawful}
use Rattle.mn_model.specs.Problem.{Problem, nothing}
use Rattle.mn_model.proofs.Kept.{IsLawful-add}
use Rattle.mn_model.proofs.Lists.{all_back, all_front}
use Rattle.mn_cursor.specs.declared.heads.Head.{Head}
use Rattle.mn_references.proofs.FairTokens.{lexed_fair}
use Rattle.mn_references.proofs.LawfulVectors.{IsFairToken, AreFair}
use Rattle.mn_references.proofs.Unbroken.{behind_kept, part_kept}
use Rattle.mn_decls.specs.TupleLists.{whole}
use Rattle.mn_decls.specs.Variables.{so_far}
use Rattle.mn_decls.proofs.LawfulTuples.{lists_lawful}
use Rattle.mn_decls.proofs.LawfulVariables.{entries_lawful}
use Rattle.mn_asking.proofs.LawfulAsking.{items_lawful}
use Rattle.mn_language.specs.Constraints as constrains
use Rattle.mn_language.specs.Constraints.{Constraint, after_constraint, before_all, breaks_constraint, spell_constraint, value_constraint}
use Rattle.mn_model.specs.Problem.{cells_of}
use Rattle.mn_model.specs.declared.limits.TheConstants.{NESTING}
use Rattle.mn_language.specs.Texts.{Section, variables, tuple_lists, search, constraints, first_head, spell_entries, spell_sections, Stated, nothing_stated, asking, breaks_entries, after_section, breaks_sections, value_sections, Reads}
use Rattle.mn_language.proofs.LawfulConstraints.{tree_may_be_added}

-- 1. Constraints
constraints_lawful : (p : Problem) → IsLawful p → (cs : List Constraint) (h : Head) → constrains.breaks_section p cs ≡ [] → AreFair (constrains.spell_section cs h) → IsLawful (constrains.value_section p cs)
constraints_lawful p lawful [] h kept fair = lawful
constraints_lawful p lawful (c ∷ cs) h kept fair =
    let parts = part_kept (length (spell_constraint c)) (breaks_constraint p c NESTING (before_all p)) (constrains.breaks_section (after_constraint p c) cs) kept in
    let may = tree_may_be_added p lawful c parts.0 (all_front IsFairToken (spell_constraint c) (constrains.spell_section cs h) fair) in
    constraints_lawful (after_constraint p c) (IsLawful-add p (value_constraint p c (cells_of p)) lawful may.lawful may.room may.cells) cs h parts.1
    (all_back IsFairToken (spell_constraint c) (constrains.spell_section cs h) fair)

-- 2. A section
section_added : (s : Stated) → IsLawful s.problem → (x : Section) (h : Head) → breaks_entries s x ≡ [] → AreFair (spell_entries x h) → IsLawful (after_section s x).problem
section_added s lawful (variables es) h kept fair = entries_lawful (so_far s.problem) lawful es h kept fair
section_added s lawful (tuple_lists ls) h kept fair = lists_lawful (whole s.problem) lawful ls h kept fair
section_added s lawful (search items) h kept fair = items_lawful (asking s) lawful items h kept fair
section_added s lawful (constraints cs) h kept fair = constraints_lawful s.problem lawful cs h kept fair

-- 3. All of them
sections_lawful : (s : Stated) → IsLawful s.problem → (xs : List Section) → breaks_sections s xs ≡ [] → AreFair (spell_sections xs) → IsLawful (value_sections s xs)
sections_lawful s lawful [] kept fair = lawful
sections_lawful s lawful (x ∷ xs) kept fair =
    let h : Head = first_head xs in
    let parts = part_kept (length (spell_entries x h)) (breaks_entries s x) (breaks_sections (after_section s x) xs) kept in
    sections_lawful (after_section s x) (section_added s lawful x h parts.0 (all_front IsFairToken (spell_entries x h) (spell_sections xs) fair)) xs parts.1
    (all_back IsFairToken (spell_entries x h) (spell_sections xs) fair)

-- 4. From a problem that declares and asks nothing on
nothing_lawful : IsLawful nothing
nothing_lawful = record {
  decls = tt;
  distinct = tt;
  numbered = tt;
  few_variables = lit≤ tt;
  aliases = tt;
  new_aliases = tt;
  apart = tt;
  tuples = tt;
  new_tuples = tt;
  cons = tt;
  few_constraints = lit≤ tt;
  few_cells = lit≤ tt;
  order = record { known = tt; few = lit≤ tt; directed = refl };
  goal = tt;
  print = tt;
}

pub texts_are_lawful : (text : List ℕ) (p : Problem) → Reads text p → IsLawful p
texts_are_lawful text p reads =
    let sections : List Section = reads.sections in
    let fair = subst AreFair reads.is_text.spelled (lexed_fair text reads.tokens None reads.lexed) in
    subst IsLawful reads.means
    (sections_lawful nothing_stated nothing_lawful sections (behind_kept 3 (breaks_sections nothing_stated sections) reads.is_text.kept) fair.1.1.1)

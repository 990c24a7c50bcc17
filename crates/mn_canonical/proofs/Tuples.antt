-- What tuple lists and tables say.
use Rattle.std.proofs.Common.{◌≡◌, ℕ, zero, suc, ◌*◌, ◌≤◌, ℤ, true, false, List, [], ◌∷◌, ◌++◌, length, map, take, drop, slice_get, Some, refl, sym, ap, ◌∙◌, codes, arith}
use Rattle.std.specs.Fmt.{signed_decimal}
use Rattle.std.specs.List.{AllByRecursion, flat_map}
use Rattle.std.specs.Option.{option_map}
use Rattle.std.proofs.lemmas.List.{append-nil, map-append, take-append-drop}
use Rattle.mn_lexer.specs.Terminals.{word, number}
use Rattle.mn_lexer.specs.declared.TheConstants.{NUMBER_LIMIT}
use Rattle.mn_lexer.specs.declared.marks.Mark.TheVariants.{Less, Greater}
use Rattle.mn_model.specs.Domain.{IsValue}
use Rattle.mn_model.specs.Lawful.{IsLawful, IsLawfulTuples, SuitsTable}
use Rattle.mn_model.specs.Parts.{cells_here}
use Rattle.mn_model.specs.Problem.{Problem}
use Rattle.mn_model.specs.declared.constraint.Tab.{Tab}
use Rattle.mn_model.specs.declared.constraint.Tab.TheVariants.{Named, Here}
use Rattle.mn_model.specs.declared.declaration.Tuples.{Tuples}
use Rattle.mn_model.proofs.Lists.{all_drop, all_take}
use Rattle.mn_decls.specs.TupleLists.{spell_list}
use Rattle.mn_language.specs.Arguments.{spell_number, spell_tuple, spell_table}
use Rattle.mn_pieces.specs.Printed.{NumbersAreRead}
use Rattle.mn_sections.specs.Constraining.{tuple_of, list_name as list_named, table_of}
use Rattle.mn_sections.specs.Matrices.{rows_of, tuple_count, tuples_of}
use Rattle.mn_sections.specs.Trees.{tuple_list_of}
use Rattle.mn_canonical.specs.Lists.{separated}
use Rattle.mn_canonical.specs.Tables.{tuple_text, tuple_line, tuple_list_text, list_name, table_text}
use Rattle.mn_canonical.proofs.Saying.{Says, says_as, says_both, says_open, says_closed, says_nothing}
use Rattle.mn_canonical.proofs.Tokens.{says_mark, says_space, says_line}
use Rattle.mn_canonical.proofs.Listing.{said_map, says_items, says_braced}
use Rattle.mn_canonical.proofs.Names.{says_name}
use Rattle.mn_canonical.proofs.Numbers.{says_value, says_count, said_values}
use Rattle.mn_canonical.proofs.Rows.{IsRow, are_rows, rest_size, tuples_filled}

abbrev space_before : List ℕ → List ℕ
space_before x = codes " " ++ x

module _ (read : NumbersAreRead) where
  -- 1. Tuple lists: a tuple on its line
  said_spaced : (zs : List ℤ) → AllByRecursion IsValue zs → Says true (flat_map space_before (map signed_decimal zs)) (map (λ z. number z) zs) true
  said_spaced [] valued = says_nothing
  said_spaced (z ∷ zs) valued = says_both (says_both says_space (says_value read z valued.0)) (said_spaced zs valued.1)

  said_line : (zs : List ℤ) → AllByRecursion IsValue zs → Says false (separated (codes " ") (map signed_decimal zs)) (map (λ z. number z) zs) true
  said_line [] valued = says_open says_nothing
  said_line (z ∷ zs) valued = says_both (says_value read z valued.0) (said_spaced zs valued.1)

  says_line_of : (zs : List ℤ) → AllByRecursion IsValue zs → Says false (tuple_line zs) (map (λ z. number z) zs) false
  says_line_of zs valued = says_as refl (append-nil _) (says_both (said_line zs valued) says_line)

  says_lines : (size count : ℕ) (cells : List ℤ) → length cells ≡ count * size → AllByRecursion IsValue cells → Says false (flat_map tuple_line (rows_of size count cells)) (map (λ z. number z) cells) false
  says_lines size zero [] filled valued = says_nothing
  says_lines size zero (z ∷ cells) filled valued = absurd (omega arith)
  says_lines size (suc count) cells filled valued =
      says_as refl (sym (map-append (λ z. number z) (take size cells) (drop size cells)) ∙ ap (map (λ z. number z)) (take-append-drop size cells))
      (says_both (says_line_of (take size cells) (all_take IsValue size cells valued)) (says_lines size count (drop size cells) (rest_size size count cells filled) (all_drop IsValue size cells valued)))

  pub says_tuple_list : (t : Tuples) → IsLawfulTuples t → tuple_count t.arity t.cells ≤ NUMBER_LIMIT → t.arity ≤ NUMBER_LIMIT → Says false (tuple_list_text t) (spell_list (tuple_list_of t)) false
  says_tuple_list t is few short =
      says_both (says_both (says_both (says_both (says_both (says_both (says_name t.name is.named) says_space) (says_count read (tuple_count t.arity t.cells) few)) says_space) (says_count read t.arity short)) says_line)
      (says_lines t.arity (tuple_count t.arity t.cells) t.cells (tuples_filled t.arity t.cells is.least is.whole) is.valued)

  -- 2. Tables: a tuple with its numbers
  says_tuple : (size : ℕ) (row : List ℤ) → 1 ≤ size → IsRow IsValue size row → Says false (tuple_text row) (spell_tuple (tuple_of row)) true
  says_tuple size [] some is = absurd (omega (arith, is.full))
  says_tuple size (z ∷ zs) some is =
      says_open (
      (says_both (says_closed (says_mark Less)) (says_items spell_number Greater (signed_decimal z) (map signed_decimal zs) z zs (said_values read (z ∷ zs) is.all))))

  -- the name of a tuple list that there is
  says_named : (lists : List Tuples) (n : ℕ) (places : ℕ) → option_map (λ t. t.arity) (slice_get lists n) ≡ Some places → AllByRecursion IsLawfulTuples lists
      → Says false (list_name (slice_get lists n)) (word (list_named (slice_get lists n)).bytes ∷ []) true
  says_named [] n places suits lawful = absurd cc
  says_named (t ∷ lists) zero places suits lawful = says_name t.name lawful.0.named
  says_named (t ∷ lists) (suc n) places suits lawful = says_named lists n places suits lawful.1

  pub says_table : (p : Problem) (tab : Tab) (places : ℕ) → IsLawful p → 1 ≤ places → SuitsTable p.tuples (places, tab) → AllByRecursion IsValue (cells_here tab) → Says false (table_text p tab) (spell_table (table_of p tab)) true
  says_table p (Named n) places lawful some suits valued = says_named p.tuples n places suits lawful.tuples
  says_table p (Here arity cells) places lawful some suits valued =
      let least : 1 ≤ arity = omega (arith, suits.0) in
      let rows = tuples_of arity cells in
      says_open (says_closed (says_braced spell_tuple (map tuple_text rows) (map tuple_of rows)
      (said_map spell_tuple tuple_text tuple_of (IsRow IsValue arity) (λ row is. says_tuple arity row least is) rows
      (are_rows IsValue arity (tuple_count arity cells) cells (tuples_filled arity cells least suits.1) valued))))

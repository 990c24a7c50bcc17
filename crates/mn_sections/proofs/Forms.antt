-- The arguments of each form without others inside, by what it takes.
use Rattle.std.proofs.Common.{◌≡◌, ℕ, ◌+◌, ◌≤◌, ℤ, List, [], ◌∷◌, ◌++◌, length, refl, sym, ap, arith}
use Rattle.std.specs.List.{AllByRecursion}
use Rattle.mn_model.specs.Lawful.{IsLawfulTerm, IsBit, IsShort, SuitsTable}
use Rattle.mn_model.specs.Parts.{places, bits, vectors, tables, cells_here, cell_count, nesting, IsEven, IsShaped, IsWritten}
use Rattle.mn_model.specs.Problem.{Problem, domains_of}
use Rattle.mn_model.specs.declared.constraint.Con.{Con}
use Rattle.mn_model.specs.declared.constraint.Tab.{Tab}
use Rattle.mn_model.specs.declared.constraint.Term.{Term}
use Rattle.mn_model.specs.declared.limits.TheConstants.{CELLS}
use Rattle.mn_model.proofs.Lists.{all_back, all_front, filled_length}
use Rattle.mn_grammar.specs.Places.{behind}
use Rattle.mn_grammar.specs.Rows.{Arguments}
use Rattle.mn_language.specs.Arguments.{Value, of_numbers, of_tuples, Written}
use Rattle.mn_language.specs.Constraints.{meaning, Constraint, simple, inside, value_constraint, breaks_constraint}
use Rattle.mn_language.specs.Forms.{form_line, any_vector, some_vector, bit_vector, like_vector, any_numbers, some_pairs, weights, like_numbers}
use Rattle.mn_language.specs.declared.forms.Argument.TheVariants.{Term as a_term, Number, Range, Tuples}
use Rattle.mn_language.specs.declared.forms.Leaf.{Leaf}
use Rattle.mn_sections.specs.Constraining.{table_of}
use Rattle.mn_sections.specs.Trees.{maybe_items, entry_of, vector_of}
use Rattle.mn_sections.proofs.Rows.{AreArguments, row_breaks, row_values, one_term, whole_vector, one_number, term_said, number_said, range_said, any_said, some_said, bits_said, like_said, any_numbers_said, pairs_said, weights_said, like_numbers_said, tuples_said}
use Rattle.mn_sections.proofs.References.{HasVariables}

-- 1. The tree breaks nothing, and stands for the constraint, where d forms may stand inside one another and tuples have
-- n cells before it.
pub record StandsFor (q : Problem) (tree : Constraint) (c : Con) (d n : ℕ) : Type 0 where
  pub kept : breaks_constraint q tree d (inside n) ≡ []
  pub means : value_constraint q tree n ≡ c

-- a form whose arguments are said stands for what they mean
pub simple_stands : (q : Problem) (d n : ℕ) (f : Leaf) (a : Arguments Written (form_line f).takes) (vs : List Value) → AreArguments q n (form_line f).takes [] a vs → StandsFor q (simple f a) (meaning f vs) d n
simple_stands q d n f a vs is = record { kept = ap (behind 2) (row_breaks q n (form_line f).takes a vs is); means = ap (meaning f) (row_values q n (form_line f).takes a vs is) }

-- What a constraint keeps that can be said there.
pub record IsSayable (p : Problem) (n d : ℕ) (c : Con) : Type 0 where
  pub named : AllByRecursion (IsLawfulTerm (domains_of p.decls)) (places c)
  pub bits : AllByRecursion (IsBit (domains_of p.decls)) (bits c)
  pub short : AllByRecursion IsShort (vectors c)
  pub tables : AllByRecursion (SuitsTable p.tuples) (tables c)
  pub shaped : IsShaped c
  pub nested : nesting c ≤ d
  pub written : IsWritten c
  pub room : n + cell_count c ≤ CELLS

-- 2. Rows of arguments
module _ (p q : Problem) (has : HasVariables p q) (same : q.tuples ≡ p.tuples) (n : ℕ) where
  abbrev IsTerm : Term → Type 0
  IsTerm t = IsLawfulTerm (domains_of p.decls) t

  abbrev AreTerms : List Term → Type 0
  AreTerms terms = AllByRecursion IsTerm terms

  -- terms
  pub two_terms : (x y : Term) → AreTerms (x ∷ y ∷ []) → AreArguments q n (a_term ∷ a_term ∷ []) [] (entry_of p x, (entry_of p y, tt)) (one_term x ∷ one_term y ∷ [])
  two_terms x y is = (term_said p q has same n x is.0, (term_said p q has same n y is.1.0, tt))

  pub three_terms : (x y z : Term) → AreTerms (x ∷ y ∷ z ∷ []) → AreArguments q n (a_term ∷ a_term ∷ a_term ∷ []) [] (entry_of p x, (entry_of p y, (entry_of p z, tt))) (one_term x ∷ one_term y ∷ one_term z ∷ [])
  three_terms x y z is = (term_said p q has same n x is.0, (term_said p q has same n y is.1.0, (term_said p q has same n z is.1.1.0, tt)))

  pub terms_number : (x y : Term) (k : ℤ) → AreTerms (x ∷ y ∷ []) → AreArguments q n (a_term ∷ a_term ∷ Number ∷ []) [] (entry_of p x, (entry_of p y, (k, tt))) (one_term x ∷ one_term y ∷ one_number k ∷ [])
  terms_number x y k is = (term_said p q has same n x is.0, (term_said p q has same n y is.1.0, (number_said p q has same n k, tt)))

  -- a term and numbers
  pub term_number : (x : Term) (k : ℤ) → AreTerms (x ∷ []) → AreArguments q n (a_term ∷ Number ∷ []) [] (entry_of p x, (k, tt)) (one_term x ∷ one_number k ∷ [])
  term_number x k is = (term_said p q has same n x is.0, (number_said p q has same n k, tt))

  pub term_numbers : (x : Term) (ks : List ℤ) → AreTerms (x ∷ []) → AreArguments q n (a_term ∷ any_numbers ∷ []) [] (entry_of p x, (maybe_items ks, tt)) (one_term x ∷ of_numbers ks ∷ [])
  term_numbers x ks is = (term_said p q has same n x is.0, (any_numbers_said p q has same n ks, tt))

  pub term_pairs : (x : Term) (ks : List ℤ) → AreTerms (x ∷ []) → IsEven ks → AreArguments q n (a_term ∷ some_pairs ∷ []) [] (entry_of p x, (maybe_items ks, tt)) (one_term x ∷ of_numbers ks ∷ [])
  term_pairs x ks is even = (term_said p q has same n x is.0, (pairs_said p q has same n ks even, tt))

  pub term_range : (x : Term) (lo hi : ℤ) → AreTerms (x ∷ []) → AreArguments q n (a_term ∷ Range ∷ []) [] (entry_of p x, ((lo, hi), tt)) (one_term x ∷ of_numbers (lo ∷ hi ∷ []) ∷ [])
  term_range x lo hi is = (term_said p q has same n x is.0, (range_said p q has same n lo hi, tt))

  -- a vector, and terms or numbers
  pub vector_alone : (v : List Term) → AreTerms v → IsShort v → AreArguments q n (any_vector ∷ []) [] (vector_of p v, tt) (whole_vector v ∷ [])
  vector_alone v is short = (any_said p q has same n v is short, tt)

  pub vector_term : (v : List Term) (x : Term) → AreTerms (v ++ x ∷ []) → IsShort v → AreArguments q n (any_vector ∷ a_term ∷ []) [] (vector_of p v, (entry_of p x, tt)) (whole_vector v ∷ one_term x ∷ [])
  vector_term v x is short = (any_said p q has same n v (all_front IsTerm v (x ∷ []) is) short, (term_said p q has same n x (all_back IsTerm v (x ∷ []) is).0, tt))

  pub some_term : (v : List Term) (x : Term) → AreTerms (v ++ x ∷ []) → IsShort v → (v ≡ [] → ⊥) → AreArguments q n (some_vector ∷ a_term ∷ []) [] (vector_of p v, (entry_of p x, tt)) (whole_vector v ∷ one_term x ∷ [])
  some_term v x is short none = (some_said p q has same n v (all_front IsTerm v (x ∷ []) is) short none, (term_said p q has same n x (all_back IsTerm v (x ∷ []) is).0, tt))

  pub vector_terms : (v : List Term) (x y : Term) → AreTerms (v ++ x ∷ y ∷ []) → IsShort v → AreArguments q n (any_vector ∷ a_term ∷ a_term ∷ []) [] (vector_of p v, (entry_of p x, (entry_of p y, tt))) (whole_vector v ∷ one_term x ∷ one_term y ∷ [])
  vector_terms v x y is short =
      let others = all_back IsTerm v (x ∷ y ∷ []) is in
      (any_said p q has same n v (all_front IsTerm v (x ∷ y ∷ []) is) short, (term_said p q has same n x others.0, (term_said p q has same n y others.1.0, tt)))

  pub bits_number : (v : List Term) (k : ℤ) → AreTerms v → IsShort v → AllByRecursion (IsBit (domains_of p.decls)) v → AreArguments q n (bit_vector ∷ Number ∷ []) [] (vector_of p v, (k, tt)) (whole_vector v ∷ one_number k ∷ [])
  bits_number v k is short bits = (bits_said p q has same n v is short bits, (number_said p q has same n k, tt))

  pub vector_number_term : (v : List Term) (k : ℤ) (x : Term) → AreTerms (v ++ x ∷ []) → IsShort v → AreArguments q n (any_vector ∷ Number ∷ a_term ∷ []) [] (vector_of p v, (k, (entry_of p x, tt))) (whole_vector v ∷ one_number k ∷ one_term x ∷ [])
  vector_number_term v k x is short = (any_said p q has same n v (all_front IsTerm v (x ∷ []) is) short, (number_said p q has same n k, (term_said p q has same n x (all_back IsTerm v (x ∷ []) is).0, tt)))

  pub vector_two_numbers : (v : List Term) (k k2 : ℤ) → AreTerms v → IsShort v → AreArguments q n (any_vector ∷ Number ∷ Number ∷ []) [] (vector_of p v, (k, (k2, tt))) (whole_vector v ∷ one_number k ∷ one_number k2 ∷ [])
  vector_two_numbers v k k2 is short = (any_said p q has same n v is short, (number_said p q has same n k, (number_said p q has same n k2, tt)))

  pub vector_numbers : (v : List Term) (ks : List ℤ) (k : ℤ) → AreTerms v → IsShort v → length ks ≡ length v → AreArguments q n (any_vector ∷ like_numbers ∷ Number ∷ []) [] (vector_of p v, (maybe_items ks, (k, tt))) (whole_vector v ∷ of_numbers ks ∷ one_number k ∷ [])
  vector_numbers v ks k is short alike = (any_said p q has same n v is short, (like_numbers_said p q has same n ks (omega (arith, short, alike)) alike, (number_said p q has same n k, tt)))

  -- weights and their vector
  pub weighted : (ks : List ℤ) (v : List Term) (x : Term) → AreTerms (v ++ x ∷ []) → IsShort v → length ks ≡ length v → AreArguments q n (weights ∷ like_vector ∷ a_term ∷ []) [] (maybe_items ks, (vector_of p v, (entry_of p x, tt))) (of_numbers ks ∷ whole_vector v ∷ one_term x ∷ [])
  weighted ks v x is short alike = (weights_said p q has same n ks (omega (arith, short, alike)), (like_said p q has same n v (all_front IsTerm v (x ∷ []) is) short (sym alike), (term_said p q has same n x (all_back IsTerm v (x ∷ []) is).0, tt)))

  -- two vectors of one length
  pub two_vectors : (v w : List Term) → AreTerms (v ++ w) → IsShort v → IsShort w → length w ≡ length v → AreArguments q n (any_vector ∷ like_vector ∷ []) [] (vector_of p v, (vector_of p w, tt)) (whole_vector v ∷ whole_vector w ∷ [])
  two_vectors v w is short other alike = (any_said p q has same n v (all_front IsTerm v w is) short, (like_said p q has same n w (all_back IsTerm v w is) other alike, tt))

  pub two_vectors_number : (v w : List Term) (k : ℤ) → AreTerms (v ++ w) → IsShort v → IsShort w → length w ≡ length v → AreArguments q n (any_vector ∷ like_vector ∷ Number ∷ []) [] (vector_of p v, (vector_of p w, (k, tt))) (whole_vector v ∷ whole_vector w ∷ one_number k ∷ [])
  two_vectors_number v w k is short other alike = (any_said p q has same n v (all_front IsTerm v w is) short, (like_said p q has same n w (all_back IsTerm v w is) other alike, (number_said p q has same n k, tt)))

  -- a vector and its table
  pub vector_table : (v : List Term) (tab : Tab) → AreTerms v → IsShort v → (v ≡ [] → ⊥) → SuitsTable p.tuples (length v, tab) → n + length (cells_here tab) ≤ CELLS → AreArguments q n (some_vector ∷ Tuples ∷ []) [] (vector_of p v, (table_of p tab, tt)) (whole_vector v ∷ of_tuples tab ∷ [])
  vector_table v tab is short none suits room = (some_said p q has same n v is short none, (tuples_said p q has same n tab (length v) refl (filled_length v none) suits room, tt))

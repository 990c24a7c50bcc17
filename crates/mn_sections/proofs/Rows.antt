-- Arguments break nothing and stand for their values, and so does each row of them.
use Rattle.std.proofs.Common.{◌≡◌, ℕ, ◌+◌, ◌≤◌, ℤ, false, ◌||◌, List, [], ◌∷◌, ◌++◌, length, None, refl, ap, ◌∙◌, subst, arith, append_assoc}
use Rattle.std.specs.List.{AllByRecursion}
use Rattle.mn_model.specs.Lawful.{IsLawfulTerm, IsBit, IsShort, SuitsTable}
use Rattle.mn_model.specs.Parts.{cells_here, IsEven}
use Rattle.mn_model.specs.Problem.{Problem, domains_of}
use Rattle.mn_model.specs.declared.constraint.Tab.{Tab}
use Rattle.mn_model.specs.declared.constraint.Term.{Term}
use Rattle.mn_model.specs.declared.limits.TheConstants.{CELLS, PLACES}
use Rattle.mn_model.proofs.Lists.{filled_length}
use Rattle.mn_grammar.specs.Places.{on, behind}
use Rattle.mn_grammar.specs.Rows.{Arguments, breaks_more, values_more, breaks_row, values_row}
use Rattle.mn_language.specs.Arguments.{Value, of_terms, of_numbers, of_tuples, placed_value, behind_value, behind_last, length_wanted, numbers_wanted, vector_wanted, Written, spell_argument, breaks_argument, value_argument, arguments}
use Rattle.mn_language.specs.declared.forms.Argument.{Argument}
use Rattle.mn_language.specs.declared.forms.Argument.TheVariants as takes
use Rattle.mn_language.specs.declared.forms.Numbers.{Numbers}
use Rattle.mn_language.specs.declared.forms.Numbers.TheVariants as numbers
use Rattle.mn_language.specs.declared.forms.Places.{Places}
use Rattle.mn_language.specs.declared.forms.Places.TheVariants as places
use Rattle.mn_language.proofs.LawfulArguments.{last_is}
use Rattle.mn_sections.specs.Constraining.{table_of}
use Rattle.mn_sections.specs.Trees.{maybe_items, entry_of, vector_of}
use Rattle.mn_sections.proofs.Numbers.{IsCount, list_breaks, list_value, even_length}
use Rattle.mn_sections.proofs.Entries.{FitsBounds, term_breaks, term_value, vector_breaks, vector_value}
use Rattle.mn_sections.proofs.References.{HasVariables}
use Rattle.mn_sections.proofs.Tables.{table_said}
use Rattle.mn_sections.proofs.Kept.{part_nothing, token_nothing, ltb_not, leb_not}

-- 1. An argument behind the values before it breaks nothing, and stands for a value that ends with it.
pub record IsArgument (q : Problem) (used : ℕ) (k : Argument) (before : List Value) (a : Written k) (v : Value) : Type 0 where
  pub kept : breaks_argument q used k before a ≡ []
  pub means : value_argument q used k before a ≡ v
  pub ends : behind_value v ≡ None

-- so does each argument of a row
abbrev pub AreArguments : Problem → ℕ → (row : List Argument) → List Value → Arguments Written row → List Value → Type 0
AreArguments q used [] before a [] = Unit {0}
AreArguments q used [] before a (v ∷ vs) = ⊥
AreArguments q used (k ∷ ks) before a [] = ⊥
AreArguments q used (k ∷ ks) before a (v ∷ vs) = IsArgument q used k before a.0 v × AreArguments q used ks (before ++ v ∷ []) a.1 vs

module _ (q : Problem) (used : ℕ) where
  -- the mark behind an argument
  mark_kept : (k : Argument) (before : List Value) (a : Written k) (v : Value) → IsArgument q used k before a v → behind_last (before ++ value_argument q used k before a ∷ []) ≡ None
  mark_kept k before a v is = last_is before (value_argument q used k before a) ∙ (ap behind_value is.means ∙ is.ends)

  -- the row of an argument and others
  record IsRow (k : Argument) (others : List Argument) (before : List Value) (a : Arguments Written (k ∷ others)) (vs : List Value) : Type 0 where
    kept : breaks_more (arguments q used) k others before a ≡ []
    means : values_more (arguments q used) k others before a ≡ before ++ vs

  row_is : (k : Argument) (others : List Argument) (before : List Value) (a : Arguments Written (k ∷ others)) (v : Value) (vs : List Value) → AreArguments q used (k ∷ others) before a (v ∷ vs) → IsRow k others before a (v ∷ vs)
  row_is k [] before a v [] is = record {
    kept = part_nothing (length (spell_argument k a.0)) (breaks_argument q used k before a.0) (on (behind_last (before ++ value_argument q used k before a.0 ∷ []))) is.0.kept (ap on (mark_kept k before a.0 v is.0));
    means = ap (λ (w : Value). before ++ w ∷ []) is.0.means;
  }
  row_is k [] before a v (w ∷ vs) is = absurd is.1
  row_is k (l ∷ others) before a v [] is = absurd is.1
  row_is k (l ∷ others) before a v (w ∷ vs) is =
      let later = row_is l others (before ++ v ∷ []) a.1 w vs is.1 in
      record {
        kept =
            part_nothing (length (spell_argument k a.0)) (breaks_argument q used k before a.0) (on (behind_last (before ++ value_argument q used k before a.0 ∷ [])) ++ behind 1 (breaks_more (arguments q used) l others (before ++ value_argument q used k before a.0 ∷ []) a.1)) is.0.kept
            (token_nothing (behind_last (before ++ value_argument q used k before a.0 ∷ [])) 1 (breaks_more (arguments q used) l others (before ++ value_argument q used k before a.0 ∷ []) a.1) (mark_kept k before a.0 v is.0)
            (ap (λ (x : Value). breaks_more (arguments q used) l others (before ++ x ∷ []) a.1) is.0.means ∙ later.kept));
        means =
            ap (λ (x : Value). values_more (arguments q used) l others (before ++ x ∷ []) a.1) is.0.means
            ∙ (later.means ∙ append_assoc before (v ∷ []) (w ∷ vs));
      }

  -- the arguments of a form break nothing, and stand for these values
  pub row_breaks : (row : List Argument) (a : Arguments Written row) (vs : List Value) → AreArguments q used row [] a vs → breaks_row (arguments q used) row a ≡ []
  row_breaks [] a vs is = refl
  row_breaks (k ∷ ks) a [] is = absurd is
  row_breaks (k ∷ ks) a (v ∷ vs) is = (row_is k ks [] a v vs is).kept

  pub row_values : (row : List Argument) (a : Arguments Written row) (vs : List Value) → AreArguments q used row [] a vs → values_row (arguments q used) row a ≡ vs
  row_values [] a [] is = refl
  row_values [] a (v ∷ vs) is = absurd is
  row_values (k ∷ ks) a [] is = absurd is
  row_values (k ∷ ks) a (v ∷ vs) is = (row_is k ks [] a v vs is).means

-- 2. Each sort of argument of an instance
abbrev pub one_term : Term → Value
one_term t = of_terms (t ∷ []) None

abbrev pub whole_vector : List Term → Value
whole_vector v = of_terms v None

abbrev pub one_number : ℤ → Value
one_number z = of_numbers (z ∷ [])

module _ (p q : Problem) (has : HasVariables p q) (same : q.tuples ≡ p.tuples) (used : ℕ) where
  abbrev IsTerm : Term → Type 0
  IsTerm t = IsLawfulTerm (domains_of p.decls) t

  -- a term, and a number
  pub term_said : {before : List Value} (t : Term) → IsTerm t → IsArgument q used takes.Term before (entry_of p t) (one_term t)
  term_said t is = record { kept = term_breaks p q has false t is (λ no. cc); means = ap placed_value (term_value p q has false t is); ends = refl }

  pub number_said : {before : List Value} (z : ℤ) → IsArgument q used takes.Number before z (one_number z)
  number_said z = record { kept = refl; means = refl; ends = refl }

  pub range_said : {before : List Value} (lo hi : ℤ) → IsArgument q used takes.Range before (lo, hi) (of_numbers (lo ∷ hi ∷ []))
  range_said lo hi = record { kept = refl; means = refl; ends = refl }

  -- the kinds of vector
  vector_said : {before : List Value} (w : Places) (v : List Term) → FitsBounds p q has (vector_wanted w before) v → IsArgument q used (takes.Vector w) before (vector_of p v) (whole_vector v)
  vector_said {before = before} w v fits = record {
    kept = vector_breaks p q has (vector_wanted w before) v fits;
    means = ap placed_value (vector_value p q has (vector_wanted w before) v fits.lawful);
    ends = refl;
  }

  pub any_said : {before : List Value} (v : List Term) → AllByRecursion IsTerm v → IsShort v → IsArgument q used (takes.Vector places.Any) before (vector_of p v) (whole_vector v)
  any_said v is short = vector_said places.Any v (record { lawful = is; least = omega arith; most = short; short = short; bits = λ no. cc })

  pub some_said : {before : List Value} (v : List Term) → AllByRecursion IsTerm v → IsShort v → (v ≡ [] → ⊥) → IsArgument q used (takes.Vector places.Some) before (vector_of p v) (whole_vector v)
  some_said v is short none = vector_said places.Some v (record { lawful = is; least = filled_length v none; most = short; short = short; bits = λ no. cc })

  pub bits_said : {before : List Value} (v : List Term) → AllByRecursion IsTerm v → IsShort v → AllByRecursion (IsBit (domains_of p.decls)) v → IsArgument q used (takes.Vector places.Bits) before (vector_of p v) (whole_vector v)
  bits_said v is short bits = vector_said places.Bits v (record { lawful = is; least = omega arith; most = short; short = short; bits = λ yes. bits })

  pub like_said : {before : List Value} (v : List Term) → AllByRecursion IsTerm v → IsShort v → length v ≡ length_wanted before → IsArgument q used (takes.Vector places.Alike) before (vector_of p v) (whole_vector v)
  like_said v is short alike = vector_said places.Alike v (record { lawful = is; least = omega (arith, alike); most = omega (arith, alike); short = short; bits = λ no. cc })

  -- the kinds of lists of numbers
  numbers_said : {before : List Value} (w : Numbers) (zs : List ℤ) → IsCount (numbers_wanted w before) (length zs) → IsArgument q used (takes.Numbers w) before (maybe_items zs) (of_numbers zs)
  numbers_said {before = before} w zs is = record {
    kept = list_breaks (numbers_wanted w before) zs is;
    means = ap (λ (xs : List ℤ). of_numbers xs) (list_value (numbers_wanted w before) zs);
    ends = refl;
  }

  pub any_numbers_said : {before : List Value} (zs : List ℤ) → IsArgument q used (takes.Numbers numbers.Any) before (maybe_items zs) (of_numbers zs)
  any_numbers_said zs = numbers_said numbers.Any zs (record { wanted = λ k below. refl; room = λ k below. refl; enough = refl })

  pub pairs_said : {before : List Value} (zs : List ℤ) → IsEven zs → IsArgument q used (takes.Numbers numbers.Pairs) before (maybe_items zs) (of_numbers zs)
  pairs_said zs even = numbers_said numbers.Pairs zs (record { wanted = λ k below. refl; room = λ k below. refl; enough = even_length zs even })

  pub weights_said : {before : List Value} (zs : List ℤ) → length zs ≤ PLACES → IsArgument q used (takes.Numbers numbers.Weights) before (maybe_items zs) (of_numbers zs)
  weights_said zs short = numbers_said numbers.Weights zs (record { wanted = λ k below. refl; room = λ k below. leb_not PLACES k (omega (arith, below, short)); enough = refl })

  pub like_numbers_said : {before : List Value} (zs : List ℤ) → length zs ≤ PLACES → length zs ≡ length_wanted before → IsArgument q used (takes.Numbers numbers.Alike) before (maybe_items zs) (of_numbers zs)
  like_numbers_said {before = before} zs short alike = numbers_said numbers.Alike zs (record {
    wanted = λ k below. leb_not (length_wanted before) k (omega (arith, below, alike));
    room = λ k below. leb_not PLACES k (omega (arith, below, short));
    enough = ap (λ b. b || false) (ltb_not (length zs) (length_wanted before) (omega (arith, alike)));
  })

  -- a table behind its vector
  pub tuples_said : {before : List Value} (tab : Tab) (n : ℕ) → n ≡ length_wanted before → 1 ≤ n → SuitsTable p.tuples (n, tab) → used + length (cells_here tab) ≤ CELLS → IsArgument q used takes.Tuples before (table_of p tab) (of_tuples tab)
  tuples_said {before = before} tab n long least suits room =
      let is = table_said p q has.lawful same used (length_wanted before) tab (omega (arith, long, least)) (subst (λ k. SuitsTable p.tuples (k, tab)) long suits) room in
      record { kept = is.kept; means = ap (λ (t : Tab). of_tuples t) is.means; ends = refl }

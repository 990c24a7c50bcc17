-- What an argument answers, by its kind.
use Rattle.std.proofs.Common.{◌≡◌, ℕ, false, List, Result, sym, subst}
use Rattle.mn_lexer.specs.Terminals.{Terminal}
use Rattle.mn_model.specs.Problem.{Problem}
use Rattle.mn_grammar.specs.Gives.{Gives}
use Rattle.mn_grammar.specs.Reading.{number_at, ret, then_read}
use Rattle.mn_grammar.specs.declared.Stop.{Stop}
use Rattle.mn_references.specs.Entries.{a_term}
use Rattle.mn_references.specs.Referring.{entry_at, vector_at}
use Rattle.mn_references.specs.declared.want.Bounds.{Bounds}
use Rattle.mn_language.specs.Arguments.{Value, Wanted, length_wanted, numbers_wanted, of_numbers, of_tuples, placed_value, vector_wanted}
use Rattle.mn_language.specs.Constructing.{argument_at, no_break, numbers_at, one_number, range_at, table_at}
use Rattle.mn_language.specs.declared.forms.Argument.{Argument}
use Rattle.mn_language.specs.declared.forms.Argument.TheVariants as takes
use Rattle.mn_language.specs.declared.forms.Numbers.{Numbers}
use Rattle.mn_language.specs.declared.forms.Places.{Places}

module _ {A : Type 0} (view : A → Value × List Terminal) (result : Result A Stop) (p : Problem) (used : ℕ) (k : Argument) (vs : List Value) (ts : List Terminal) where
  by_kind : (l : Argument) → k ≡ l → Gives view result (argument_at p used l vs ts) → Gives view result (argument_at p used k vs ts)
  by_kind l is gives = subst (λ (x : Argument). Gives view result (argument_at p used x vs ts)) (sym is) gives

  pub term_gives : k ≡ takes.Term → Gives view result (then_read (entry_at p (a_term p false)) (λ v. ret (placed_value v)) ts) → Gives view result (argument_at p used k vs ts)
  unfolding argument_at
  term_gives is gives = by_kind takes.Term is gives

  pub vector_gives : (places : Places) (b : Bounds) → k ≡ takes.Vector places → b ≡ vector_wanted places vs → Gives view result (then_read (vector_at p b) (λ v. ret (placed_value v)) ts) → Gives view result (argument_at p used k vs ts)
  unfolding argument_at
  vector_gives places b is same gives = by_kind (takes.Vector places) is (subst (λ (x : Bounds). Gives view result (then_read (vector_at p x) (λ v. ret (placed_value v)) ts)) same gives)

  pub number_gives : k ≡ takes.Number → Gives view result (then_read (number_at no_break) (λ z. ret (one_number z)) ts) → Gives view result (argument_at p used k vs ts)
  unfolding argument_at
  number_gives is gives = by_kind takes.Number is gives

  pub numbers_gives : (numbers : Numbers) (w : Wanted) → k ≡ takes.Numbers numbers → w ≡ numbers_wanted numbers vs → Gives view result (then_read (numbers_at w) (λ zs. ret (of_numbers zs)) ts) → Gives view result (argument_at p used k vs ts)
  unfolding argument_at
  numbers_gives numbers w is same gives = by_kind (takes.Numbers numbers) is (subst (λ (x : Wanted). Gives view result (then_read (numbers_at x) (λ zs. ret (of_numbers zs)) ts)) same gives)

  pub range_gives : k ≡ takes.Range → Gives view result (then_read range_at (λ zs. ret (of_numbers zs)) ts) → Gives view result (argument_at p used k vs ts)
  unfolding argument_at
  range_gives is gives = by_kind takes.Range is gives

  pub tuples_gives : (n : ℕ) → k ≡ takes.Tuples → length_wanted vs ≡ n → Gives view result (then_read (table_at p used n) (λ tab. ret (of_tuples tab)) ts) → Gives view result (argument_at p used k vs ts)
  unfolding argument_at
  tuples_gives n is same gives = by_kind takes.Tuples is (subst (λ m. Gives view result (then_read (table_at p used m) (λ tab. ret (of_tuples tab)) ts)) (sym same) gives)

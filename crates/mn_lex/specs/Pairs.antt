-- What changes of a pair of places are towards.
use Rattle.std.specs.Prelude.{◌≡◌, ◌<◌, ◌≤◌, ℕ, ℤ, ◌⊎◌, List, length, slice_get, Option, Some, None}
use Rattle.mn_model.specs.declared.constraint.Term.{Term}
use Rattle.mn_boxes.specs.Sets.{Variable}
use Rattle.mn_closure.specs.Closed.{Asked}
use Rattle.mn_closure.specs.Levels.{Arc}
use Rattle.mn_prop.specs.Losses.{LessAt, MoreAt}
use Rattle.mn_prop.specs.Passes.{AtLeastAt, AtMostAt}
use Rattle.mn_lex.specs.Orders.{AreOneWhere, CanDiffer}

-- the values of x are at most one number, and those of y at least another; and a value that isn't
abbrev pub IsCut : Term → Term → ℤ → ℤ → List (List ℤ) → Type 0
IsCut x y most least box = AtMostAt x most box × AtLeastAt y least box

abbrev pub IsOut : Term → Term → ℤ → ℤ → List (List ℤ) → Term → ℤ → Type 0
IsOut x y most least box t a = MoreAt x most box t a ⊎ LessAt y least box t a

-- each value of the place that has to be supported is P; and one value of one place
abbrev pub EachAsked : List Variable → Term → (ℤ → Type 0) → List (List ℤ) → Type 0
EachAsked vars t P box = (a : ℤ) → Asked Arc vars box t a → P a

abbrev pub ThatAt : Term → ℤ → List (List ℤ) → Term → ℤ → Type 0
ThatAt t a box u b = (u ≡ t) × (b ≡ a)

-- pair i is the first one from a number on that isn't one value
pub record IsOpenPair (from i : ℕ) (box : List (List ℤ)) (v w : List Term) : Type 0 where
  pub behind : from ≤ i
  pub within : i < length v
  pub before : AreOneWhere (λ j. (from ≤ j) × (j < i)) box v w
  pub differ : (x y : Term) → slice_get v i ≡ Some x → slice_get w i ≡ Some y → CanDiffer box x y

-- that pair, or none from the number on
abbrev pub IsNextOpen : ℕ → List (List ℤ) → List Term → List Term → Option ℕ → Type 0
IsNextOpen from box v w None = AreOneWhere (λ j. from ≤ j) box v w
IsNextOpen from box v w (Some i) = IsOpenPair from i box v w

-- The values under which a constraint is tried, and what a forward check finds.
use Rattle.std.specs.Prelude.{◌≡◌, ◌≢◌, ℕ, ◌<◌, nat_eq, ℤ, Bool, true, false, if◌then◌else◌, List, [], ◌∷◌, length, Option, Some, None}
use Rattle.mn_model.specs.Domain.{IsValue}
use Rattle.mn_model.specs.Parts.{places}
use Rattle.mn_model.specs.Variable.{number_of}
use Rattle.mn_model.specs.declared.constraint.Con.{Con}
use Rattle.mn_model.specs.declared.constraint.Term.{Term}
use Rattle.mn_model.specs.declared.variable.VarId.{VarId}
use Rattle.mn_boxes.specs.Boxes.{set_of}
use Rattle.mn_boxes.specs.Places.{PlaceHas}
use Rattle.mn_meaning.specs.Meaning.{value_of}
use Rattle.mn_closure.specs.Closed.{IsAlone}
use Rattle.mn_closure.specs.Levels.{Level, Arc, Fixed, Hull, Last, level}
use Rattle.mn_closure.specs.Supports.{OtherOpen, StandsAt}
use Rattle.mn_boxes.specs.Sets.{Variable}
use Rattle.mn_prop.specs.Contexts.{IsNamed, first_of, place_lo}

-- n is the number of the variable that is tried, if one is
abbrev pub is_tried : Option VarId → ℕ → Bool
is_tried None n = false
is_tried (Some v) n = nat_eq n (number_of v)

-- a of the variable that is tried, and of each other one the least value of its set
abbrev pub tried_value : List (List ℤ) → Option VarId → ℤ → ℕ → ℤ
tried_value sets v a n = if is_tried v n then a else first_of (set_of sets n)

-- values of the variables that are within the limits and in the sets, and that are a at the place
pub record IsTrial (vars : List Variable) (sets : List (List ℤ)) (t : Term) (a : ℤ) (values : ℕ → ℤ) : Type 0 where
  pub valued : (n : ℕ) → IsValue (values n)
  pub there : (u : Term) → IsNamed vars u → PlaceHas sets u (value_of values u)
  pub given : value_of values t ≡ a

-- every place of the constraint other than i has one value alone
abbrev pub OthersAlone : Con → ℕ → List (List ℤ) → Type 0
OthersAlone c i sets = (j : ℕ) (t : Term) → StandsAt c j t → j ≢ i → IsAlone sets t (place_lo sets t)

-- and place i has one value alone too
abbrev pub HasOneAt : Con → List (List ℤ) → ℕ → Type 0
HasOneAt c sets i = (t : Term) → StandsAt c i t → IsAlone sets t (place_lo sets t)

-- whichever place is left out, another one has several values
abbrev pub AlwaysOtherOpen : Con → List (List ℤ) → Type 0
AlwaysOtherOpen c sets = (i : ℕ) → OtherOpen c i sets

-- the place that alone may have several values. None where two have
abbrev pub IsLeft : Con → List (List ℤ) → Option ℕ → Type 0
IsLeft c sets None = AlwaysOtherOpen c sets
IsLeft c sets (Some j) = (j < length (places c)) × OthersAlone c j sets

-- one place at most
abbrev pub has_few_places : List Term → Bool
has_few_places [] = true
has_few_places (x ∷ []) = true
has_few_places (x ∷ y ∷ ts) = false

-- a forward check narrows a constraint of the level and of these places as far as the level says: that is Last, or there is
-- one place at most
abbrev pub is_checked_at : Level → List Term → Bool
is_checked_at Last ts = true
is_checked_at Arc ts = has_few_places ts
is_checked_at Fixed ts = false
is_checked_at Hull ts = false

abbrev pub FitsForwardCheck : Con → Type 0
FitsForwardCheck c = is_checked_at (level c) (places c) ≡ true

-- What parts of a revision are towards.
use Rattle.std.specs.Prelude.{◌≡◌, ℕ, ℤ, ◌⊎◌, true, false, List}
use Rattle.mn_model.specs.declared.constraint.Con.{Con}
use Rattle.mn_model.specs.declared.constraint.Term.{Term}
use Rattle.mn_boxes.specs.Places.{PlaceHas, is_place_bounded}
use Rattle.mn_boxes.specs.Sets.{Variable}
use Rattle.mn_closure.specs.Closed.{Asked}
use Rattle.mn_closure.specs.Levels.{Hull, level}
use Rattle.mn_closure.specs.Supports.{StandsAt, Supported}
use Rattle.mn_prop.specs.Contexts.{IsGreatestAt, IsLeastAt}
use Rattle.mn_prop.specs.Posts.{Posted}

-- the value a at place i is supported, if it is there
abbrev pub ValueSupported : Posted → ℕ → Term → ℤ → List (List ℤ) → Type 0
ValueSupported posted i t a box = PlaceHas box t a → Supported posted.lists posted.con i a box

-- the value at that end of place i is, the least one or the greatest
abbrev pub EndSupported : (List (List ℤ) → Term → ℤ → Type 0) → Posted → ℕ → Term → List (List ℤ) → Type 0
EndSupported IsEndAt posted i t box = (a : ℤ) → IsEndAt box t a → Supported posted.lists posted.con i a box

-- and each value is
abbrev pub AllSupported : Posted → ℕ → Term → List (List ℤ) → Type 0
AllSupported posted i t box = (a : ℤ) → PlaceHas box t a → Supported posted.lists posted.con i a box

-- what has to be supported at place i is
abbrev pub PlaceClosed : List Variable → Posted → ℕ → List (List ℤ) → Type 0
PlaceClosed vars posted i box = (t : Term) (a : ℤ) → StandsAt posted.con i t → Asked (level posted.con) vars box t a → Supported posted.lists posted.con i a box

-- the values of the place go at the ends alone, or there are no others
abbrev pub EndsAlone : List Variable → Term → List (List ℤ) → Type 0
EndsAlone vars t sets = (is_place_bounded vars t ≡ true) ⊎ ((a : ℤ) → PlaceHas sets t a → IsLeastAt sets t a ⊎ IsGreatestAt sets t a)

-- each value of the place has to be supported, wherever it stands
pub record AsksEach (vars : List Variable) (c : Con) (t : Term) : Type 0 where
  pub unbounded : is_place_bounded vars t ≡ false
  pub inner : level c ≡ Hull → ⊥

-- the ends alone have to be
abbrev pub AsksEnds : List Variable → Con → Term → List (List ℤ) → Type 0
AsksEnds vars c t sets = (level c ≡ Hull) ⊎ EndsAlone vars t sets

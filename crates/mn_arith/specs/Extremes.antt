-- The greatest and the least of several places.
use Rattle.std.specs.Prelude.{◌≡◌, ◌≢◌, ℕ, ◌<◌, ℤ, ◌<ℤ◌, ◌≤ℤ◌, ◌⊎◌, int_le, Bool, true, false, List, length, slice_get, Option, Some, None}
use Rattle.mn_model.specs.declared.constraint.Con.{Con}
use Rattle.mn_model.specs.declared.constraint.Con.TheVariants as con
use Rattle.mn_model.specs.declared.constraint.Term.{Term}
use Rattle.mn_boxes.specs.Places.{PlaceHas}
use Rattle.mn_meaning.specs.Families.{IsWithin}
use Rattle.mn_boxes.specs.Sets.{Variable}
use Rattle.mn_prop.specs.Posts.{ClosedUnderLeaf, Posted, beside}
use Rattle.mn_prop.specs.Revising.{PlaceClosed}
use Rattle.mn_arith.specs.declared.extreme.Extreme.{Extreme}

-- x is the greatest of the places, or else the least
abbrev pub extreme_con : Bool → List Term → Term → Con
extreme_con true v x = con.Max v x
extreme_con false v x = con.Min v x

abbrev pub extreme_of : Extreme → Posted
extreme_of e = beside e.inst.now.tuples (extreme_con e.greatest e.terms.now e.x)

-- some value of the place is at most m where m is to be the greatest, and else at least m
pub record Reaches (greatest : Bool) (m : ℤ) (box : List (List ℤ)) (t : Term) : Type 0 where
  pub value : ℤ
  pub there : PlaceHas box t value
  pub within : IsWithin greatest m value

-- so it is with each of the places but that at i
abbrev pub OthersReach : List Term → ℕ → Bool → ℤ → List (List ℤ) → Type 0
OthersReach v i greatest m box = (j : ℕ) (t : Term) → slice_get v j ≡ Some t → j ≢ i → Reaches greatest m box t

-- m is a value of one of the places other than that at i
pub record OtherHas (v : List Term) (i : ℕ) (m : ℤ) (box : List (List ℤ)) : Type 0 where
  pub place : ℕ
  pub term : Term
  pub stands : slice_get v place ≡ Some term
  pub other : place ≢ i
  pub there : PlaceHas box term m

-- with a at place i, m can be the extreme of the places: it is a or a value of another one, and none has to go past it
pub record CanBeExtreme (v : List Term) (i : ℕ) (a : ℤ) (greatest : Bool) (m : ℤ) (box : List (List ℤ)) : Type 0 where
  pub given : IsWithin greatest m a
  pub others : OthersReach v i greatest m box
  pub some : (m ≡ a) ⊎ OtherHas v i m box

-- and some value of x can
pub record SomeExtreme (v : List Term) (x : Term) (i : ℕ) (a : ℤ) (greatest : Bool) (box : List (List ℤ)) : Type 0 where
  pub value : ℤ
  pub there : PlaceHas box x value
  pub can : CanBeExtreme v i a greatest value box

-- whether a doesn't go past m
abbrev pub within : Bool → ℤ → ℤ → Bool
within true m a = int_le a m
within false m a = int_le m a

-- m is a value of the place, and no other one goes past it
pub record IsEndOf (greatest : Bool) (box : List (List ℤ)) (t : Term) (m : ℤ) : Type 0 where
  pub there : PlaceHas box t m
  pub each : (a : ℤ) → PlaceHas box t a → IsWithin greatest m a

-- what the places say of their extreme: it doesn't go past `far`, since none of them does, and it comes as far as `near`, since
-- one of them has to and no other one is past it
pub record IsSpread (greatest : Bool) (v : List Term) (box : List (List ℤ)) (near far : ℤ) : Type 0 where
  pub all : (j : ℕ) (t : Term) (a : ℤ) → slice_get v j ≡ Some t → PlaceHas box t a → IsWithin greatest far a
  pub reach : (j : ℕ) (t : Term) → slice_get v j ≡ Some t → Reaches greatest near box t
  pub place : ℕ
  pub term : Term
  pub stands : slice_get v place ≡ Some term
  pub from : (a : ℤ) → PlaceHas box term a → IsWithin greatest a near

-- none of the places has to go past a value of x
abbrev pub AllReach : Bool → List Term → Term → List (List ℤ) → Type 0
AllReach greatest v x box = (m : ℤ) (j : ℕ) (t : Term) → PlaceHas box x m → slice_get v j ≡ Some t → Reaches greatest m box t

-- some value of x isn't before a
pub record Covers (greatest : Bool) (box : List (List ℤ)) (x : Term) (a : ℤ) : Type 0 where
  pub value : ℤ
  pub there : PlaceHas box x value
  pub within : IsWithin greatest value a

-- none of the places has a value past those of x
abbrev pub AllCovered : Bool → List Term → Term → List (List ℤ) → Type 0
AllCovered greatest v x box = (j : ℕ) (t : Term) (a : ℤ) → slice_get v j ≡ Some t → PlaceHas box t a → Covers greatest box x a

-- the first of the places that has m, if one has
abbrev pub IsHolder : List Term → ℤ → List (List ℤ) → Option ℕ → Type 0
IsHolder v m box None = (j : ℕ) (t : Term) → slice_get v j ≡ Some t → PlaceHas box t m → ⊥
IsHolder v m box (Some i) = (i < length v) × ((t : Term) → slice_get v i ≡ Some t → PlaceHas box t m)

-- what has to be supported of x is, if none of the places has to go past it
abbrev pub OnceReached : List Variable → Posted → Bool → List Term → Term → List (List ℤ) → Type 0
OnceReached vars posted greatest v x box = AllReach greatest v x box → PlaceClosed vars posted (length v) box

-- what is left to be shown when x and the ends of the places are narrowed
abbrev pub OnlyLeft : List Variable → Posted → Bool → List Term → Term → List (List ℤ) → Type 0
OnlyLeft vars posted greatest v x box = PlaceClosed vars posted (length v) box → AllReach greatest v x box → AllCovered greatest v x box → ClosedUnderLeaf vars posted box

-- with a at place i the extreme comes as far as `reach`, and no farther by what the other places have to
pub record IsReachBeside (v : List Term) (i : ℕ) (a : ℤ) (greatest : Bool) (reach : ℤ) (box : List (List ℤ)) : Type 0 where
  pub given : IsWithin greatest reach a
  pub others : OthersReach v i greatest reach box
  pub least : (m : ℤ) → IsWithin greatest m a → OthersReach v i greatest m box → IsWithin greatest m reach

-- two places have a value in common that doesn't come before m
pub record Shares (greatest : Bool) (box : List (List ℤ)) (t u : Term) (m : ℤ) : Type 0 where
  pub value : ℤ
  pub first : PlaceHas box t value
  pub second : PlaceHas box u value
  pub past : IsWithin greatest value m

-- a place other than that at i has such a value in common with x
pub record OtherShares (v : List Term) (x : Term) (i : ℕ) (greatest : Bool) (m : ℤ) (box : List (List ℤ)) : Type 0 where
  pub place : ℕ
  pub term : Term
  pub stands : slice_get v place ≡ Some term
  pub other : place ≢ i
  pub shares : Shares greatest box term x m

-- the least value of the place that is at least a, if there is one
abbrev pub IsFirstFrom : List (List ℤ) → Term → ℤ → Option ℤ → Type 0
IsFirstFrom box t a None = (b : ℤ) → PlaceHas box t b → b <ℤ a
IsFirstFrom box t a (Some first) = PlaceHas box t first × (a ≤ℤ first) × ((b : ℤ) → PlaceHas box t b → (b <ℤ a) ⊎ (first ≤ℤ b))

-- the least value that two places have in common and that is at least a, if there is one
abbrev pub IsNextShared : List (List ℤ) → Term → Term → ℤ → Option ℤ → Type 0
IsNextShared box t u a None = (b : ℤ) → PlaceHas box t b → PlaceHas box u b → b <ℤ a
IsNextShared box t u a (Some first) = PlaceHas box t first × PlaceHas box u first × (a ≤ℤ first) × ((b : ℤ) → PlaceHas box t b → PlaceHas box u b → (b <ℤ a) ⊎ (first ≤ℤ b))

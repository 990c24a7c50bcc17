-- What a choice says of an index, its entry and the result.
use Rattle.std.specs.Prelude.{◌≡◌, ◌<◌, ℕ, ℤ, pos, ◌+ℤ◌, List, length, slice_get, Option, Some, None}
use Rattle.mn_model.specs.declared.constraint.Term.{Term}
use Rattle.mn_boxes.specs.Places.{PlaceHas}
use Rattle.mn_boxes.specs.Sets.{Variable}
use Rattle.mn_closure.specs.Closed.{IsAlone}
use Rattle.mn_prop.specs.Posts.{Posted}
use Rattle.mn_prop.specs.Revising.{PlaceClosed}
use Rattle.mn_element.specs.declared.picking.Wanted.{Wanted}
use Rattle.mn_element.specs.declared.picking.Wanted.TheVariants.{Anything, OfEntry, OfResult}

-- two places have a value in common
pub record Share (box : List (List ℤ)) (t u : Term) : Type 0 where
  pub value : ℤ
  pub first : PlaceHas box t value
  pub second : PlaceHas box u value

-- b is wanted of entry k
abbrev pub IsWanted : Wanted → ℕ → ℤ → Type 0
IsWanted Anything k b = Unit {0}
IsWanted (OfEntry j a) k b = k ≡ j → b ≡ a
IsWanted (OfResult a) k b = b ≡ a

-- entry k and the result have a value in common that is wanted
pub record PicksEntry (box : List (List ℤ)) (v : List Term) (y : Term) (wanted : Wanted) (k : ℕ) : Type 0 where
  pub term : Term
  pub value : ℤ
  pub stands : slice_get v k ≡ Some term
  pub has_entry : PlaceHas box term value
  pub has_result : PlaceHas box y value
  pub so : IsWanted wanted k value

-- so it is with the entry at index i
pub record PicksAt (box : List (List ℤ)) (first : ℤ) (v : List Term) (y : Term) (wanted : Wanted) (i : ℤ) : Type 0 where
  pub entry : ℕ
  pub is : i ≡ pos entry +ℤ first
  pub picks : PicksEntry box v y wanted entry

-- and at some index that x has
pub record Picks (box : List (List ℤ)) (first : ℤ) (v : List Term) (x y : Term) (wanted : Wanted) : Type 0 where
  pub index : ℤ
  pub there : PlaceHas box x index
  pub at_index : PicksAt box first v y wanted index

-- the number of the entry at an index, if there is one
abbrev pub IsEntryAt : ℤ → List Term → ℤ → Option ℕ → Type 0
IsEntryAt first v i None = (k : ℕ) → k < length v → i ≡ pos k +ℤ first → ⊥
IsEntryAt first v i (Some k) = (k < length v) × (i ≡ pos k +ℤ first)

-- where the index is that of one entry alone, what has to be supported of that entry is
abbrev pub EntryClosed : List Variable → Posted → ℤ → List Term → Term → List (List ℤ) → Type 0
EntryClosed vars posted first v x box = (k : ℕ) → k < length v → IsAlone box x (pos k +ℤ first) → PlaceClosed vars posted k box

-- What a pass gathers of an index, the entries and the result.
use Rattle.std.specs.Prelude.{◌≡◌, ◌↔◌, ℤ, ◌⊎◌, IsTrue, List}
use Rattle.mn_model.specs.declared.constraint.Term.{Term}
use Rattle.mn_boxes.specs.Places.{PlaceHas}
use Rattle.mn_boxes.specs.Values.{Values, members}
use Rattle.mn_element.specs.Picks.{PicksAt}
use Rattle.mn_element.specs.Stretches.{Spans}
use Rattle.mn_element.specs.declared.gathered.Picked.{Picked}
use Rattle.mn_element.specs.declared.picking.Wanted.TheVariants.{Anything, OfResult}
use Rattle.mn_element.specs.declared.stretch.Stretch.{Stretch}

abbrev pub HasEndsOf : Stretch → Stretch → Type 0
HasEndsOf old new = (new.lo ≡ old.lo) × (new.hi ≡ old.hi)

-- the sets have room for the indices and for the values of the result
abbrev pub HasRoom : List (List ℤ) → Term → Term → Picked → Type 0
HasRoom box x y p = Spans box p.indices.lo p.indices.hi x × Spans box p.found.lo p.found.hi y

-- the set has the values of the place
abbrev pub HasValuesOf : List (List ℤ) → Term → Values → Type 0
HasValuesOf box t values = (a : ℤ) → IsTrue (members values a) ↔ PlaceHas box t a

-- an index of x with P at which b is picked
pub record PicksAmong (box : List (List ℤ)) (first : ℤ) (v : List Term) (x y : Term) (P : ℤ → Type 0) (b : ℤ) : Type 0 where
  pub index : ℤ
  pub there : PlaceHas box x index
  pub among : P index
  pub picks : PicksAt box first v y (OfResult b) index

-- of the indices with P: those whose entry has a value of the result, and the values of the result that those entries have
pub record IsGathered (box : List (List ℤ)) (first : ℤ) (v : List Term) (x y : Term) (P : ℤ → Type 0) (p : Picked) : Type 0 where
  pub indices : (i : ℤ) → IsTrue (members p.indices.set i) ↔ (PlaceHas box x i × P i × PicksAt box first v y Anything i)
  pub found : (b : ℤ) → PlaceHas box y b → IsTrue (members p.found.set b) ↔ PicksAmong box first v x y P b

-- the same with one more index
pub record GathersAt (box : List (List ℤ)) (first : ℤ) (v : List Term) (y : Term) (i : ℤ) (old new : Picked) : Type 0 where
  pub indices : (j : ℤ) → IsTrue (members new.indices.set j) ↔ (IsTrue (members old.indices.set j) ⊎ ((j ≡ i) × PicksAt box first v y Anything i))
  pub found : (b : ℤ) → PlaceHas box y b → IsTrue (members new.found.set b) ↔ (IsTrue (members old.found.set b) ⊎ PicksAt box first v y (OfResult b) i)

-- The places of a constraint, by the way in which they stand in it.
use Rattle.std.specs.Prelude.{◌≡◌, ℕ, suc, ◌+◌, List, [], ◌∷◌, ◌++◌, length, slice_get, Some, Result, Ok, Err}
use Rattle.mn_model.specs.Parts.{places, places_of}
use Rattle.mn_model.specs.declared.constraint.Con.{size-Con}
use Rattle.mn_model.specs.declared.constraint.Cons.{size-Cons}
use Rattle.mn_model.specs.declared.constraint.Term.{Term}
use Rattle.mn_model.specs.declared.placing.Layout.{Layout}
use Rattle.mn_model.specs.declared.placing.Layout.TheVariants.{Nothing, One, Two, Three, Vector, Vectors, Before, BeforeTwo, Inside, InsideBefore, Children}

-- the places, in written order
abbrev pub laid_out : Layout → List Term
laid_out Nothing = []
laid_out (One x) = x ∷ []
laid_out (Two x y) = x ∷ y ∷ []
laid_out (Three x y z) = x ∷ y ∷ z ∷ []
laid_out (Vector v) = v.now
laid_out (Vectors v w) = v.now ++ w.now
laid_out (Before v x) = v.now ++ x ∷ []
laid_out (BeforeTwo v x y) = v.now ++ x ∷ y ∷ []
laid_out (Inside c) = places c.now
laid_out (InsideBefore c r) = places c.now ++ r ∷ []
laid_out (Children cs) = places_of cs.now

-- one more than the depth of what stands inside, or 0
abbrev pub depth_of : Layout → ℕ
depth_of Nothing = 0
depth_of (One x) = 0
depth_of (Two x y) = 0
depth_of (Three x y z) = 0
depth_of (Vector v) = 0
depth_of (Vectors v w) = 0
depth_of (Before v x) = 0
depth_of (BeforeTwo v x y) = 0
depth_of (Inside c) = suc (size-Con c.now)
depth_of (InsideBefore c r) = suc (size-Con c.now)
depth_of (Children cs) = suc (size-Cons cs.now)

-- the term at i, or else how far i is after the last
abbrev pub IsAt : List Term → ℕ → Result Term ℕ → Type 0
IsAt terms i (Ok term) = slice_get terms i ≡ Some term
IsAt terms i (Err left) = i ≡ length terms + left

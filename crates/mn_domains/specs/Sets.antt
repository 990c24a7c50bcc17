-- What contracts see of the sets that a search works on.
use Rattle.std.specs.Prelude.{ℕ, ℤ, List}
use Rattle.std.specs.List.{AllByRecursion}
use Rattle.mn_boxes.specs.Boxes.{IsBox}
use Rattle.mn_boxes.specs.Sets.{Variable}

-- what a search goes back to: the set of each variable, and the words of all flags
pub record State : Type 0 where
  pub sets : List (List ℤ)
  pub flags : List ℕ

-- the variables, the state now, the states that were saved, the last at the end, and to which constraint each word of flags
-- belongs
pub record Sets : Type 0 where
  pub vars : List Variable
  pub now : State
  pub saved : List State
  pub owners : List ℕ

-- now and whenever they were saved the sets are a box
pub record AreBoxes (s : Sets) : Type 0 where
  pub now : IsBox s.vars s.now.sets
  pub before : AllByRecursion (λ st. IsBox s.vars st.sets) s.saved

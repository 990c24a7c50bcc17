-- The constraint that a propagator narrows.
use Rattle.std.specs.Prelude.{◌≡◌, ℕ, ℤ, true, List}
use Rattle.mn_model.specs.Variable.{number_of}
use Rattle.mn_model.specs.declared.constraint.Con.{Con}
use Rattle.mn_model.specs.declared.constraint.Term.{Term}
use Rattle.mn_model.specs.declared.constraint.Term.TheVariants.{Var, Const, Not}
use Rattle.mn_model.specs.declared.declaration.Tuples.{Tuples}
use Rattle.mn_boxes.specs.Places.{PlaceHas}
use Rattle.mn_boxes.specs.Sets.{Variable}
use Rattle.mn_closure.specs.Closed.{Closed, LeafClosed}
pub use Rattle.mn_closure.specs.Ready.{IsReady}
use Rattle.mn_closure.specs.Supports.{StandsAt}

-- a constraint, and the lists that it may name
pub record Posted : Type 0 where
  pub con : Con
  pub lists : List Tuples

abbrev pub beside : List Tuples → Con → Posted
beside lists c = record { con = c; lists = lists }

-- it is ready to be propagated
abbrev pub IsReadyToRun : List Variable → Posted → Type 0
IsReadyToRun vars posted = IsReady vars posted.lists posted.con

-- the box is closed under the constraint, and under it as a leaf
abbrev pub ClosedUnder : List Variable → Posted → List (List ℤ) → Type 0
ClosedUnder vars posted box = Closed vars posted.lists posted.con true box

abbrev pub ClosedUnderLeaf : List Variable → Posted → List (List ℤ) → Type 0
ClosedUnderLeaf vars posted box = LeafClosed vars posted.lists posted.con box

-- a is a value of the constraint's place i
abbrev pub HasAt : Con → ℕ → ℤ → List (List ℤ) → Type 0
HasAt c i a box = (t : Term) → StandsAt c i t → PlaceHas box t a

-- the term names the variable, and no place of the constraint does
abbrev pub Names : Term → ℕ → Type 0
Names (Var w) v = number_of w ≡ v
Names (Const k) v = ⊥
Names (Not w) v = number_of w ≡ v

abbrev pub NamesNot : Con → ℕ → Type 0
NamesNot c v = (i : ℕ) (t : Term) → StandsAt c i t → Names t v → ⊥

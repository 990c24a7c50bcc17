-- When a box is closed under a constraint, so that nothing more of it can be taken, and when it can meet one.
use Rattle.std.specs.Prelude.{◌≡◌, ℕ, ℤ, pos, ◌⊎◌, Bool, true, false, not, IsTrue, List, []}
use Rattle.std.specs.List.{AllByRecursion}
use Rattle.mn_model.specs.Negation.{negation}
use Rattle.mn_model.specs.Parts.{places}
use Rattle.mn_model.specs.declared.constraint.Con.{Con}
use Rattle.mn_model.specs.declared.constraint.Cons.{Cons}
use Rattle.mn_model.specs.declared.constraint.Con.TheVariants as con
use Rattle.mn_model.specs.declared.constraint.Con.TheBlock.{more_of-Con, more_of-Cons}
use Rattle.mn_model.specs.declared.constraint.Term.{Term}
use Rattle.mn_model.specs.declared.declaration.Tuples.{Tuples}
use Rattle.mn_boxes.specs.Places.{PlaceHas, IsPlaceEnd, is_place_bounded}
use Rattle.mn_boxes.specs.Sets.{Variable}
use Rattle.mn_meaning.specs.Meaning.{Meets}
use Rattle.mn_closure.specs.Levels.{Level, Hull, level}
use Rattle.mn_closure.specs.Supports.{StandsAt, Supported, LeafPossible}

-- the value is there, and has to be supported: each value of a place, but of one whose values go at the ends alone, and at
-- level Hull, the least and the greatest
pub record Asked (l : Level) (vars : List Variable) (box : List (List ℤ)) (t : Term) (a : ℤ) : Type 0 where
  pub there : PlaceHas box t a
  pub ends : IsTrue (is_place_bounded vars t) ⊎ (l ≡ Hull) → IsPlaceEnd box t a

-- the box is closed under a leaf: what has to be supported is; and the leaf holds if it has no places
pub record LeafClosed (vars : List Variable) (lists : List Tuples) (c : Con) (box : List (List ℤ)) : Type 0 where
  pub bare : places c ≡ [] → Meets lists c []
  pub supported : (i : ℕ) (t : Term) (a : ℤ) → StandsAt c i t → Asked (level c) vars box t a → Supported lists c i a box

-- the constraint where it is asserted, its negation where it is denied
abbrev pub signed : Bool → Con → Con
signed true c = c
signed false c = negation c

-- one thing where it is asserted, another where it is denied
abbrev pub IfSays : Bool → Type 0 → Type 0 → Type 0
IfSays true Asserted Denied = Asserted
IfSays false Asserted Denied = Denied

-- the value of r that asserts
abbrev pub bit : Bool → ℤ
bit true = pos 1
bit false = pos 0

-- no other value than a is there
abbrev pub IsAlone : List (List ℤ) → Term → ℤ → Type 0
IsAlone box t a = (b : ℤ) → PlaceHas box t b → b ≡ a

-- the box can meet a constraint (`says` is true) or its negation (false), by its parts
abbrev mutual
  pub PartsPossible : List Tuples → Con → Bool → List (List ℤ) → Type 0
  PartsPossible lists (con.WatchedOr cs) says box = IfSays says (OnePossible lists cs true box) (EachPossible lists cs false box)
  PartsPossible lists (con.WatchedAnd cs) says box = IfSays says (EachPossible lists cs true box) (OnePossible lists cs false box)
  PartsPossible lists (con.Reify' p (more_of-Con c none) r) says box =
      (PlaceHas box r (bit says) × PartsPossible lists c true box) ⊎ (PlaceHas box r (bit (not says)) × PartsPossible lists c false box)
  PartsPossible lists (con.Reifyimply' p (more_of-Con c none) r) says box =
      IfSays says (PlaceHas box r (pos 0) ⊎ (PlaceHas box r (pos 1) × PartsPossible lists c true box)) (PlaceHas box r (pos 1) × PartsPossible lists c false box)
  PartsPossible lists c says box = LeafPossible lists (signed says c) box

  -- some child, and each child
  pub OnePossible : List Tuples → Cons → Bool → List (List ℤ) → Type 0
  OnePossible lists con.End says box = ⊥
  OnePossible lists (con.More' p (more_of-Con c none) q (more_of-Cons cs nothing)) says box = PartsPossible lists c says box ⊎ OnePossible lists cs says box

  pub EachPossible : List Tuples → Cons → Bool → List (List ℤ) → Type 0
  EachPossible lists con.End says box = Unit {0}
  EachPossible lists (con.More' p (more_of-Con c none) q (more_of-Cons cs nothing)) says box = PartsPossible lists c says box × EachPossible lists cs says box

-- two children are possible
abbrev pub TwoPossible : List Tuples → Cons → Bool → List (List ℤ) → Type 0
TwoPossible lists con.End says box = ⊥
TwoPossible lists (con.More' p (more_of-Con c none) q (more_of-Cons cs nothing)) says box =
    (PartsPossible lists c says box × OnePossible lists cs says box) ⊎ TwoPossible lists cs says box

-- the box is closed under a constraint (`says` is true) or its negation (false), by its parts
abbrev mutual
  pub PartsClosed : List Variable → List Tuples → Con → Bool → List (List ℤ) → Type 0
  PartsClosed vars lists (con.WatchedOr cs) says box =
      IfSays says (TwoPossible lists cs true box ⊎ OneClosed vars lists cs true box) (EachClosed vars lists cs false box)
  PartsClosed vars lists (con.WatchedAnd cs) says box =
      IfSays says (EachClosed vars lists cs true box) (TwoPossible lists cs false box ⊎ OneClosed vars lists cs false box)
  PartsClosed vars lists (con.Reify' p (more_of-Con c none) r) says box =
      (PlaceHas box r (bit says) → PartsPossible lists c true box) × (PlaceHas box r (bit (not says)) → PartsPossible lists c false box)
      × (IsAlone box r (bit says) → PartsClosed vars lists c true box) × (IsAlone box r (bit (not says)) → PartsClosed vars lists c false box)
  PartsClosed vars lists (con.Reifyimply' p (more_of-Con c none) r) says box =
      IfSays says
      ((PlaceHas box r (pos 1) → PartsPossible lists c true box) × (IsAlone box r (pos 1) → PartsClosed vars lists c true box))
      (LeafClosed vars lists (con.WLiteral r (pos 1)) box × PartsClosed vars lists c false box)
  PartsClosed vars lists c says box = LeafClosed vars lists (signed says c) box

  -- some child is possible and the box is closed under it. Where it is the only possible one, that is what is asked
  pub OneClosed : List Variable → List Tuples → Cons → Bool → List (List ℤ) → Type 0
  OneClosed vars lists con.End says box = ⊥
  OneClosed vars lists (con.More' p (more_of-Con c none) q (more_of-Cons cs nothing)) says box =
      (PartsPossible lists c says box × PartsClosed vars lists c says box) ⊎ OneClosed vars lists cs says box

  pub EachClosed : List Variable → List Tuples → Cons → Bool → List (List ℤ) → Type 0
  EachClosed vars lists con.End says box = Unit {0}
  EachClosed vars lists (con.More' p (more_of-Con c none) q (more_of-Cons cs nothing)) says box = PartsClosed vars lists c says box × EachClosed vars lists cs says box

-- whether nested forms are taken apart. As long as they aren't, each is a leaf of level Last, whose places are those of its
-- parts in written order and then r
abbrev pub is_taken_apart : Bool
is_taken_apart = false

-- the one by parts, or the one as a leaf
abbrev pub IfApart : Bool → Type 0 → Type 0 → Type 0
IfApart true Parts Leaf = Parts
IfApart false Parts Leaf = Leaf

-- the box can meet the constraint, or its negation
abbrev pub Possible : List Tuples → Con → Bool → List (List ℤ) → Type 0
Possible lists c says box = IfApart is_taken_apart (PartsPossible lists c says box) (LeafPossible lists (signed says c) box)

-- the box is closed under the constraint, or under its negation
abbrev pub Closed : List Variable → List Tuples → Con → Bool → List (List ℤ) → Type 0
Closed vars lists c says box = IfApart is_taken_apart (PartsClosed vars lists c says box) (LeafClosed vars lists (signed says c) box)

-- it is closed under each
abbrev pub ClosedAll : List Variable → List Tuples → List Con → List (List ℤ) → Type 0
ClosedAll vars lists cons box = AllByRecursion (λ c. Closed vars lists c true box) cons

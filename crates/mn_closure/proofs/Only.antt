-- Where two children aren't possible, the one that is is the only one.
use Rattle.std.proofs.Common.{ℤ, ◌⊎◌, inl, inr, ◌↔◌, Bool, List}
use Rattle.mn_model.specs.Decided.{Decided}
use Rattle.mn_model.specs.declared.constraint.Cons.{Cons}
use Rattle.mn_model.specs.declared.constraint.Con.TheVariants as con
use Rattle.mn_model.specs.declared.constraint.Con.TheBlock.{more_of-Con, more_of-Cons}
use Rattle.mn_model.specs.declared.declaration.Tuples.{Tuples}
use Rattle.mn_boxes.specs.Sets.{Variable}
use Rattle.mn_closure.specs.Closed.{OnePossible, TwoPossible, OneClosed}
use Rattle.mn_closure.specs.Laws.{OnlyOneClosed}
use Rattle.mn_closure.specs.Deciding.{decide_one, decide_parts}

only_possible : (vars : List Variable) (lists : List Tuples) (cs : Cons) (says : Bool) (box : List (List ℤ)) → OnlyOneClosed vars lists cs says box → OnePossible lists cs says box
only_possible vars lists con.End says box only = only
only_possible vars lists (con.More' p (more_of-Con c none) q (more_of-Cons cs nothing)) says box (inl here) = inl here.0
only_possible vars lists (con.More' p (more_of-Con c none) q (more_of-Cons cs nothing)) says box (inr later) = inr (only_possible vars lists cs says box later.1)

one_of_only : (vars : List Variable) (lists : List Tuples) (cs : Cons) (says : Bool) (box : List (List ℤ)) → OnlyOneClosed vars lists cs says box → OneClosed vars lists cs says box
one_of_only vars lists con.End says box only = only
one_of_only vars lists (con.More' p (more_of-Con c none) q (more_of-Cons cs nothing)) says box (inl here) = inl (here.0, here.1)
one_of_only vars lists (con.More' p (more_of-Con c none) q (more_of-Cons cs nothing)) says box (inr later) = inr (one_of_only vars lists cs says box later.1)

-- the first child, and what is so of the others
first_or : {First Closed One Two Only : Type 0} → Decided One → First → Closed → ((First × One) ⊎ Two) ⊎ ((First × Closed × (One → ⊥)) ⊎ ((First → ⊥) × Only))
first_or (inl one) first closed = inl (inl (first, one))
first_or (inr none) first closed = inr (inl (first, closed, none))

later_or : {First Closed One Two Only : Type 0} → Decided First → (Only → One) → Two ⊎ Only → ((First × One) ⊎ Two) ⊎ ((First × Closed × (One → ⊥)) ⊎ ((First → ⊥) × Only))
later_or decided one (inl two) = inl (inr two)
later_or (inl first) one (inr only) = inl (inl (first, one only))
later_or (inr none) one (inr only) = inr (inr (none, only))

only_of_one : (vars : List Variable) (lists : List Tuples) (cs : Cons) (says : Bool) (box : List (List ℤ)) → OneClosed vars lists cs says box → TwoPossible lists cs says box ⊎ OnlyOneClosed vars lists cs says box
only_of_one vars lists con.End says box one = absurd one
only_of_one vars lists (con.More' p (more_of-Con c none) q (more_of-Cons cs nothing)) says box (inl here) = first_or (decide_one lists cs says box) here.0 here.1
only_of_one vars lists (con.More' p (more_of-Con c none) q (more_of-Cons cs nothing)) says box (inr later) = later_or (decide_parts lists c says box) (only_possible vars lists cs says box) (only_of_one vars lists cs says box later)

pub one_is_only : (vars : List Variable) (lists : List Tuples) (cs : Cons) (says : Bool) (box : List (List ℤ))
    → (TwoPossible lists cs says box ⊎ OneClosed vars lists cs says box) ↔ (TwoPossible lists cs says box ⊎ OnlyOneClosed vars lists cs says box)
one_is_only vars lists cs says box = (to, from)
  where
    to : TwoPossible lists cs says box ⊎ OneClosed vars lists cs says box → TwoPossible lists cs says box ⊎ OnlyOneClosed vars lists cs says box
    to (inl two) = inl two
    to (inr one) = only_of_one vars lists cs says box one

    from : TwoPossible lists cs says box ⊎ OnlyOneClosed vars lists cs says box → TwoPossible lists cs says box ⊎ OneClosed vars lists cs says box
    from (inl two) = inl two
    from (inr only) = inr (one_of_only vars lists cs says box only)

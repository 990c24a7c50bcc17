-- Constraints of two places that are narrowed to the values which stand in a choice.
use Rattle.std.specs.Prelude.{ℤ, negsuc, ◌+ℤ◌, ◌≤ℤ◌, List}
use Rattle.mn_model.specs.declared.constraint.Con.{Con}
use Rattle.mn_model.specs.declared.constraint.Con.TheVariants as con
use Rattle.mn_model.specs.declared.constraint.Term.{Term}
use Rattle.mn_boxes.specs.Places.{PlaceHas}
use Rattle.mn_boxes.specs.Sets.{Variable}
use Rattle.mn_closure.specs.Closed.{Asked}
use Rattle.mn_closure.specs.Levels.{Arc}
use Rattle.mn_prop.specs.Posts.{Posted, beside}
use Rattle.mn_basic.specs.declared.differ.Differ.{Differ}
use Rattle.mn_basic.specs.declared.ineq.Ineq.{Ineq}
use Rattle.mn_basic.specs.declared.ineq.Order.{Order}
use Rattle.mn_basic.specs.declared.ineq.Order.TheVariants.{AtMost, Below}

-- some value of the place has P
pub record SomeAt (sets : List (List ℤ)) (t : Term) (P : ℤ → Type 0) : Type 0 where
  pub value : ℤ
  pub there : PlaceHas sets t value
  pub has : P value

-- each value of the place that has to be supported has P
abbrev pub EachAsked : List Variable → Term → (ℤ → Type 0) → List (List ℤ) → Type 0
EachAsked vars t P box = (a : ℤ) → Asked Arc vars box t a → P a

abbrev pub differ_between : Term → Term → Con
differ_between x y = con.Diseq x y

abbrev pub differ_of : Differ → Posted
differ_of d = beside d.inst.now.tuples (differ_between d.x d.y)

-- the first place is at most the second and so much
abbrev pub slack_of : Order → ℤ
slack_of (AtMost k) = k
slack_of Below = negsuc 0

abbrev pub order_of : Order → Term → Term → Con
order_of (AtMost k) x y = con.Ineq x y k
order_of Below x y = con.Watchless x y

abbrev pub ineq_of : Ineq → Posted
ineq_of i = beside i.inst.now.tuples (order_of i.order i.x i.y)

-- each value of x is at most some value of y and k, and each value of y is so with some value of x
pub record IsOrdered (x y : Term) (k : ℤ) (box : List (List ℤ)) : Type 0 where
  pub first : (a : ℤ) → PlaceHas box x a → SomeAt box y (λ b. a ≤ℤ (b +ℤ k))
  pub second : (b : ℤ) → PlaceHas box y b → SomeAt box x (λ a. a ≤ℤ (b +ℤ k))
